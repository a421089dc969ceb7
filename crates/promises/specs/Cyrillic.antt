-- Cyrillic names. 02, M-113: "Add U+0400 to U+045F; U+0400 to 040F lower by adding 80, U+0410 to 042F by adding 32." Assumes nothing.
use Rattle.std.specs.Prelude.{ℕ, zero, suc, true, List, [], ◌∷◌, ◌++◌, T}
use Rattle.laws.specs.Lists.{split_at, until, count_of}
use Rattle.chars.specs.Utf8.{text_from, chars_from, sound_from}
use Rattle.chars.specs.Letters.{white, capital, even_capital, odd_capital, lower_of, vowel}
use Rattle.chars.specs.Quoted.{bytes, lines}
use Rattle.rule_text.specs.Forms.{entry, quadruplet, folding, multiline_comment, end_of_line, ending, comment, blanks, later, pair_at, line_at, part, plain, escaped, part_at, letter_at, closing}
use Rattle.rule_text.specs.Items.{items_from}
use Rattle.plate.specs.Bits.{bit, number_at}
use Rattle.builder.specs.Build.{build_answer, verdict}
use Rattle.branches.specs.Branches.{ends_with, extend, met, step, run, over}
use Rattle.plate.specs.Read.{fold_by}
use Rattle.coder.specs.Walk.{walk}
use Rattle.coder.specs.Answer.{joined, room, list_answer, encode_answer}
use Rattle.promises.specs.Case.{Case, Codes, BadName, BadPlace, apart}
use Rattle.promises.specs.Starred.{text_s, under}

-- a rule for the small letter of each edge of the range: U+0450 and U+045F, U+0430 and U+044F; and for the first letter behind it
abbrev edges : List ℕ
edges =
    lines (
    "\"ѐ\" \"1\" \"1\" \"1\"" ∷ "\"џ\" \"2\" \"2\" \"2\"" ∷ "\"а\" \"3\" \"3\" \"3\"" ∷ "\"я\" \"4\" \"4\" \"4\""
    ∷ "\"Ѡ\" \"5\" \"5\" \"5\"" ∷ []
    )

-- S, and ж
abbrev zh : List ℕ
zh = text_s ++ lines ("\"ж\" \"4\" \"4\" \"4\"" ∷ [])

-- n times ж, two bytes each
abbrev times : ℕ → List ℕ
times zero = []
times (suc n) = 0xD0 ∷ 0xB6 ∷ times n

abbrev cases : List Case
cases =
    under edges "Ѐ" "100000"
    ∷ under edges "Џ" "200000"
    ∷ under edges "А" "300000"
    ∷ under edges "Я" "400000"
    ∷ under edges "џ" "200000"
    -- "refusal 11 now excludes that range too", and no further character
    ∷ BadName edges true (bytes "Ͽ") 447 11
    ∷ BadName edges true (bytes "Ѡ") 447 11
    ∷ BadPlace edges true (bytes "яѠ") 447 11 2
    -- a Cyrillic rule among others
    ∷ under zh "Жr" "490000"
    ∷ under zh "rж" "940000"
    ∷ under zh "жж" "400000"
    -- a folding from Cyrillic and one to it
    ∷ under (text_s ++ lines ("р=r" ∷ [])) "Р" "900000"
    ∷ under (zh ++ lines ("q=ж" ∷ [])) "q" "400000"
    -- "name over 256 bytes", not characters
    ∷ Codes zh true (times 128) 447 (bytes "400000")
    ∷ BadName zh true (times 129) 447 1
    ∷ []

-- U+0410 lowered by 80; U+045F refused; not lowered; refused as before
abbrev wrong : List Case
wrong =
    under edges "А" "500000"
    ∷ BadName edges true (bytes "џ") 447 11
    ∷ under edges "Я" "000000"
    ∷ BadName zh true (bytes "ж") 447 11
    ∷ Codes zh true (times 129) 447 (bytes "400000")
    ∷ []

pub cyrillic : T (apart cases wrong)
unfolding text_from chars_from sound_from white capital even_capital odd_capital lower_of vowel entry quadruplet folding multiline_comment end_of_line ending comment
    blanks until count_of later pair_at line_at part plain escaped part_at letter_at closing items_from split_at bit number_at build_answer verdict ends_with extend met
    step run over fold_by walk joined room list_answer encode_answer
cyrillic = tt
