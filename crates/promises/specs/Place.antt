-- M-101, "Say where the name is bad": its cases from rule text to answers. What a place is stands in When.antt, for any name. Assumes nothing.
use Rattle.std.specs.Prelude.{true, List, [], ◌∷◌, ◌++◌, ℕ, T, replicate}
use Rattle.laws.specs.Lists.{split_at, until, count_of}
use Rattle.chars.specs.Utf8.{text_from, chars_from, sound_from}
use Rattle.chars.specs.Letters.{white, capital, even_capital, odd_capital, lower_of, vowel}
use Rattle.chars.specs.Quoted.{bytes}
use Rattle.rule_text.specs.Forms.{entry, quadruplet, folding, multiline_comment, end_of_line, ending, comment, blanks, later, pair_at, line_at, part, plain, escaped, part_at, letter_at, closing}
use Rattle.rule_text.specs.Items.{items_from}
use Rattle.plate.specs.Bits.{bit, number_at}
use Rattle.plate.specs.Read.{fold_by}
use Rattle.builder.specs.Build.{build_answer, verdict}
use Rattle.branches.specs.Branches.{ends_with, extend, met, step, run, over}
use Rattle.coder.specs.Walk.{walk}
use Rattle.coder.specs.Answer.{joined, room, list_answer, encode_answer}
use Rattle.promises.specs.Case.{Case, BadPlace, apart}
use Rattle.promises.specs.Starred.{text_s}

-- list and encode under S refuse a name with a number, at a place
abbrev at : List ℕ → ℕ → ℕ → Case
at name number place = BadPlace text_s true name 447 number place

abbrev cases : List Case
cases =
    -- "the first byte of the earliest sequence", not the byte that breaks it, "also when the name simply ends too soon"
    at (0x61 ∷ 0xE2 ∷ 0x82 ∷ 0x61 ∷ []) 2 1
    ∷ at (0x72 ∷ 0x72 ∷ 0xED ∷ 0xA0 ∷ 0x80 ∷ []) 2 2
    ∷ at (0xC3 ∷ []) 2 0
    ∷ at (replicate 255 0x72 ++ (0xC3 ∷ [])) 2 255
    -- "Order of checks stays": 2 with its own place, though a character that is not allowed stands before it
    ∷ at (0xC6 ∷ 0x80 ∷ 0xFF ∷ []) 2 2
    -- 11 in bytes, not in characters; U+2003 is White_Space
    ∷ at (bytes "abƀ") 11 2
    ∷ at (bytes "\u{2003}ѡ") 11 3
    ∷ at (bytes "éƀѡ") 11 2
    -- "all other answers return 0"
    ∷ at (replicate 257 0x72) 1 0
    ∷ at (replicate 256 0x72 ++ (0xC3 ∷ [])) 1 0
    ∷ BadPlace (bytes "?") true (0x61 ∷ 0xFF ∷ []) 447 10 0
    ∷ BadPlace text_s true (bytes "cc") 5 12 0
    ∷ []

-- the byte that breaks the sequence; the end of the name; characters; the place of 11 with 2; a place with 1, 10 and 12
abbrev wrong : List Case
wrong =
    at (0x61 ∷ 0xE2 ∷ 0x82 ∷ 0x61 ∷ []) 2 3
    ∷ at (0xC3 ∷ []) 2 1
    ∷ at (bytes "\u{2003}ѡ") 11 1
    ∷ at (0xC6 ∷ 0x80 ∷ 0xFF ∷ []) 2 0
    ∷ at (0xC6 ∷ 0x80 ∷ 0xFF ∷ []) 11 0
    ∷ at (replicate 256 0x72 ++ (0xC3 ∷ [])) 1 256
    ∷ BadPlace (bytes "?") true (0x61 ∷ 0xFF ∷ []) 447 10 1
    ∷ BadPlace text_s true (bytes "cc") 5 12 1
    ∷ []

pub places : T (apart cases wrong)
unfolding text_from chars_from sound_from white capital even_capital odd_capital lower_of vowel entry quadruplet folding multiline_comment end_of_line ending comment
    blanks until count_of later pair_at line_at part plain escaped part_at letter_at closing items_from split_at bit number_at build_answer verdict ends_with extend met
    step run over fold_by walk joined room list_answer encode_answer
places = tt
