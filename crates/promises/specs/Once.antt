-- M-105, "List each code once": what it adds to demand 3, and its cases from rule text to codes. (Room is still measured on the branches: When.antt.)
-- Assumes nothing.
use Rattle.std.specs.Prelude.{ℕ, ◌<◌, ◌≡◌, true, List, [], ◌∷◌, ◌++◌, T}
use Rattle.laws.specs.Lists.{split_at, until, count_of}
use Rattle.chars.specs.Utf8.{text_from, chars_from}
use Rattle.chars.specs.Letters.{white, capital, even_capital, odd_capital, lower_of, vowel}
use Rattle.chars.specs.Quoted.{bytes, lines}
use Rattle.rule_text.specs.Forms.{entry, quadruplet, folding, multiline_comment, end_of_line, ending, comment, blanks, later, pair_at, line_at, part, plain, escaped, part_at, letter_at, closing}
use Rattle.rule_text.specs.Items.{items_from}
use Rattle.plate.specs.Bits.{bit, number_at}
use Rattle.builder.specs.Build.{build_answer, verdict}
use Rattle.branches.specs.Branches.{ends_with, extend, met, step, run, over}
use Rattle.plate.specs.Read.{fold_by}
use Rattle.coder.specs.Walk.{walk}
use Rattle.coder.specs.Answer.{joined, room, list_answer, encode_answer}
use Rattle.coder.specs.Answer.{Coded}
use Rattle.promises.specs.Demands.{code_at}
use Rattle.promises.specs.Case.{Case, Codes, BadName, apart}
use Rattle.promises.specs.Starred.{text_s}

-- No code is listed twice.
abbrev pub ListsOnce : Coded → Type 0
ListsOnce a = a.number ≡ 0 → (j k : ℕ) → j < a.count → k < a.count → code_at a j ≡ code_at a k → j ≡ k

-- S with `z` 123456 and `x` `1|2` in all fields
abbrev full : List ℕ
full = text_s ++ lines ("\"z\" \"123456\" \"123456\" \"123456\"" ∷ "\"x\" \"1|2\" \"1|2\" \"1|2\"" ∷ [])

abbrev cases : List Case
cases =
    -- two branches behind the one code: 6 to 12 bytes are refused; in 13 it is one code of 6 bytes and the 7 behind it as lent
    BadName text_s true (bytes "rwrwrwc") 6 12
    ∷ BadName text_s true (bytes "rwrwrwc") 12 12
    ∷ Codes text_s true (bytes "rwrwrwc") 13 (bytes "979797")
    -- four branches, two codes: the doubles do not stand next to their firsts
    ∷ BadName full true (bytes "xzx") 26 12
    ∷ Codes full true (bytes "xzx") 27 (bytes "112345|212345")
    ∷ Codes full true (bytes "cxzc") 447 (bytes "411234|421234|511234|521234")
    ∷ []

-- a double; the last place kept; room measured on the codes
abbrev wrong : List Case
wrong =
    Codes text_s true (bytes "rwrwrwc") 13 (bytes "979797|979797")
    ∷ Codes full true (bytes "xzx") 27 (bytes "112345|112345|212345|212345")
    ∷ Codes full true (bytes "xzx") 27 (bytes "212345|112345")
    ∷ Codes text_s true (bytes "rwrwrwc") 12 (bytes "979797")
    ∷ []

pub codes_once : T (apart cases wrong)
unfolding text_from chars_from white capital even_capital odd_capital lower_of vowel entry quadruplet folding multiline_comment end_of_line ending comment blanks until
    count_of later pair_at line_at part plain escaped part_at letter_at closing items_from split_at bit number_at build_answer verdict ends_with extend met step run over
    fold_by walk joined room list_answer encode_answer
codes_once = tt
