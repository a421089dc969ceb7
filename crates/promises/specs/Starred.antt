-- The twelve starred examples of 01, "Examples to hold against it", from rule text to codes, as one statement over a list, and beside it
-- wrong ones. Assumes nothing.
use Rattle.std.specs.Prelude.{ℕ, true, List, [], ◌∷◌, ◌++◌, T}
use Prim.Native.String.{String}
use Rattle.laws.specs.Lists.{split_at, until, count_of}
use Rattle.chars.specs.Utf8.{text_from, chars_from}
use Rattle.chars.specs.Letters.{white, capital, even_capital, odd_capital, lower_of, vowel}
use Rattle.chars.specs.Quoted.{bytes, lines}
use Rattle.rule_text.specs.Forms.{entry, quadruplet, folding, multiline_comment, end_of_line, ending, comment, blanks, later, pair_at, line_at, part, plain, escaped, part_at, letter_at, closing}
use Rattle.rule_text.specs.Items.{items_from}
use Rattle.plate.specs.Bits.{bit, number_at}
use Rattle.builder.specs.Build.{build_answer, verdict}
use Rattle.branches.specs.Branches.{ends_with, extend, met, step, run, over}
use Rattle.plate.specs.Read.{fold_by}
use Rattle.coder.specs.Walk.{walk}
use Rattle.coder.specs.Answer.{joined, room, list_answer, encode_answer}
use Rattle.promises.specs.Case.{Case, Codes, apart}

-- 01: "Small text S, built with the flag on: `à=a`; rules `a` and `o` with 0, empty, empty; `ie` 1, empty, empty; `ch` and `c` with `4|5` in all three
-- fields; `r` 9, `s` 4, `w` 7, `m` 6, `n` 6 in all three; `h` 5, 5, empty."
abbrev pub text_s : List ℕ
text_s =
    lines (
    "à=a"
    ∷ "\"a\" \"0\" \"\" \"\""
    ∷ "\"o\" \"0\" \"\" \"\""
    ∷ "\"ie\" \"1\" \"\" \"\""
    ∷ "\"ch\" \"4|5\" \"4|5\" \"4|5\""
    ∷ "\"c\" \"4|5\" \"4|5\" \"4|5\""
    ∷ "\"r\" \"9\" \"9\" \"9\""
    ∷ "\"s\" \"4\" \"4\" \"4\""
    ∷ "\"w\" \"7\" \"7\" \"7\""
    ∷ "\"m\" \"6\" \"6\" \"6\""
    ∷ "\"n\" \"6\" \"6\" \"6\""
    ∷ "\"h\" \"5\" \"5\" \"\""
    ∷ []
    )

-- codes under a text, in a buffer that holds 64
abbrev pub under : List ℕ → String → String → Case
under text name codes = Codes text true (bytes name) 447 (bytes codes)

abbrev pub under_s : String → String → Case
under_s = under text_s

abbrev pub cases : List Case
cases =
    under_s "" "000000"
    ∷ under_s "mm" "600000"
    ∷ under_s "mn" "660000"
    ∷ under_s "nm" "660000"
    ∷ under_s "mon" "660000"
    ∷ under_s "xh" "500000"
    ∷ under_s "ih" "000000"
    ∷ under_s "rh" "900000"
    ∷ under_s "rha" "950000"
    ∷ under_s "cc" "400000|450000|540000|500000"
    ∷ under_s "rwrwrwc" "979797"
    -- "S with one more rule, `z` with `4|4` in all three: `z` lists `400000` alone."
    ∷ under (text_s ++ bytes "\"z\" \"4|4\" \"4|4\" \"4|4\"\n") "z" "400000"
    ∷ []

-- another code, a code less, a code more, the same codes in another order
abbrev wrong : List Case
wrong =
    under_s "mm" "660000"
    ∷ under_s "cc" "400000|450000|540000"
    ∷ under (text_s ++ bytes "\"z\" \"4|4\" \"4|4\" \"4|4\"\n") "z" "400000|400000"
    ∷ under_s "cc" "400000|450000|500000|540000"
    ∷ []

pub starred : T (apart cases wrong)
unfolding text_from chars_from white capital even_capital odd_capital lower_of vowel entry quadruplet folding multiline_comment end_of_line ending comment blanks until
    count_of later pair_at line_at part plain escaped part_at letter_at closing items_from split_at bit number_at build_answer verdict ends_with extend met step run over
    fold_by walk joined room list_answer encode_answer
starred = tt
