-- Two texts in demand 3c's relation (Demands.antt, WiderText), so that nobody need wonder whether it is ever met: several rules widened, an empty field, a
-- pattern twice, foldings elsewhere, another layout. Both build, and a name's codes by the first are among those by the second. Assumes nothing.
use Rattle.std.specs.Prelude.{ℕ, refl, true, List, [], ◌∷◌, T}
use Rattle.laws.specs.Lists.{split_at, until, count_of}
use Rattle.chars.specs.Utf8.{text_from, chars_from}
use Rattle.chars.specs.Letters.{white, capital, even_capital, odd_capital, lower_of, vowel}
use Rattle.chars.specs.Quoted.{bytes, lines}
use Rattle.rule_text.specs.Forms.{entry, quadruplet, folding, multiline_comment, end_of_line, ending, comment, blanks, later, pair_at, line_at, part, plain, escaped, part_at, letter_at, closing}
use Rattle.rule_text.specs.Items.{items_from}
use Rattle.plate.specs.Bits.{bit, number_at}
use Rattle.plate.specs.Read.{fold_by}
use Rattle.builder.specs.Build.{build_answer, verdict}
use Rattle.branches.specs.Branches.{ends_with, extend, met, step, run, over}
use Rattle.coder.specs.Walk.{walk}
use Rattle.coder.specs.Answer.{joined, room, list_answer, encode_answer}
use Rattle.promises.specs.Case.{Case, Codes, apart}
use Rattle.promises.specs.Demands.{WiderText}

abbrev pub narrow : List ℕ
narrow = lines ("à=a" ∷ "" ∷ "\"c\" \"4\" \"\" \"1|2\"" ∷ "\"c\" \"7\" \"7\" \"7\"" ∷ "\"r\" \"9\" \"9\" \"9\"" ∷ "é=e" ∷ [])

abbrev pub wide : List ℕ
wide =
    lines (
    "/* the same rules, wider"
    ∷ "*/"
    ∷ "\"c\"  \"4|5\" \"|3\" \"1|2|1\" // further alternatives in all three fields"
    ∷ " \t"
    ∷ "\"c\" \"7\" \"7\" \"7|\""
    ∷ "à=a // a folding"
    ∷ "\"r\"\t\"9|8\" \"9\" \"9|\""
    ∷ "é=e"
    ∷ []
    )

pub pair : WiderText narrow wide
unfolding split_at entry quadruplet folding multiline_comment end_of_line ending comment blanks until count_of later pair_at line_at part plain escaped part_at letter_at closing items_from
pair = (
  refl,
  (
    record { same = refl; start = (bytes "5" ∷ [], refl); vowel = (bytes "3" ∷ [], refl); other = (bytes "1" ∷ [], refl) },
    (
      record { same = refl; start = ([], refl); vowel = ([], refl); other = ([] ∷ [], refl) },
      (record { same = refl; start = (bytes "8" ∷ [], refl); vowel = ([], refl); other = ([] ∷ [], refl) }, tt),
    ),
  ),
)

abbrev cases : List Case
cases =
    Codes narrow true (bytes "crc") 447 (bytes "491000|492000")
    ∷ Codes wide true (bytes "crc") 447 (bytes "491000|492000|410000|420000|591000|592000|510000|520000")
    ∷ Codes narrow true (bytes "rcà") 447 (bytes "900000")
    ∷ Codes wide true (bytes "rcà") 447 (bytes "900000|930000|800000|830000")
    ∷ []

-- the second text's codes under the first
abbrev wrong : List Case
wrong = Codes narrow true (bytes "rcà") 447 (bytes "900000|930000|800000|830000") ∷ []

pub pair_coded : T (apart cases wrong)
unfolding text_from chars_from white capital even_capital odd_capital lower_of vowel entry quadruplet folding multiline_comment end_of_line ending comment blanks until
    count_of later pair_at line_at part plain escaped part_at letter_at closing items_from split_at bit number_at build_answer verdict ends_with extend met step run over
    fold_by walk joined room list_answer encode_answer
pair_coded = tt
