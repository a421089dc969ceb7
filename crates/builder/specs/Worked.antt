-- Worked plates, built from their texts, and the line of a refusal, by computation. The third plate was made by a writer of its own, from 01's words.
-- Assumes nothing.
use Rattle.std.specs.Prelude.{ℕ, ◌-◌, Bool, true, false, not, ◌&&◌, ◌||◌, List, [], ◌∷◌, ◌++◌, T, eqb, length, replicate}
use Rattle.laws.specs.Lists.{same, until, count_of, split_at}
use Rattle.chars.specs.Utf8.{text_from}
use Rattle.chars.specs.Quoted.{bytes, lines}
use Rattle.rule_text.specs.Forms.{entry, quadruplet, folding, multiline_comment, end_of_line, ending, comment, blanks, later, pair_at, line_at, part, plain, escaped, part_at, letter_at, closing}
use Rattle.rule_text.specs.Items.{through_newline, items_from}
use Rattle.builder.specs.Build.{Built, build_answer, verdict}
use Rattle.plate.specs.Worked.{whole}

-- 01: "Empty text, flag on: `01 00 00 20`."
abbrev empty : List ℕ
empty = 0x01 ∷ 0x00 ∷ 0x00 ∷ 0x20 ∷ []

-- Four rules and two foldings, flag off: first code point rising, byte length falling (aé has three), text order; a later folding replaces the earlier,
-- a later rule of a pattern is left out.
abbrev ordering : List ℕ
ordering =
    0x01 ∷ 0x01 ∷ 0x00 ∷ 0x80 ∷ 0x00 ∷ 0x07 ∷ 0x00 ∷ 0x00 ∷ 0x18 ∷ 0x80 ∷ 0x01 ∷ 0xD2 ∷ 0x00 ∷ 0x06 ∷ 0x51 ∷ 0xB0 ∷ 0xE1 ∷ 0xD4 ∷ 0x89 ∷ 0x31 ∷ 0x02 ∷ 0x04
    ∷ 0xC2 ∷ 0xC4 ∷ 0x24 ∷ 0x84 ∷ 0x08 ∷ 0x13 ∷ 0x0B ∷ 0x09 ∷ 0x14 ∷ 0x4A ∷ 0xC2 ∷ 0x04 ∷ 0x05 ∷ 0x88 ∷ 0x48 ∷ 0x88 ∷ 0x10 ∷ []

abbrev built : Built → ℕ → ℕ → List ℕ → Bool
built b number n buffer = eqb b.number number && (eqb b.line 0 && (eqb b.length n && same b.buffer buffer))

-- a text and a flag build these bytes: into a buffer of just so many, with a byte behind, and not into one byte less
abbrev builds : List ℕ → Bool → List ℕ → Bool
builds text flag plate =
    let n = length plate in
    let exact = build_answer text flag plate in
    let roomy = build_answer text flag (replicate n 7 ++ (7 ∷ [])) in
    let tight = build_answer text flag (replicate (n - 1) 7) in
    built exact 0 n plate && (built roomy 0 n (plate ++ (7 ∷ [])) && built tight 9 0 (replicate (n - 1) 7))

abbrev one : List ℕ
one = bytes "\"a\" \"0\" \"\" \"\"\n"

-- 02, M-107: the first of two equal patterns stays
abbrev double : List ℕ
double = lines ("\"a\" \"0\" \"\" \"\"" ∷ "\"a\" \"1\" \"2\" \"3\"" ∷ [])

abbrev double_back : List ℕ
double_back = lines ("\"a\" \"1\" \"2\" \"3\"" ∷ "\"a\" \"0\" \"\" \"\"" ∷ [])

abbrev mixed : List ℕ
mixed = lines ("é=e" ∷ "à=a" ∷ "\"b\" \"1\" \"\" \"\"" ∷ "\"ab\" \"2\" \"\" \"\"" ∷ "\"aé\" \"3\" \"\" \"\"" ∷ "à=b" ∷ "\"aa\" \"4|56\" \"\" \"\"" ∷ "\"ab\" \"7\" \"\" \"\"" ∷ [])

-- Each text builds its plate; none builds it with the other flag, or another's, and what is refused builds nothing.
pub worked : T (
    builds one true whole
    && (builds [] true empty && builds mixed false ordering && builds double true whole)
    && not (builds double_back true whole || builds one false whole || builds [] true whole || builds mixed true ordering || builds (bytes "?") true [])
    )
unfolding build_answer verdict text_from split_at entry quadruplet folding multiline_comment end_of_line ending comment blanks until count_of later pair_at line_at part
    plain escaped part_at letter_at closing items_from
worked = tt

-- a text is refused with this number, and this line is given
abbrev refused : List ℕ → ℕ → ℕ → Bool
refused text number line = let b = build_answer text true [] in eqb b.number number && (eqb b.line line && eqb b.length 0)

-- Newlines count wherever they stand before the item: in a comment, in a part, in a folding, as a line end. Those of the item itself do not.
pub lines_worked : T (
    refused (bytes "/*\n*/\r\n\n?\n") 3 4
    && (refused (bytes "\"a\nb\" \"\" \"\" \"\"\n?") 3 3 && (refused (bytes "\n=\n\n?") 3 4 && refused (bytes "\"a\" \"1\n\" \"\" \"\"\n") 7 1))
    -- the fields of a double are checked
    && refused (bytes "\"a\" \"1\" \"\" \"\"\n\"a\" \"x\" \"\" \"\"\n") 7 2
    && not (refused (bytes "/*\n*/\r\n\n?\n") 3 5 || refused (bytes "\"a\" \"1\n\" \"\" \"\"\n") 7 2)
    )
unfolding build_answer verdict text_from split_at entry quadruplet folding multiline_comment end_of_line ending comment blanks until count_of later pair_at line_at part
    plain escaped part_at letter_at closing through_newline items_from
lines_worked = tt
