-- Limits, orders and single characters of 01 that neither the starred examples nor `Pinned` pin, as one statement over a third list. Each case shuts out a wrong
-- reading; docs/PROMISES.md says which. Assumes nothing.
use Rattle.std.specs.Prelude.{ℕ, zero, suc, true, false, List, [], ◌∷◌, ◌++◌, map, T, replicate}
use Prim.Native.String.{String}
use Rattle.laws.specs.Lists.{split_at, until, count_of}
use Rattle.chars.specs.Utf8.{text_from, chars_from, sound_from}
use Rattle.chars.specs.Letters.{white, capital, even_capital, odd_capital, lower_of, vowel}
use Rattle.chars.specs.Quoted.{bytes, lines}
use Rattle.rule_text.specs.Forms.{entry, quadruplet, folding, multiline_comment, end_of_line, ending, comment, blanks, later, pair_at, line_at, part, plain, escaped, part_at, letter_at, closing}
use Rattle.rule_text.specs.Items.{items_from}
use Rattle.plate.specs.Bits.{bit, number_at}
use Rattle.plate.specs.Plate.{Rule, Folding}
use Rattle.plate.specs.Read.{fold_by}
use Rattle.plate.specs.Written.{plate_bytes}
use Rattle.builder.specs.Build.{build_answer, verdict}
use Rattle.branches.specs.Branches.{ends_with, extend, met, step, run, over}
use Rattle.coder.specs.Walk.{walk}
use Rattle.coder.specs.Answer.{joined, room, list_answer, encode_answer}
use Rattle.promises.specs.Case.{Case, Codes, BadName, BadPlace, OneCode, NoCode, GoodText, Written, Taken, apart}
use Rattle.promises.specs.Starred.{text_s, under, under_s}

-- S, and a rule behind it with one field three times
abbrev with_rule : String → List ℕ
with_rule rule = text_s ++ lines (rule ∷ [])

-- a name of n characters of two bytes
abbrev accents : ℕ → List ℕ
accents zero = []
accents (suc n) = bytes "é" ++ accents n

-- all spellings of n digits 4 or 5, in order
abbrev spelt : ℕ → List (List ℕ)
spelt zero = [] ∷ []
spelt (suc n) = map (λ l. 52 ∷ l) (spelt n) ++ map (λ l. 53 ∷ l) (spelt n)

abbrev six : List ℕ
six = lines ("\"y\" \"12345\" \"12345\" \"12345\"" ∷ "\"w\" \"67|68\" \"67|68\" \"67|68\"" ∷ [])

-- a plate of n rules; a plate of n foldings
abbrev rule : Rule
rule = record { pattern = bytes "a"; start = [] ∷ []; vowel = [] ∷ []; other = [] ∷ [] }

abbrev ruled : ℕ → List ℕ
ruled n = plate_bytes (record { flag = true; foldings = []; rules = replicate n rule })

abbrev keys : ℕ → ℕ → List Folding
keys zero k = []
keys (suc n) k = record { key = k; target = 97 } ∷ keys n (suc k)

abbrev folded : ℕ → List ℕ
folded n = plate_bytes (record { flag = true; foldings = keys n 1; rules = [] })

abbrev cases : List Case
cases =
    -- encode: "the buffer is under 6 bytes", checked behind 10, 1, 2 and 11
    NoCode text_s true (bytes "cc") 5 12
    ∷ OneCode text_s true (bytes "cc") 6 (bytes "400000")
    ∷ OneCode text_s true (bytes "cc") 7 (bytes "400000")
    ∷ NoCode (bytes "?") true (bytes "cc") 0 10
    ∷ NoCode text_s true (replicate 257 0xFF) 0 1
    ∷ BadPlace text_s true (0xC6 ∷ 0x80 ∷ 0xFF ∷ []) 0 2 2
    ∷ NoCode text_s true (bytes "ƀ") 0 11
    -- "Encode takes the first alternative only": branches do not refuse it
    ∷ OneCode text_s true (bytes "cacacacacacac") 6 (bytes "444444")
    -- room of 64 codes: 447 bytes hold them, 446 do not
    ∷ Codes text_s true (bytes "cacacacacaca") 447 (joined (spelt 6))
    ∷ BadName text_s true (bytes "cacacacacaca") 446 12
    -- "name over 256 bytes", not characters
    ∷ Codes text_s true (accents 128) 6 (bytes "000000")
    ∷ BadName text_s true (accents 129) 6 1
    -- a full code still branches: the two differ in their last replacement, cut or not
    ∷ Codes six true (bytes "yw") 13 (bytes "123456")
    ∷ BadName six true (bytes "yw") 12 12
    -- an equal branch is dropped wherever the earlier one stands; a field that ends with a bar ends with an empty alternative
    ∷ under (with_rule "\"z\" \"4|5|4\" \"4|5|4\" \"4|5|4\"") "z" "400000|500000"
    ∷ under (with_rule "\"z\" \"4|\" \"4|\" \"4|\"") "z" "400000|000000"
    -- "U+0130 gives `i`"; y is no vowel; U+200B is not White_Space
    ∷ under_s "İe" "100000"
    ∷ under (with_rule "\"z\" \"1\" \"2\" \"3\"") "izy" "300000"
    ∷ BadName text_s true (bytes "\u{200b}") 6 11
    -- "between the group characters `m` then `n`": the first character of a longer pattern
    ∷ under (with_rule "\"nx\" \"6\" \"6\" \"6\"") "mnx" "660000"
    -- "fold once, never again": a target is not dropped
    ∷ under (text_s ++ lines ("q= " ∷ "\" \" \"3\" \"3\" \"3\"" ∷ [])) "q" "300000"
    -- rules of one first code point and one byte length stand in text order: `ab`, then `aa`
    ∷ Written (lines ("\"ab\" \"1\" \"\" \"\"" ∷ "\"aa\" \"2\" \"4|\" \"\"" ∷ [])) false
    (0x01 ∷ 0x00 ∷ 0x80 ∷ 0x00 ∷ 0x13 ∷ 0x0B ∷ 0x10 ∷ 0x91 ∷ 0x10 ∷ 0x20 ∷ 0x4C ∷ 0x2C ∷ 0x22 ∷ 0x48 ∷ 0x8A ∷ 0x01 ∷ 0x00 ∷ [])
    -- at most 1,500 rules, 128 foldings: that a plate may have 1,500 the largest one shows (proofs/Largest.antt)
    ∷ Taken (ruled 1501) 10
    ∷ Taken (folded 128) 0
    ∷ Taken (folded 129) 10
    -- a text of 65,536 bytes; in a `//` comment a CR belongs to the comment
    ∷ GoodText (bytes "//" ++ replicate 65534 97) 0 0
    ∷ GoodText (bytes "// a\rb") 0 0
    ∷ []

-- For each kind of case that `Pinned` has not: another answer, an answer in place of a refusal, a refusal in place of an answer.
abbrev wrong : List Case
wrong =
    OneCode text_s true (bytes "cc") 6 (bytes "500000")
    ∷ OneCode text_s true (bytes "cc") 5 (bytes "400000")
    ∷ NoCode text_s true (bytes "cc") 5 10
    ∷ NoCode text_s true (bytes "cc") 6 12
    ∷ Written (lines ("\"ab\" \"1\" \"\" \"\"" ∷ "\"aa\" \"2\" \"4|\" \"\"" ∷ [])) false
    (0x01 ∷ 0x00 ∷ 0x80 ∷ 0x00 ∷ 0x13 ∷ 0x0B ∷ 0x08 ∷ 0x92 ∷ 0x22 ∷ 0x80 ∷ 0x40 ∷ 0x98 ∷ 0x58 ∷ 0x84 ∷ 0x88 ∷ 0x81 ∷ 0x00 ∷ [])
    ∷ Written (bytes "?") false []
    ∷ Taken (ruled 1) 10
    ∷ Taken [] 0
    ∷ []

pub edges : T (apart cases wrong)
unfolding text_from chars_from sound_from white capital even_capital odd_capital lower_of vowel entry quadruplet folding multiline_comment end_of_line ending comment
    blanks until count_of later pair_at line_at part plain escaped part_at letter_at closing items_from split_at bit number_at build_answer verdict ends_with extend met
    step run over fold_by walk joined room list_answer encode_answer
edges = tt
