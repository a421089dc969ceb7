-- M-103, "A whole ward list in one call": what a call of ward leaves, and two calls; and its cases from rule text to lines. `Written` is what ward leaves: the
-- numbers that come back and the lent buffer afterwards. Assumes nothing.
use Rattle.std.specs.Prelude.{ℕ, ◌-◌, ◌*◌, ◌<◌, ◌≤◌, ◌≡◌, Bool, true, not, ◌&&◌, List, [], ◌∷◌, ◌++◌, map, T, eqb, length, take, drop, get_or, replicate}
use Rattle.laws.specs.Lists as lists
use Rattle.laws.specs.Lists.{In, every, same, cat, split_at, until, count_of}
use Rattle.laws.specs.Arrays.{Each}
use Rattle.chars.specs.Utf8.{text_from, chars_from, sound_from}
use Rattle.chars.specs.Letters.{white, capital, even_capital, odd_capital, lower_of, vowel}
use Rattle.chars.specs.Quoted.{bytes, lines}
use Rattle.rule_text.specs.Forms.{entry, quadruplet, folding, multiline_comment, end_of_line, ending, comment, blanks, later, pair_at, line_at, part, plain, escaped, part_at, letter_at, closing}
use Rattle.rule_text.specs.Items.{items_from}
use Rattle.plate.specs.Bits.{bit, number_at}
use Rattle.plate.specs.Read.{fold_by}
use Rattle.builder.specs.Build.{build_answer, verdict}
use Rattle.branches.specs.Branches.{ends_with, extend, met, step, run, over}
use Rattle.coder.specs.Walk.{walk}
use Rattle.coder.specs.Answer.{Coded, joined, room, list_answer}
use Rattle.ward.specs.Ward.{Written, newline, names, line_of, given, ward_answer}
use Rattle.promises.specs.When.{Check, NotAPlate}
use Rattle.promises.specs.Demands.{Keeps}
use Rattle.promises.specs.Case.{lend, built_of}
use Rattle.promises.specs.Starred.{text_s}

-- ---- the names of a buffer: "each closed by a newline; a last one without newline counts if not empty"

abbrev pub Unbroken : List ℕ → Type 0
Unbroken name = In newline name → ⊥

abbrev pub closed : List ℕ → List ℕ
closed name = name ++ (newline ∷ [])

-- Names that are closed are those of the buffer; a last one behind them, without newline, is one more, unless it is empty. Every buffer is made so.
abbrev pub NamesAre : Type 0
NamesAre =
    ((ns : List (List ℕ)) → Each Unbroken ns
    → (names (cat closed ns) ≡ ns) × ((last : List ℕ) → Unbroken last → 0 < length last → names (cat closed ns ++ last) ≡ ns ++ (last ∷ [])))
    × ((buffer : List ℕ) → (ns : List (List ℕ)) × (last : List ℕ) × Each Unbroken ns × Unbroken last × (buffer ≡ cat closed ns ++ last))

-- ---- "Refusal 10 first. Over 256 names: 1. An output buffer under 448 bytes a name: 12. Each of these covers the whole call and writes nothing."

abbrev pub WardNumber : List ℕ → List ℕ → List ℕ → ℕ → Type 0
WardNumber plate buffer lent n =
    Check n 10 (NotAPlate plate)
    (Check n 1 (256 < length (names buffer))
    (Check n 12 (length lent < 448 * length (names buffer)) (n ≡ 0)))

abbrev pub ward_numbers : List ℕ
ward_numbers = 0 ∷ 1 ∷ 10 ∷ 12 ∷ []

abbrev pub WardRefuses : List ℕ → List ℕ → List ℕ → Written → Type 0
WardRefuses plate buffer lent a = WardNumber plate buffer lent a.number × In a.number ward_numbers × Keeps a.number a.length lent a.buffer

-- No two numbers meet the conditions.
abbrev pub WardExclusive : Type 0
WardExclusive = (plate buffer lent : List ℕ) (n n' : ℕ) → WardNumber plate buffer lent n → WardNumber plate buffer lent n' → n ≡ n'

-- ---- "Write one line a name: its list, or `!` and the refusal in two digits."

-- the lines of the bytes written, told as names are
abbrev pub lines_of : Written → List (List ℕ)
lines_of a = names (take a.length a.buffer)

-- One line a name, in their order, each closed by a newline, and nothing else; the bytes behind them as lent.
pub record WardWrites (plate buffer lent : List ℕ) (a : Written) : Type 0 where
  pub lines : lines_of a ≡ map (given plate) (names buffer)
  pub whole : take a.length a.buffer ≡ cat closed (lines_of a)
  pub within : a.length ≤ length lent
  pub long : length a.buffer ≡ length lent
  pub behind : drop a.length a.buffer ≡ drop a.length lent

abbrev pub WardGives : List ℕ → List ℕ → List ℕ → Written → Type 0
WardGives plate buffer lent a = a.number ≡ 0 → WardWrites plate buffer lent a

-- "Each line equals what a single list call with 447 bytes gives": of a list of name k into any 447 bytes, by the same plate
abbrev pub WardLists : List ℕ → Written → List ℕ → List ℕ → Coded → Type 0
WardLists buffer a name other b =
    a.number ≡ 0 → length other ≡ 447 → (k : ℕ) → k < length (names buffer) → get_or (names buffer) k [] ≡ name → get_or (lines_of a) k [] ≡ line_of b

-- "and depends on no other name; only its place may move": of two wards by one plate, whatever else their buffers hold
abbrev pub WardAlike : List ℕ → Written → List ℕ → Written → Type 0
WardAlike buffer a buffer' b =
    a.number ≡ 0 → b.number ≡ 0 → (j k : ℕ) → j < length (names buffer) → k < length (names buffer') → get_or (names buffer) j [] ≡ get_or (names buffer') k []
    → get_or (lines_of a) j [] ≡ get_or (lines_of b) k []

-- ---- cases under S

-- a plate, the names' bytes, how many bytes are lent, the number and what is written
pub data Case : Type 0 where
  Ward : List ℕ → List ℕ → ℕ → ℕ → List ℕ → Case

abbrev holds : Case → Bool
holds (Ward plate buffer lent number written) =
    let a = ward_answer plate buffer (lend lent) in
    eqb a.number number && (eqb a.length (length written) && same a.buffer (written ++ lend (lent - length written)))

-- under S, and under a plate without rules
abbrev under : List ℕ → ℕ → ℕ → List ℕ → Case
under buffer lent number written = Ward (built_of text_s true) buffer lent number written

abbrev bare : List ℕ → ℕ → ℕ → List ℕ → Case
bare buffer lent number written = Ward (built_of [] true) buffer lent number written

abbrev cases : List Case
cases =
    -- no names: 0 bytes, into none
    under [] 0 0 []
    -- names are split as bytes, before UTF-8
    ∷ under (0xE2 ∷ 10 ∷ 0x82 ∷ []) 896 0 (lines ("!02" ∷ "!02" ∷ []))
    -- a newline alone is one empty name; two are two; a last one counts if it is not empty
    ∷ under (10 ∷ []) 448 0 (lines ("000000" ∷ []))
    ∷ under (bytes "r\n\nm") 1344 0 (lines ("900000" ∷ "000000" ∷ "600000" ∷ []))
    ∷ under (bytes "r\n") 448 0 (lines ("900000" ∷ []))
    -- a CR stays in its name, and is dropped as White_Space
    ∷ under (bytes "r\r\nmn\r") 900 0 (lines ("900000" ∷ "660000" ∷ []))
    -- several codes; the refusals of a name, and the next name is right
    ∷ under (bytes "cc\nƀ\ncacacacacacac\nmm") 1792 0 (lines ("400000|450000|540000|500000" ∷ "!11" ∷ "!12" ∷ "600000" ∷ []))
    ∷ bare (replicate 257 0x72 ++ (10 ∷ 0x72 ∷ [])) 896 0 (lines ("!01" ∷ "000000" ∷ []))
    -- 448 bytes a name, and one less, whatever is written
    ∷ under (bytes "r\nm") 896 0 (lines ("900000" ∷ "600000" ∷ []))
    ∷ under (bytes "r\nm") 895 12 []
    ∷ under (bytes "r") 447 12 []
    -- 257 names into no buffer: 1; 256: 12; and 10 before both
    ∷ bare (replicate 257 10) 0 1 []
    ∷ bare (replicate 256 10 ++ (0x72 ∷ [])) 0 1 []
    ∷ bare (replicate 256 10) 0 12 []
    ∷ Ward [] (replicate 257 10) 0 10 []
    ∷ Ward [] [] 448 10 []
    ∷ []

-- no newline behind the last line; an empty last name; the CR in the line; 12 measured by what is written; 256 names too many; 1 before 10; a refused call that writes
abbrev wrong : List Case
wrong =
    under (bytes "r\nm") 896 0 (bytes "900000\n600000")
    ∷ under (bytes "r\n") 896 0 (lines ("900000" ∷ "000000" ∷ []))
    ∷ under (10 ∷ []) 448 0 []
    ∷ under (bytes "r\r\n") 448 0 (bytes "900000\r\n")
    ∷ under (0xE2 ∷ 10 ∷ 0x82 ∷ []) 896 2 []
    ∷ under (bytes "r\nm") 895 0 (lines ("900000" ∷ "600000" ∷ []))
    ∷ bare (replicate 256 10) 0 1 []
    ∷ Ward [] (replicate 257 10) 0 1 []
    ∷ under (bytes "r") 447 12 (bytes "900000")
    ∷ []

pub ward_cases : T (every holds cases && not (lists.some holds wrong))
unfolding text_from chars_from sound_from white capital even_capital odd_capital lower_of vowel entry quadruplet folding multiline_comment end_of_line ending comment
    blanks until count_of later pair_at line_at part plain escaped part_at letter_at closing items_from split_at bit number_at build_answer verdict ends_with extend met
    step run over fold_by walk joined room list_answer names given ward_answer
ward_cases = tt
