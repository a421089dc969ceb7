-- Which bytes are a plate, and what it says. 01, "The plate is read by a bit reader over the lent bytes. A plate is accepted exactly if [..]".
-- Reading never fails: past the end every bit is 0. What was read is judged afterwards, and `zero_filled` refuses what ran past the end, stopped short or
-- left fill. That these are exactly the bytes of good plates is proved: proofs/Round.antt, plate_reads and plate_exact. Assumes nothing.
use Rattle.std.specs.Prelude.{ℕ, zero, suc, ◌+◌, ◌-◌, ◌*◌, ◌/◌, ◌%◌, Bool, cond, ◌&&◌, List, [], ◌∷◌, length, ◌==◌}
use Rattle.std.proofs.Math.Option.{Option, none, some}
use Rattle.plate.specs.Bits.{number_at}
use Rattle.plate.specs.Plate.{Folding, Rule, Plate, Edition, edition1, edition2, good_in}

-- ---- n things one behind the other, from what stands at a place and the place behind it; and the place behind all

abbrev pub many : {A : Type 0} → (ℕ → A) → (ℕ → ℕ) → ℕ → ℕ → List A
many what behind zero at = []
many what behind (suc n) at = what at ∷ many what behind n (behind at)

abbrev pub past : (ℕ → ℕ) → ℕ → ℕ → ℕ
past behind zero at = at
past behind (suc n) at = past behind n (behind at)

-- ---- what stands at a bit place of the bytes s

-- "3 bits digit count and 4 bits a digit"
abbrev pub alternative_at : List ℕ → ℕ → List ℕ
alternative_at s at = many (λ p. 48 + number_at s p 4) (λ p. p + 4) (number_at s at 3) (at + 3)

abbrev pub alternative_end : List ℕ → ℕ → ℕ
alternative_end s at = at + 3 + 4 * number_at s at 3

-- "4 bits count, then [the alternatives]"
abbrev pub field_at : List ℕ → ℕ → List (List ℕ)
field_at s at = many (alternative_at s) (alternative_end s) (number_at s at 4) (at + 4)

abbrev pub field_end : List ℕ → ℕ → ℕ
field_end s at = past (alternative_end s) (number_at s at 4) (at + 4)

-- "5 bits pattern length in bytes, the bytes; then three fields (start, before vowel, default)"
abbrev pub pattern_at : List ℕ → ℕ → List ℕ
pattern_at s at = many (λ p. number_at s p 8) (λ p. p + 8) (number_at s at 5) (at + 5)

abbrev pub start_place : List ℕ → ℕ → ℕ
start_place s at = at + 5 + 8 * number_at s at 5

abbrev pub vowel_place : List ℕ → ℕ → ℕ
vowel_place s at = field_end s (start_place s at)

abbrev pub other_place : List ℕ → ℕ → ℕ
other_place s at = field_end s (vowel_place s at)

abbrev pub rule_at : List ℕ → ℕ → Rule
rule_at s at = record {
  pattern = pattern_at s at;
  start = field_at s (start_place s at);
  vowel = field_at s (vowel_place s at);
  other = field_at s (other_place s at);
}

abbrev pub rule_end : List ℕ → ℕ → ℕ
rule_end s at = field_end s (other_place s at)

-- "21 bits key, 21 bits target"
abbrev pub folding_at : List ℕ → ℕ → Folding
folding_at s at = record { key = number_at s at 21; target = number_at s (at + 21) 21 }

abbrev pub folding_end : ℕ → ℕ
folding_end at = at + 42

-- the target of a key; a character that is no key stays
unfoldable pub fold_by : List Folding → ℕ → ℕ
fold_by [] c = c
fold_by (f ∷ more) c = cond (f.key == c) f.target (fold_by more c)

-- ---- the head, whose rule count is w bits wide: "8 bits edition [..]; 8 bits folding count; 1 bit folding flag; [..] zero bits"

abbrev pub rule_count : ℕ → List ℕ → ℕ
rule_count w s = number_at s 8 w

abbrev pub folding_count : ℕ → List ℕ → ℕ
folding_count w s = number_at s (8 + w) 8

abbrev pub flag_number : ℕ → List ℕ → ℕ
flag_number w s = number_at s (16 + w) 1

abbrev pub reserved : ℕ → List ℕ → ℕ
reserved w s = number_at s (17 + w) (15 - w)

abbrev pub foldings_place : ℕ
foldings_place = 32

abbrev pub rules_place : ℕ → List ℕ → ℕ
rules_place w s = foldings_place + 42 * folding_count w s

-- ---- the whole plate

abbrev pub plate_at : ℕ → List ℕ → Plate
plate_at w s = record {
  flag = (flag_number w s == 1);
  foldings = many (folding_at s) folding_end (folding_count w s) foldings_place;
  rules = many (rule_at s) (rule_end s) (rule_count w s) (rules_place w s);
}

abbrev pub plate_end : ℕ → List ℕ → ℕ
plate_end w s = past (rule_end s) (rule_count w s) (rules_place w s)

-- "fill [..] bits are zero, and no byte follows": the bits end in the last byte, and what is left of it is zero
abbrev pub zero_filled : List ℕ → ℕ → Bool
zero_filled s end = (end + 7) / 8 == length s && number_at s end (7 - (end + 7) % 8) == 0

abbrev pub accepted_in : Edition → List ℕ → Bool
accepted_in e s =
    (number_at s 0 8 == e.number) && (reserved e.width s == 0 && (good_in e (plate_at e.width s) && zero_filled s (plate_end e.width s)))

abbrev pub read_in : Edition → List ℕ → Option Plate
read_in e s = cond (accepted_in e s) (some (plate_at e.width s)) none

-- What bytes said before there was edition 2. 02, M-106: "Old plates stay valid with the same codes."
abbrev pub read_before : List ℕ → Option Plate
read_before s = read_in edition1 s

-- ---- without an edition, which the first byte tells: nothing above this crate names one

abbrev pub edition_of : List ℕ → Edition
edition_of s = cond (number_at s 0 8 == edition2.number) edition2 edition1

-- the width of the rule count
abbrev pub count_width : List ℕ → ℕ
count_width s = (edition_of s).width

-- the most rules
abbrev pub most_of : List ℕ → ℕ
most_of s = (edition_of s).most

-- The bytes are a plate, and what they say.
abbrev pub accepted : List ℕ → Bool
accepted s = accepted_in (edition_of s) s

abbrev pub plate_in : List ℕ → Plate
plate_in s = plate_at (count_width s) s

-- The plate that bytes are, if they are one.
abbrev pub read_plate : List ℕ → Option Plate
read_plate s = cond (accepted s) (some (plate_in s)) none
