-- What an accepted plate says at a place, for the coder: where a rule stands, its pattern's characters, its fields. No bit is named
-- above this: a rule's place comes from the place of the one before. Assumes nothing.
use Rattle.std.specs.Prelude.{◌≡◌, ℕ, zero, suc, ◌+◌, ◌-◌, ◌*◌, ◌/◌, ◌^◌, ◌<◌, ◌≤◌, true, cond, List, [], ◌∷◌, length, drop, ◌==◌, nat_lt}
use Rattle.chars.specs.Utf8.{char_of, chars_of, code_of, width_of, is_text}
use Rattle.plate.specs.Plate.{Rule, Folding, good_rule}
use Rattle.plate.specs.Most.{plate_most}
use Rattle.plate.specs.Read.{pattern_at, start_place, vowel_place, other_place, rule_at, rule_end}
use Rattle.plate.specs.declared.Letter.{Letter}
use Rattle.plate.specs.declared.FieldKind.{FieldKind}
use Rattle.plate.specs.declared.FieldKind.TheVariants.{Start, Vowel, Other}
use Rattle.plate.specs.declared.Beginning.{Beginning}
use Rattle.plate.specs.declared.Beginning.TheVariants.{Is, Not, Unsaid}

-- ---- where rules stand

-- A rule of an accepted plate stands at a place.
pub record Here (s : List ℕ) (at : ℕ) : Type 0 where
  pub near : at ≤ plate_most
  pub good : good_rule (rule_at s at) ≡ true

-- n rules stand from a place on
abbrev pub Stands : List ℕ → ℕ → ℕ → Type 0
Stands s zero at = Unit {0}
Stands s (suc n) at = Here s at × Stands s n (rule_end s at)

-- ---- a pattern's characters

-- the characters of the pattern from its byte k on
unfoldable pub letters_from : List ℕ → ℕ → ℕ → List ℕ
letters_from s at k = chars_of (drop k (pattern_at s at))

-- a character begins at byte k, or the pattern ends there
unfoldable pub Mark : List ℕ → ℕ → ℕ → Type 0
Mark s at k = is_text (drop k (pattern_at s at)) ≡ true

abbrev pub letter_at : List ℕ → ℕ → ℕ → Letter
letter_at s at k = let c = char_of (drop k (pattern_at s at)) in record { code = code_of c; width = width_of c }

-- The character at byte k is the first of those from k on; the others follow behind its width. It is not U+0000.
pub record LetterIs (s : List ℕ) (at k : ℕ) (r : Letter) : Type 0 where
  pub is : r ≡ letter_at s at k
  pub front : letters_from s at k ≡ r.code ∷ letters_from s at (k + r.width)
  pub mark : Mark s at (k + r.width)
  pub some : 1 ≤ r.width
  pub within : k + r.width ≤ length (pattern_at s at)
  pub nonzero : 0 < r.code

-- ---- a pattern, compared whole

-- bytes as one number, behind a number
unfoldable pub packed : ℕ → List ℕ → ℕ
packed v [] = v
packed v (b ∷ more) = packed (v * 256 + b) more

-- How a pattern stands to the characters ahead, of which the first `plain` stand as bytes in front of a word of 64 bits.
abbrev pub beginning : List ℕ → ℕ → ℕ → Beginning
beginning p word plain = cond (nat_lt plain (length p)) Unsaid (cond (packed 0 p == word / 2 ^ (64 - 8 * length p)) (Is (length p)) Not)

-- ---- foldings

-- the first key, of keys that rise; past all characters where there is none
abbrev pub first_key : List Folding → ℕ
first_key [] = 0x110000
first_key (f ∷ more) = f.key

-- ---- fields

abbrev pub field_of : Rule → FieldKind → List (List ℕ)
field_of r Start = r.start
field_of r Vowel = r.vowel
field_of r Other = r.other

abbrev pub field_place : List ℕ → ℕ → FieldKind → ℕ
field_place s at Start = start_place s at
field_place s at Vowel = vowel_place s at
field_place s at Other = other_place s at
