-- What a plate holds, and what it may hold. 01, "The plate, bits most significant first"; 02, M-106. Assumes nothing.
use Rattle.std.specs.Prelude.{ℕ, Bool, true, cond, ◌&&◌, ◌||◌, List, [], ◌∷◌, length, ◌==◌, nat_le, nat_lt}
use Rattle.laws.specs.Lists.{between, every, same}
use Rattle.chars.specs.Utf8.{char_of, code_of, is_text, scalar}
use Rattle.chars.specs.Digits.{is_alternative}
use Rattle.chars.specs.Digits as digits
pub use Rattle.plate.specs.declared.edition.Edition.{Edition}

pub record Folding : Type 0 where
  pub key : ℕ
  pub target : ℕ

-- The pattern is bytes. The three fields (start, before vowel, default) are lists of alternatives, an alternative its ASCII digits.
pub record Rule : Type 0 where
  pub pattern : List ℕ
  pub start : List (List ℕ)
  pub vowel : List (List ℕ)
  pub other : List (List ℕ)

-- a rule of this pattern, and two rules of one; equal are patterns of equal bytes, whatever the fields
abbrev pub of_pattern : List ℕ → Rule → Bool
of_pattern p r = same r.pattern p

abbrev pub same_pattern : Rule → Rule → Bool
same_pattern r q = of_pattern r.pattern q

pub record Plate : Type 0 where
  pub flag : Bool
  pub foldings : List Folding
  pub rules : List Rule

-- 01: "8 bits edition 1; 10 bits rule count", "at most 512 rules"
abbrev pub edition1 : Edition
edition1 = record { number = 1; width = 10; least = 0; most = 512 }

-- 02, M-106: "Edition 2 has an 11-bit count and 4 zero bits; all else is as in edition 1. [..] an edition 2 plate with 512 or fewer, or over 1,500, is refused"
abbrev pub edition2 : Edition
edition2 = record { number = 2; width = 11; least = 513; most = 1500 }

-- the edition of n rules: "Build writes edition 1 up to 512 rules and edition 2 above"
abbrev pub edition_for : ℕ → Edition
edition_for n = cond (nat_le n edition1.most) edition1 edition2

-- ---- the table's limits: "pattern 1 to 16 bytes, 1 to 8 alternatives, 0 to 6 digits, [..] 128 foldings"

abbrev pub most_bytes : ℕ
most_bytes = 16

abbrev pub most_alternatives : ℕ
most_alternatives = 8

abbrev pub most_digits : ℕ
most_digits = digits.most_digits

abbrev pub most_foldings : ℕ
most_foldings = 128

-- ---- "A plate is accepted exactly if every count and length obeys the table (pattern 1 to 16 bytes, 1 to 8 alternatives, 0 to 6 digits, digits 0 to 9,
-- at most 512 rules, 128 foldings), patterns are UTF-8 without zero bytes, keys and targets are non-zero Unicode scalar values, keys strictly rise,
-- rules never fall in first code point nor, within one, grow in byte length, [..]"

abbrev pub good_field : List (List ℕ) → Bool
good_field f = between 1 most_alternatives (length f) && every is_alternative f

-- a byte, and not zero
abbrev pub nonzero_byte : ℕ → Bool
nonzero_byte b = between 1 255 b

abbrev pub good_pattern : List ℕ → Bool
good_pattern p = between 1 most_bytes (length p) && (every nonzero_byte p && is_text p)

abbrev pub good_rule : Rule → Bool
good_rule r = good_pattern r.pattern && (good_field r.start && (good_field r.vowel && good_field r.other))

abbrev pub nonzero_scalar : ℕ → Bool
nonzero_scalar c = nat_lt 0 c && scalar c

abbrev pub good_folding : Folding → Bool
good_folding f = nonzero_scalar f.key && nonzero_scalar f.target

-- "keys strictly rise"
abbrev pub rising : List Folding → Bool
rising [] = true
rising (f ∷ []) = true
rising (f ∷ g ∷ more) = nat_lt f.key g.key && rising (g ∷ more)

-- the first code point of a rule's pattern
abbrev pub first_code : Rule → ℕ
first_code r = code_of (char_of r.pattern)

-- a rule may stand right before another: first code point rising, or the same and the byte length not growing
abbrev pub may_precede : Rule → Rule → Bool
may_precede r q = nat_lt (first_code r) (first_code q) || (first_code r == first_code q && nat_le (length q.pattern) (length r.pattern))

-- "rules never fall in first code point nor, within one, grow in byte length"
abbrev pub ordered : List Rule → Bool
ordered [] = true
ordered (r ∷ []) = true
ordered (r ∷ q ∷ more) = may_precede r q && ordered (q ∷ more)

abbrev pub good_foldings : List Folding → Bool
good_foldings fs = nat_le (length fs) most_foldings && (every good_folding fs && rising fs)

abbrev pub good_rules : Edition → List Rule → Bool
good_rules e rs = between e.least e.most (length rs) && (every good_rule rs && ordered rs)

-- the plate obeys the table, in an edition
abbrev pub good_in : Edition → Plate → Bool
good_in e p = good_rules e p.rules && good_foldings p.foldings

-- in the edition of its number of rules
abbrev pub good_plate : Plate → Bool
good_plate p = good_in (edition_for (length p.rules)) p
