-- What is noted: rules and foldings as numbers, and the bits of the rules; and what the functions that note answer. A rule's number holds its place, at which
-- the driver reads it again: `view` is that reading. Assumes nothing.
use Rattle.std.specs.Prelude.{ℕ, ◌+◌, ◌-◌, ◌*◌, ◌/◌, ◌%◌, ◌<◌, ◌≤◌, ◌≡◌, true, List, Result, Ok, Err, ◌++◌, map, length, take, drop, set}
use Rattle.laws.specs.Lists.{cat}
use Rattle.laws.specs.Arrays.{Each}
use Rattle.plate.specs.Plate.{Rule, first_code, most_bytes, most_foldings}
use Rattle.plate.specs.Most.{field_most, rule_most, most_rules}
use Rattle.plate.specs.Written.{field_bits, rule_bits}
use Rattle.book.specs.Book.{Book, rule_of, field_fault, rule_fault}
use Rattle.book.specs.Seen.{hashes, slots, hash_of, may_hold, marked}
use Rattle.laws.specs.Sort.{sorted}
use Rattle.book.specs.Sort.{put_pair, folding_in, PairsHeld}
use Rattle.book.specs.Field.{flaw_number}
use Rattle.book.specs.declared.Flaw.{Flaw}
use Rattle.book.specs.declared.Parts.{Parts}
use Rattle.book.specs.declared.Tally.{Tally}

-- ---- a rule as one number: first code point rising, byte length falling, place rising; and its pattern's hash, which orders nothing

-- a rule's place is below this
abbrev pub places : ℕ
places = 65536

-- a pattern's length, in 5 bits, is below this
abbrev pub lengths : ℕ
lengths = 32

abbrev pub key : ℕ → ℕ → ℕ → ℕ → ℕ
key c n at hash = ((c * lengths + (most_bytes - n)) * places + at) * hashes + hash

abbrev pub place_in : ℕ → ℕ
place_in k = k / hashes % places

abbrev pub hash_in : ℕ → ℕ
hash_in k = k % hashes

abbrev pub key_of : Rule → ℕ → ℕ
key_of r at = key (first_code r) (length r.pattern) at (hash_of r.pattern)

-- the rules of some numbers, by a reading of places
abbrev pub rules_in : (ℕ → Rule) → List ℕ → List Rule
rules_in view = map (λ k. view (place_in k))

-- a number stands for a rule without fault before a place
pub record Sure (view : ℕ → Rule) (at k : ℕ) : Type 0 where
  pub is : k ≡ key_of (view (place_in k)) (place_in k)
  pub before : place_in k < at
  pub fine : rule_fault (view (place_in k)) 0 ≡ 0

abbrev pub AllSure : (ℕ → Rule) → ℕ → List ℕ → Type 0
AllSure view at = Each (Sure view at)

-- the hash of each is met
abbrev pub AllMarked : List ℕ → List ℕ → Type 0
AllMarked seen = Each (λ k. may_hold seen (hash_in k) ≡ true)

-- ---- the book that is noted

-- the rules of the numbers noted, in whatever order these stand
abbrev pub rules_of : (ℕ → Rule) → Tally → List ℕ → List Rule
rules_of view tally keys = rules_in view (sorted (take tally.rules keys))

abbrev pub book_of : (ℕ → Rule) → Tally → List ℕ → List ℕ → Book
book_of view tally keys foldings =
    record { foldings = map folding_in (take tally.foldings foldings); rules = rules_of view tally keys; read = tally.read }

-- no more numbers of rules than were read, and no more bits are counted than so many rules can take
pub record KeysHeld (tally : Tally) (keys : List ℕ) : Type 0 where
  pub few : tally.rules ≤ tally.read
  pub few_read : tally.read ≤ most_rules
  pub room : length keys ≡ most_rules
  pub few_bits : tally.bits ≤ rule_most * tally.rules

-- what is noted of the rules before a place, and of foldings
pub record Kept (view : ℕ → Rule) (at : ℕ) (tally : Tally) (keys foldings : List ℕ) : Type 0 where
  pub rules : KeysHeld tally keys
  pub pairs : PairsHeld tally.foldings foldings
  pub sure : AllSure view at (take tally.rules keys)
  pub bits : tally.bits ≡ length (cat rule_bits (rules_of view tally keys))

-- the numbers of the rules noted stand in order
abbrev pub InOrder : Tally → List ℕ → Type 0
InOrder tally keys = sorted (take tally.rules keys) ≡ take tally.rules keys

-- nothing is noted yet
abbrev pub none_noted : Tally
none_noted = record { read = 0; rules = 0; foldings = 0; bits = 0 }

-- ---- what the functions answer

-- the rule of the parts that a driver found
abbrev pub rule_from : Parts → Rule
rule_from p = rule_of p.sep p.pattern.now p.start.now p.vowel.now p.other.now

abbrev pub FieldIs : List (List ℕ) → Result ℕ Flaw → Type 0
FieldIs f (Ok bits) = (field_fault f ≡ 0) × (bits ≡ length (field_bits f)) × (bits ≤ field_most)
FieldIs f (Err flaw) = field_fault f ≡ flaw_number flaw

abbrev pub RuleIs : Rule → ℕ → Result ℕ Flaw → Type 0
RuleIs r n (Ok bits) = (rule_fault r n ≡ 0) × (bits ≡ length (rule_bits r)) × (bits ≤ rule_most)
RuleIs r n (Err flaw) = rule_fault r n ≡ flaw_number flaw

-- one rule more, of so many bits
abbrev pub ruled : Tally → ℕ → Tally
ruled tally bits = record { read = tally.read + 1; rules = tally.rules + 1; foldings = tally.foldings; bits = tally.bits + bits }

-- one rule more that is read and left out
abbrev pub passed : Tally → Tally
passed tally = record { read = tally.read + 1; rules = tally.rules; foldings = tally.foldings; bits = tally.bits }

-- so many foldings
abbrev pub folded : Tally → ℕ → Tally
folded tally n = record { read = tally.read; rules = tally.rules; foldings = n; bits = tally.bits }

-- a rule at a place, with its pattern's hash, can be noted behind the others
pub record Notable (tally : Tally) (keys seen pattern : List ℕ) (at hash : ℕ) : Type 0 where
  pub held : KeysHeld tally keys
  pub slotted : length seen ≡ slots
  pub low : at < places
  pub hashed : hash ≡ hash_of pattern

-- a rule's number is stored behind the others
pub record RuleIn (r : Rule) (at : ℕ) (tally : Tally) (keys seen keys' seen' : List ℕ) (t : Tally) : Type 0 where
  pub fine : rule_fault r tally.read ≡ 0
  pub few : length (rule_bits r) ≤ rule_most
  pub keyed : keys' ≡ set keys tally.rules (key_of r at)
  pub met : seen' ≡ marked seen (hash_of r.pattern)
  pub told : t ≡ ruled tally (length (rule_bits r))

abbrev pub RuleNoted : Rule → ℕ → Tally → List ℕ → List ℕ → List ℕ → List ℕ → Result Tally Flaw → Type 0
RuleNoted r at tally keys seen keys' seen' (Ok t) = RuleIn r at tally keys seen keys' seen' t
RuleNoted r at tally keys seen keys' seen' (Err flaw) = (rule_fault r tally.read ≡ flaw_number flaw) × (keys' ≡ keys) × (seen' ≡ seen)

-- a rule is left out; 02, M-107: "The limit of refusal 8 still counts it, and its fields are still checked"
abbrev pub DoubleNoted : Rule → Tally → Result Tally Flaw → Type 0
DoubleNoted r tally (Ok t) = (rule_fault r tally.read ≡ 0) × (t ≡ passed tally)
DoubleNoted r tally (Err flaw) = rule_fault r tally.read ≡ flaw_number flaw

abbrev pub FoldingNoted : ℕ → ℕ → Tally → List ℕ → List ℕ → Result Tally Flaw → Type 0
FoldingNoted c target tally a a' (Ok t) =
    let put = put_pair c target (take tally.foldings a) in (length put ≤ most_foldings) × (a' ≡ put ++ drop (length put) a) × (t ≡ folded tally (length put))
FoldingNoted c target tally a a' (Err flaw) =
    (most_foldings < length (put_pair c target (take tally.foldings a))) × (flaw_number flaw ≡ 8) × (a' ≡ a)
