-- Only one answer satisfies each promise of this crate, for each says its answer by an equation. Assumes nothing.
use Rattle.std.proofs.Common.{Option, ◌≡◌, ℕ, ◌+◌, ◌^◌, ◌<◌, ◌≤◌, Bool, List, ◌++◌, length, take, Bor}
use Rattle.laws.proofs.Only.{only}
use Rattle.chars.specs.Utf8.{char_of}
use Rattle.plate.specs.Bits.{number_at}
use Rattle.plate.specs.Plate.{most_digits}
use Rattle.plate.specs.Most.{most_rules}
use Rattle.plate.specs.Field.{padded}
use Rattle.plate.specs.Read.{pattern_at, rule_at, folding_at, fold_by, rules_place, count_width, most_of, accepted, plate_in}
use Rattle.plate.specs.Answers.{bytes_at, front_of, FrontTo, good_text, HeadIs}
use Rattle.plate.specs.Stands.{Stands, LetterIs, beginning, first_key, field_of}
use Rattle.plate.specs.declared.edition.Head.{Head}
use Rattle.plate.specs.declared.Letter.{Letter}
use Rattle.plate.specs.declared.Beginning.{Beginning}
use Rattle.plate.specs.declared.FieldKind.{FieldKind}
use Rattle.plate.specs.declared.reader.BitReader.{BitReader}
use Rattle.plate.specs.declared.reader.Folding.{Folding}

module _ (s : List ℕ) where
  -- `size` alike
  pub bits : (at n r r' : ℕ) → (r ≡ number_at s at n) × (r < 2 ^ n) → (r' ≡ number_at s at n) × (r' < 2 ^ n) → r ≡ r'
  bits at n r r' e f = only e.0 f.0

  pub wide_front : (at n : ℕ) (r r' : Option Letter) → r ≡ front_of (char_of (bytes_at s n at)) → r' ≡ front_of (char_of (bytes_at s n at)) → r ≡ r'
  wide_front at n r r' e f = only e f

  pub front : (at n : ℕ) (r r' : Option Letter) → (r ≡ front_of (char_of (bytes_at s n at))) × FrontTo r n → (r' ≡ front_of (char_of (bytes_at s n at))) × FrontTo r' n → r ≡ r'
  front at n r r' e f = only e.0 f.0

  pub is_text : (at n : ℕ) (r r' : Bool) → r ≡ good_text (bytes_at s n at) → r' ≡ good_text (bytes_at s n at) → r ≡ r'
  is_text at n r r' e f = only e f

  pub head_of : (rules : ℕ) (r r' : Head) → HeadIs rules r → HeadIs rules r' → r ≡ r'
  head_of rules r r' e f = λ i. record { number = only e.number f.number i; width = only e.width f.width i }

  pub most_rules_lem : (r r' : ℕ) → (r ≡ most_of s) × (r ≤ most_rules) → (r' ≡ most_of s) × (r' ≤ most_rules) → r ≡ r'
  most_rules_lem r r' e f = only e.0 f.0

  pub accept : (r r' : Bool) → r ≡ accepted s → r' ≡ accepted s → r ≡ r'
  accept r r' e f = only e f

  pub flag : (r r' : Bool) → r ≡ (plate_in s).flag → r' ≡ (plate_in s).flag → r ≡ r'
  flag r r' e f = only e f

  pub fold : (c r r' : ℕ) → r ≡ fold_by (plate_in s).foldings c → r' ≡ fold_by (plate_in s).foldings c → r ≡ r'
  fold c r r' e f = only e f

  pub first_key_lem : (r r' : ℕ) → r ≡ first_key (plate_in s).foldings → r' ≡ first_key (plate_in s).foldings → r ≡ r'
  first_key_lem r r' e f = only e f

  pub rule_count : (r r' : ℕ) → (r ≡ length (plate_in s).rules) × Stands s r (rules_place (count_width s) s)
      → (r' ≡ length (plate_in s).rules) × Stands s r' (rules_place (count_width s) s) → r ≡ r'
  rule_count r r' e f = only e.0 f.0

  pub pattern_length : (at r r' : ℕ) → (r ≡ length (pattern_at s at)) × (0 < r) × (r ≤ 16) → (r' ≡ length (pattern_at s at)) × (0 < r') × (r' ≤ 16) → r ≡ r'
  pattern_length at r r' e f = only e.0 f.0

  pub pattern_char : (at k : ℕ) (r r' : Letter) → LetterIs s at k r → LetterIs s at k r' → r ≡ r'
  pattern_char at k r r' e f = only e.is f.is

  pub pattern_begins : (at word plain : ℕ) (r r' : Beginning) → r ≡ beginning (pattern_at s at) word plain → r' ≡ beginning (pattern_at s at) word plain → r ≡ r'
  pattern_begins at word plain r r' e f = only e f

  pub field : (at : ℕ) (which : FieldKind) (most : ℕ) (r r' : List (List ℕ)) → r ≡ take most (field_of (rule_at s at) which) → r' ≡ take most (field_of (rule_at s at) which) → r ≡ r'
  field at which most r r' e f = only e f

  pub folding_at_lem : (at : ℕ) (r r' : Folding) → (r.key ≡ (folding_at s at).key) × (r.target ≡ (folding_at s at).target) → (r'.key ≡ (folding_at s at).key) × (r'.target ≡ (folding_at s at).target) → r ≡ r'
  folding_at_lem at r r' e f = λ i. record { key = only e.0 f.0 i; target = only e.1 f.1 i }

-- The bit reader. A reader is the slice that it holds and its place, so what is said of both leaves one reader.
module _ (bytes : Bor (List ℕ)) (at : ℕ) where
  pub new : (r r' : BitReader) → (r.bytes ≡ bytes) × (r.at ≡ at) → (r'.bytes ≡ bytes) × (r'.at ≡ at) → r ≡ r'
  new r r' e f = λ i. record { bytes = only e.0 f.0 i; at = only e.1 f.1 i }

module _ (b : BitReader) (n : ℕ) where
  pub reader_bits : (r r' : ℕ) → (r ≡ number_at b.bytes.now b.at n) × (r < 2 ^ n) → (r' ≡ number_at b.bytes.now b.at n) × (r' < 2 ^ n) → r ≡ r'
  reader_bits r r' e f = only e.0 f.0

  pub behind : (r r' : BitReader) → (r.bytes ≡ b.bytes) × (r.at ≡ b.at + n) → (r'.bytes ≡ b.bytes) × (r'.at ≡ b.at + n) → r ≡ r'
  behind r r' e f = new b.bytes (b.at + n) r r' e f

-- Digits and a field, as they are held.
pub digits : (ds r r' : List ℕ) → r ≡ ds → r' ≡ ds → r ≡ r'
digits ds r r' e f = only e f

pub padded_lem : (ds r r' : List ℕ) → r ≡ padded ds → r' ≡ padded ds → r ≡ r'
padded_lem ds r r' e f = only e f

pub append : (ds more r r' : List ℕ) → r ≡ take most_digits (ds ++ more) → r' ≡ take most_digits (ds ++ more) → r ≡ r'
append ds more r r' e f = only e f

pub alternatives : (field r r' : List (List ℕ)) → r ≡ field → r' ≡ field → r ≡ r'
alternatives field r r' e f = only e f
