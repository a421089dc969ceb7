-- What the functions that read a plate answer, in the words of the definitions. Assumes nothing.
use Rattle.std.specs.Prelude.{◌≡◌, ℕ, zero, suc, ◌+◌, ◌/◌, ◌%◌, ◌^◌, ◌<◌, ◌≤◌, Bool, true, ◌&&◌, ◌||◌, List, [], ◌∷◌, length, ◌==◌, nat_le, nat_lt, Option, None, IfSome}
use Rattle.std.specs.Bool.{then_some}
use Rattle.laws.specs.Lists.{every}
use Rattle.chars.specs.Utf8.{char_of, code_of, is_text}
use Rattle.chars.specs.declared.Char.{Char}
use Rattle.chars.specs.declared.Char.TheVariants.{One, Bad, End}
use Rattle.chars.specs.Digits.{is_alternative}
use Rattle.plate.specs.Bits.{number_at}
use Rattle.plate.specs.Plate.{Folding, Rule, edition_for, nonzero_byte, good_field, good_pattern, good_rule, good_folding, rising, first_code, ordered}
use Rattle.plate.specs.Read.{many, past, alternative_at, alternative_end, field_at, field_end, rule_at, rule_end, folding_at, folding_end}
use Rattle.plate.specs.Most.{most_rules}
use Rattle.plate.specs.declared.edition.Head.{Head}
use Rattle.plate.specs.declared.Letter.{Letter}
use Rattle.plate.specs.declared.Seen.{Seen}

-- ---- a pattern's characters

-- n bytes from a place on
abbrev pub bytes_at : List ℕ → ℕ → ℕ → List ℕ
bytes_at s n at = many (λ p. number_at s p 8) (λ p. p + 8) n at

-- a character that is not U+0000
abbrev pub front_of : Char → Option Letter
front_of (One c w) = then_some (nat_lt 0 c) (record { code = c; width = w })
front_of Bad = None
front_of End = None

-- one byte at least, and no more than n
abbrev pub FrontTo : Option Letter → ℕ → Type 0
FrontTo r n = IfSome r (λ l. (1 ≤ l.width) × (l.width ≤ n))

-- UTF-8 without a zero byte
abbrev pub good_text : List ℕ → Bool
good_text p = every nonzero_byte p && is_text p

abbrev pub first_of : List ℕ → Option ℕ
first_of p = then_some (good_pattern p) (code_of (char_of p))

-- ---- places

-- no further than a place
abbrev pub UpTo : Option ℕ → ℕ → Type 0
UpTo r most = IfSome r (λ at. at ≤ most)

-- the last n digits of a number, four bits each, are 0 to 9
abbrev pub last_digits : ℕ → ℕ → Bool
last_digits zero v = true
last_digits (suc n) v = nat_le (v % 16) 9 && last_digits n (v / 16)

abbrev pub alternative_step : List ℕ → ℕ → Option ℕ
alternative_step s at = then_some (is_alternative (alternative_at s at)) (alternative_end s at)

-- n alternatives
abbrev pub alternatives_step : List ℕ → ℕ → ℕ → Option ℕ
alternatives_step s n at = then_some (every is_alternative (many (alternative_at s) (alternative_end s) n at)) (past (alternative_end s) n at)

abbrev pub field_step : List ℕ → ℕ → Option ℕ
field_step s at = then_some (good_field (field_at s at)) (field_end s at)

abbrev pub fields_step : List ℕ → ℕ → Option ℕ
fields_step s at =
    then_some (good_field (field_at s at) && (good_field (field_at s (field_end s at)) && good_field (field_at s (field_end s (field_end s at)))))
    (field_end s (field_end s (field_end s at)))

-- ---- rules

abbrev pub SeenTo : Option Seen → ℕ → Type 0
SeenTo r most = IfSome r (λ q. q.next ≤ most)

-- `may_precede`, by the first code points and the byte lengths
abbrev pub in_order : ℕ → ℕ → ℕ → ℕ → Bool
in_order c n c2 n2 = nat_lt c c2 || (c == c2 && nat_le n2 n)

abbrev pub rule_fits : Rule → ℕ → ℕ → Bool
rule_fits r c n = good_rule r && in_order c n (first_code r) (length r.pattern)

-- what is seen of a rule, and the place behind it
abbrev pub seen_of : Rule → ℕ → Seen
seen_of r at = record { code = first_code r; length = length r.pattern; next = at }

-- the rule at a place
abbrev pub rule_made : List ℕ → ℕ → Option Seen
rule_made s at = let r = rule_at s at in then_some (good_rule r) (seen_of r (rule_end s at))

-- the same behind one of first code point c and n bytes
abbrev pub rule_seen : List ℕ → ℕ → ℕ → ℕ → Option Seen
rule_seen s at c n = let r = rule_at s at in then_some (rule_fits r c n) (seen_of r (rule_end s at))

-- rules in order, behind one of first code point c and n bytes
abbrev pub ordered_behind : ℕ → ℕ → List Rule → Bool
ordered_behind c n [] = true
ordered_behind c n (r ∷ more) = in_order c n (first_code r) (length r.pattern) && ordered (r ∷ more)

-- the rules left
abbrev pub rules_step : List ℕ → ℕ → ℕ → ℕ → ℕ → Option ℕ
rules_step s at left c n =
    let rs = many (rule_at s) (rule_end s) left at in then_some (every good_rule rs && ordered_behind c n rs) (past (rule_end s) left at)

-- ---- foldings

-- keys rising, behind a key
abbrev pub above : ℕ → List Folding → Bool
above k [] = true
above k (f ∷ more) = nat_lt k f.key && rising (f ∷ more)

-- the foldings left
abbrev pub foldings_good : List ℕ → ℕ → ℕ → ℕ → Bool
foldings_good s at left k = let fs = many (folding_at s) folding_end left at in every good_folding fs && above k fs

-- the key of the folding at a place, if that is good behind a key
abbrev pub key_behind : List ℕ → ℕ → ℕ → Option ℕ
key_behind s at k = then_some (good_folding (folding_at s at) && nat_lt k (number_at s at 21)) (number_at s at 21)

-- ---- editions

-- the head that so many rules ask for
pub record HeadIs (rules : ℕ) (r : Head) : Type 0 where
  pub number : r.number ≡ (edition_for rules).number
  pub width : r.width ≡ (edition_for rules).width
  pub byte : r.number < 256
  pub narrow : r.width ≤ 15
  pub room : rules ≤ most_rules → rules < 2 ^ r.width
