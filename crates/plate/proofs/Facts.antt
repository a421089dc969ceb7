-- What is known of an accepted plate: each of its rules is good and stands where the one before ends, and the keys of its foldings rise. `accepted_in`
-- says so of the plate's lists; a rule's place stays small because there are few rules, and a good rule has few bits. Assumes nothing.
use Rattle.std.proofs.Common.{◌≡◌, ℕ, zero, suc, ◌+◌, ◌*◌, ◌<◌, ◌≤◌, Bool, true, cond, ◌&&◌, eqb, leb, List, length, sym, ap, ◌∙◌, subst, arith, eq-eqb, ne_eqb, le-leb, leb-true}
use borrow.Author.Tests.{lt-leb}
use Rattle.laws.specs.Lists.{every, between}
use Rattle.laws.proofs.Tests.{and_true, between_true, by_test}
use Rattle.chars.specs.Digits.{digit, is_alternative}
use Rattle.plate.specs.Bits.{number_at}
use Rattle.plate.specs.Plate.{Edition, edition1, edition2, edition_for, most_bytes, most_alternatives, most_digits, most_foldings, good_pattern, good_field, good_rule, good_folding, rising, ordered}
use Rattle.plate.specs.Plate.{good_foldings, good_rules, good_in}
use Rattle.plate.specs.Most.{most_rules, alternative_most, field_most, rule_most, plate_most}
use Rattle.plate.specs.Read.{many, alternative_at, alternative_end, field_at, field_end, start_place, vowel_place, other_place, rule_at, rule_end, folding_at, folding_end}
use Rattle.plate.specs.Read.{rule_count, folding_count, reserved, foldings_place, rules_place, plate_at, plate_end, zero_filled, accepted_in, edition_of, count_width, accepted, plate_in}
use Rattle.plate.specs.Answers.{good_text}
use Rattle.plate.specs.Stands.{Stands}
use Rattle.plate.proofs.Listed.{length_many, past_most}

-- ---- what the tests say

module _ (e : Edition) (s : List ℕ) (h : accepted_in e s ≡ true) where
  -- What an accepted plate says is good.
  pub says_good : good_in e (plate_at e.width s) ≡ true
  says_good =
      let p = plate_at e.width s in
      let z = zero_filled s (plate_end e.width s) in
      let b = and_true (eqb (number_at s 0 8) e.number) (eqb (reserved e.width s) 0 && (good_in e p && z)) h in
      let c = and_true (eqb (reserved e.width s) 0) (good_in e p && z) b.1 in
      (and_true (good_in e p) z c.1).0

  rules_table : (between e.least e.most (length (plate_at e.width s).rules) ≡ true)
      × (every good_rule (plate_at e.width s).rules && ordered (plate_at e.width s).rules ≡ true)
  rules_table =
      let p = plate_at e.width s in
      let b = and_true (good_rules e p.rules) (good_foldings p.foldings) says_good in
      and_true (between e.least e.most (length p.rules)) (every good_rule p.rules && ordered p.rules) b.0

  foldings_table : (leb (length (plate_at e.width s).foldings) most_foldings ≡ true)
      × (every good_folding (plate_at e.width s).foldings && rising (plate_at e.width s).foldings ≡ true)
  foldings_table =
      let p = plate_at e.width s in
      let b = and_true (good_rules e p.rules) (good_foldings p.foldings) says_good in
      and_true (leb (length p.foldings) most_foldings) (every good_folding p.foldings && rising p.foldings) b.1

-- The first byte tells the edition.
module _ (s : List ℕ) (v : ℕ) (e : v ≡ number_at s 0 8) where
  pub tells_2 : v ≡ edition2.number → edition_of s ≡ edition2
  tells_2 h = ap (λ (t : Bool). cond t edition2 edition1) (eq-eqb (number_at s 0 8) 2 (sym e ∙ h))

  pub tells_1 : (v ≡ edition2.number → ⊥) → edition_of s ≡ edition1
  tells_1 h = ap (λ (t : Bool). cond t edition2 edition1) (ne_eqb (number_at s 0 8) 2 (λ f. h (e ∙ f)))

-- So does the number of rules, for the plate to be written.
pub asks_1 : (n : ℕ) → n ≤ edition1.most → edition_for n ≡ edition1
asks_1 n h = ap (λ (t : Bool). cond t edition1 edition2) (le-leb n 512 h)

pub asks_2 : (n : ℕ) → edition1.most < n → edition_for n ≡ edition2
asks_2 n h = ap (λ (t : Bool). cond t edition1 edition2) (lt-leb n 512 h)

-- The most rules of an edition are no more than those of any.
pub most_few : (s : List ℕ) → (edition_of s).most ≤ most_rules
most_few s = by_test (λ e. e.most ≤ most_rules) (eqb (number_at s 0 8) edition2.number) edition2 edition1 (λ _. omega arith) (λ _. omega arith)

module _ (s : List ℕ) (h : accepted s ≡ true) where
  abbrev w : ℕ
  w = count_width s

  pub rules_counted : length (plate_in s).rules ≡ rule_count w s
  rules_counted = length_many (rule_at s) (rule_end s) (rule_count w s) (rules_place w s)

  pub rules_few : rule_count w s ≤ most_rules
  rules_few =
      let n = between_true (edition_of s).least (edition_of s).most (length (plate_in s).rules) (rules_table (edition_of s) s h).0 in
      omega (arith, n.1, most_few s, rules_counted)

  pub foldings_few : folding_count w s ≤ most_foldings
  foldings_few =
      let n = leb-true (length (plate_in s).foldings) most_foldings (foldings_table (edition_of s) s h).0 in
      subst (λ (k : ℕ). k ≤ most_foldings) (length_many (folding_at s) folding_end (folding_count w s) foldings_place) n

  pub rules_good : every good_rule (plate_in s).rules ≡ true
  rules_good = let rs = (plate_in s).rules in (and_true (every good_rule rs) (ordered rs) (rules_table (edition_of s) s h).1).0

  pub rules_ordered : ordered (plate_in s).rules ≡ true
  rules_ordered = let rs = (plate_in s).rules in (and_true (every good_rule rs) (ordered rs) (rules_table (edition_of s) s h).1).1

  pub keys_rise : rising (plate_in s).foldings ≡ true
  keys_rise = let fs = (plate_in s).foldings in (and_true (every good_folding fs) (rising fs) (foldings_table (edition_of s) s h).1).1

-- ---- where rules stand

-- The fields of a good rule, each no farther than the most bits before it.
pub record Near (s : List ℕ) (p : ℕ) : Type 0 where
  pub start : start_place s p ≤ p + 5 + 8 * most_bytes
  pub vowel : vowel_place s p ≤ start_place s p + field_most
  pub other : other_place s p ≤ vowel_place s p + field_most
  pub end : rule_end s p ≤ other_place s p + field_most

module _ (s : List ℕ) where
  alternative_most_lem : (p : ℕ) → is_alternative (alternative_at s p) ≡ true → alternative_end s p ≤ p + alternative_most
  alternative_most_lem p h =
      let a = alternative_at s p in
      let n = leb-true (length a) most_digits (and_true (leb (length a) most_digits) (every digit a) h).0 in
      omega (arith, length_many (λ q. 48 + number_at s q 4) (λ q. q + 4) (number_at s p 3) (p + 3))

  field_most_lem : (p : ℕ) → good_field (field_at s p) ≡ true → field_end s p ≤ p + field_most
  field_most_lem p h =
      let f = field_at s p in
      let b = and_true (between 1 most_alternatives (length f)) (every is_alternative f) h in
      let few = between_true 1 most_alternatives (length f) b.0 in
      let m = past_most (alternative_at s) (alternative_end s) is_alternative alternative_most alternative_most_lem (number_at s p 4) (p + 4) b.1 in
      omega (arith, few.1, length_many (alternative_at s) (alternative_end s) (number_at s p 4) (p + 4))

  pub rule_near : (p : ℕ) → good_rule (rule_at s p) ≡ true → Near s p
  rule_near p h =
      let r = rule_at s p in
      let a = and_true (good_pattern r.pattern) (good_field r.start && (good_field r.vowel && good_field r.other)) h in
      let b = and_true (good_field r.start) (good_field r.vowel && good_field r.other) a.1 in
      let c = and_true (good_field r.vowel) (good_field r.other) b.1 in
      let few = between_true 1 most_bytes (length r.pattern) (and_true (between 1 most_bytes (length r.pattern)) (good_text r.pattern) a.0).0 in
      record {
        start = omega (arith, few.1, length_many (λ q. number_at s q 8) (λ q. q + 8) (number_at s p 5) (p + 5));
        vowel = field_most_lem (start_place s p) b.0;
        other = field_most_lem (vowel_place s p) c.0;
        end = field_most_lem (other_place s p) c.1;
      }

  good_stand : (n at : ℕ) → at + rule_most * n ≤ plate_most → every good_rule (many (rule_at s) (rule_end s) n at) ≡ true → Stands s n at
  good_stand zero at h g = tt
  good_stand (suc n) at h g =
      let b = and_true (good_rule (rule_at s at)) (every good_rule (many (rule_at s) (rule_end s) n (rule_end s at))) g in
      let m = rule_near at b.0 in
      (record { near = omega arith; good = b.0 }, good_stand n (rule_end s at) (omega (arith, m.start, m.vowel, m.other, m.end)) b.1)

-- The rules of an accepted plate stand from the first place on.
pub all_stand : (s : List ℕ) → accepted s ≡ true → (n : ℕ) → n ≡ rule_count (count_width s) s → Stands s n (rules_place (count_width s) s)
all_stand s h n e =
    subst (λ (m : ℕ). Stands s m (rules_place (count_width s) s)) (sym e)
    (good_stand s (rule_count (count_width s) s) (rules_place (count_width s) s) (omega (arith, rules_few s h, foldings_few s h)) (rules_good s h))
