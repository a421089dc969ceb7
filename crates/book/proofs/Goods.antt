-- A book stays good: a rule without fault whose pattern is text without zero bytes is good, and so is what it is put among; a folding likewise. Assumes nothing.
use Prim.Native.Nat.{ℕ, ◌+◌, ◌<◌, ◌≤◌}
use mathlib.Core.Path.{◌≡◌, refl}
use mathlib.Core.Bool.{Bool, true, false, cond, ◌&&◌}
use mathlib.Core.List.{List}
use native.Mathlib.Omega.{arith}
use borrow.Author.Tests.{ltb-false, leb-true, le-leb}
use lib.Dec.{ltb, leb, lit<}
use lib.ListN.{length}
use Rattle.laws.specs.Lists.{every, some, split_at}
use Rattle.laws.proofs.Tests.{and_true, both_true, is_between}
use Rattle.laws.proofs.Splits.{one_part}
use Rattle.chars.specs.Utf8.{is_text}
use Rattle.plate.specs.Plate.{Folding, most_foldings, good_field, nonzero_byte, good_rule, good_folding, rising, ordered, good_foldings, good_plate, of_pattern}
use Rattle.plate.specs.Most.{most_rules}
use Rattle.plate.proofs.Round.{is_good}
use Rattle.book.specs.Book.{Book, blank, rule_of, put_rule, put_folding, with_rule, with_folding, plate_of, field_fault, rule_fault, folding_fault}
use Rattle.book.proofs.Faults.{field_fine, not_when, clean}
use Rattle.book.proofs.Sorted.{put_ordered, put_every, put_length, put_rising, put_each}

-- A field without fault is good.
field_good : (sep : ℕ) (f : List ℕ) → field_fault (split_at sep f) ≡ 0 → good_field (split_at sep f) ≡ true
field_good sep f e =
    let fine = field_fine (split_at sep f) e in
    both_true (is_between 1 8 (length (split_at sep f)) (one_part sep f) (leb-true (length (split_at sep f)) 8 fine.0)) fine.1

rule_good : (sep : ℕ) (p s v o : List ℕ) (n : ℕ) → (is_text p ≡ true) × (every nonzero_byte p ≡ true) → rule_fault (rule_of sep p s v o) n ≡ 0
    → (good_rule (rule_of sep p s v o) ≡ true) × (n < most_rules)
rule_good sep p s v o n c e =
    let k = clean (rule_of sep p s v o) n e in
    let filled = k.filled in (
      both_true (both_true (is_between 1 16 (length p) (omega arith) k.short) (both_true c.1 c.0))
          (both_true (field_good sep s k.start) (both_true (field_good sep v k.vowel) (field_good sep o k.other))),
      k.few,
    )

-- its plate obeys the table
pub record Good (b : Book) : Type 0 where
  pub few : length b.rules ≤ b.read
  pub few_read : b.read ≤ most_rules
  pub rules : every good_rule b.rules ≡ true
  pub order : ordered b.rules ≡ true
  pub foldings : good_foldings b.foldings ≡ true

pub blank_good : Good blank
blank_good = record { few = omega arith; few_read = omega arith; rules = refl; order = refl; foldings = refl }

pub plate_good : (flag : Bool) (b : Book) → Good b → good_plate (plate_of flag b) ≡ true
plate_good flag b g = let few = g.few in let all = g.few_read in is_good (plate_of flag b) (record { few = omega arith; rules = g.rules; order = g.order; foldings = g.foldings })

pub with_rule_good : (sep : ℕ) (p s v o : List ℕ) (b : Book) → (is_text p ≡ true) × (every nonzero_byte p ≡ true)
    → rule_fault (rule_of sep p s v o) b.read ≡ 0 → Good b → Good (with_rule (rule_of sep p s v o) b)
with_rule_good sep p s v o b c e g = go (some (of_pattern p) b.rules)
  where
    go : (known : Bool) → Good (record { foldings = b.foldings; rules = cond known b.rules (put_rule (rule_of sep p s v o) b.rules); read = b.read + 1 })
    go true =
        let h = (rule_good sep p s v o b.read c e).1 in
        let few = g.few in record { few = omega arith; few_read = omega arith; rules = g.rules; order = g.order; foldings = g.foldings }
    go false =
        let k = rule_good sep p s v o b.read c e in
        let h = k.1 in
        let few = g.few in
        record {
          few = omega (arith, few, put_length (rule_of sep p s v o) b.rules);
          few_read = omega arith;
          rules = put_every good_rule (rule_of sep p s v o) b.rules k.0 g.rules;
          order = put_ordered (rule_of sep p s v o) b.rules g.order;
          foldings = g.foldings;
        }

pub with_folding_good : (f : Folding) (b : Book) → good_folding f ≡ true → folding_fault f b.foldings ≡ 0 → Good b → Good (with_folding f b)
with_folding_good f b g e k =
    let l = b.foldings in
    let n = length (put_folding f l) in
    let few = ltb-false most_foldings n (not_when (ltb most_foldings n) 8 (lit< tt) e) in
    let x = and_true (leb (length l) most_foldings) (every good_folding l && rising l) k.foldings in
    let y = and_true (every good_folding l) (rising l) x.1 in
    record { few = k.few; few_read = k.few_read; rules = k.rules; order = k.order; foldings = both_true (le-leb n 128 few) (both_true (put_each good_folding f l g y.0) (put_rising f l y.1)) }
