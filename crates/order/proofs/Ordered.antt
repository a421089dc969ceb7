-- The plate's order: of three rules, without one rule of a list, and where a rule is put. So a plate stays good without its later rules of equal patterns.
-- Assumes nothing.
use Prim.Native.Nat.{ℕ, ◌<◌, ◌≤◌}
use mathlib.Core.Path.{◌≡◌, refl, sym, ap, ◌∙◌}
use mathlib.Core.Logic.{◌⊎◌, inl, inr, ⊎_elim}
use mathlib.Core.Bool.{Bool, true, false, cond, ◌&&◌, false≢true}
use mathlib.Core.List.{List, [], ◌∷◌, ◌++◌}
use native.Mathlib.Omega.{arith}
use borrow.Author.Tests.{ltb-true, leb-true, eqb-true, lt-ltb, le-leb, eq-eqb}
use lib.Dec.{ltb, leb, eqb}
use lib.ListN.{length, length-append}
use Rattle.laws.specs.Lists.{every, keep}
use Rattle.laws.proofs.Tests.{and_true, both_true, or_true, or_left, or_right}
use Rattle.laws.proofs.Many.{every_append}
use Rattle.laws.proofs.Same.{same_equal}
use Rattle.plate.specs.Plate.{Rule, Plate, good_rule, good_plate, first_code, may_precede, ordered, of_pattern, same_pattern}
use Rattle.plate.proofs.Halves.{ordered_tail}
use Rattle.plate.proofs.Round.{GoodIs, good_is, is_good}
use Rattle.order.specs.Once.{with_rules, once_plate}
use Rattle.order.proofs.Leaving.{once_leaves}

-- ---- of three rules

abbrev Before : Rule → Rule → Type 0
Before r q = (first_code r < first_code q) ⊎ ((first_code r ≡ first_code q) × (length q.pattern ≤ length r.pattern))

before : (r q : Rule) → may_precede r q ≡ true → Before r q
before r q h =
    ⊎_elim (λ t. inl (ltb-true (first_code r) (first_code q) t))
    (λ t.
    let b = and_true (eqb (first_code r) (first_code q)) (leb (length q.pattern) (length r.pattern)) t in
    inr (eqb-true (first_code r) (first_code q) b.0, leb-true (length q.pattern) (length r.pattern) b.1))
    (or_true (ltb (first_code r) (first_code q)) (eqb (first_code r) (first_code q) && leb (length q.pattern) (length r.pattern)) h)

may : (r q : Rule) → Before r q → may_precede r q ≡ true
may r q (inl k) = or_left (ltb (first_code r) (first_code q)) _ (lt-ltb (first_code r) (first_code q) k)
may r q (inr k) =
    or_right (ltb (first_code r) (first_code q)) _ (both_true (eq-eqb (first_code r) (first_code q) k.0) (le-leb (length q.pattern) (length r.pattern) k.1))

may_trans : (r q x : Rule) → may_precede r q ≡ true → may_precede q x ≡ true → may_precede r x ≡ true
may_trans r q x h k = may r x (go (before r q h) (before q x k))
  where
    go : Before r q → Before q x → Before r x
    go (inl a) (inl b) = inl (omega arith)
    go (inl a) (inr b) = let e = b.0 in inl (omega arith)
    go (inr a) (inl b) = let e = a.0 in inl (omega arith)
    go (inr a) (inr b) = let m = a.1 in let n = b.1 in inr (a.0 ∙ b.0, omega arith)

-- A rule may precede one of its own pattern.
may_same : (q r : Rule) → q.pattern ≡ r.pattern → may_precede q r ≡ true
may_same q r e = ap (λ (p : List ℕ). may_precede q (record { pattern = p; start = []; vowel = []; other = [] })) (sym e) ∙ may q q (inr (refl, omega arith))

-- ---- where a rule is put

-- Where a rule may not precede another, none that it may precede may.
not_may : (r q x : Rule) → may_precede q r ≡ false → may_precede q x ≡ true → may_precede x r ≡ false
not_may r q x e h = go (may_precede x r) refl
  where
    go : (t : Bool) → may_precede x r ≡ t → t ≡ false
    go true f = absurd (false≢true (sym e ∙ may_trans q x r h f))
    go false f = refl

-- A rule that may not precede another is not of its pattern.
other_pattern : (r q : Rule) (more : List Rule) → may_precede q r ≡ false → keep (of_pattern r.pattern) (q ∷ more) ≡ keep (of_pattern r.pattern) more
other_pattern r q more e = go (of_pattern r.pattern q) refl
  where
    go : (t : Bool) → of_pattern r.pattern q ≡ t → cond t (q ∷ keep (of_pattern r.pattern) more) (keep (of_pattern r.pattern) more) ≡ keep (of_pattern r.pattern) more
    go true f = absurd (false≢true (sym e ∙ may_same q r (same_equal q.pattern r.pattern f)))
    go false f = refl

-- Where the first may not precede a rule, neither it nor one behind it has the rule's pattern.
pub none_of : (r q : Rule) (more : List Rule) → ordered (q ∷ more) ≡ true → may_precede q r ≡ false → keep (of_pattern r.pattern) (q ∷ more) ≡ []
none_of r q [] o e = other_pattern r q [] e
none_of r q (x ∷ more) o e =
    let b = and_true (may_precede q x) (ordered (x ∷ more)) o in
    other_pattern r q (x ∷ more) e ∙ none_of r x more b.1 (not_may r q x e b.0)

-- ---- without one rule

ordered_without : (xs ys : List Rule) (x : Rule) → ordered (xs ++ (x ∷ ys)) ≡ true → ordered (xs ++ ys) ≡ true
ordered_without [] ys x h = ordered_tail x ys h
ordered_without (r ∷ []) [] x h = refl
ordered_without (r ∷ []) (y ∷ ys) x h =
    let a = and_true (may_precede r x) (ordered (x ∷ y ∷ ys)) h in
    let b = and_true (may_precede x y) (ordered (y ∷ ys)) a.1 in
    both_true (may_trans r x y a.0 b.0) b.1
ordered_without (r ∷ q ∷ xs) ys x h =
    let a = and_true (may_precede r q) (ordered (q ∷ (xs ++ (x ∷ ys)))) h in
    both_true a.0 (ordered_without (q ∷ xs) ys x a.1)

every_without : (t : Rule → Bool) (xs ys : List Rule) (x : Rule) → every t (xs ++ (x ∷ ys)) ≡ true → every t (xs ++ ys) ≡ true
every_without t xs ys x h =
    let a = and_true (every t xs) (every t (x ∷ ys)) (sym (every_append t xs (x ∷ ys)) ∙ h) in
    every_append t xs ys ∙ both_true a.0 (and_true (t x) (every t ys) a.1).1

good_without : (p : Plate) (xs ys : List Rule) (x : Rule) → GoodIs (with_rules p (xs ++ (x ∷ ys))) → GoodIs (with_rules p (xs ++ ys))
good_without p xs ys x h = record {
  few = omega (arith, h.few, length-append xs (x ∷ ys), length-append xs ys);
  rules = every_without good_rule xs ys x h.rules;
  order = ordered_without xs ys x h.order;
  foldings = h.foldings;
}

-- The plate without its later rules of equal patterns is a good one.
pub once_good : (p : Plate) → good_plate p ≡ true → good_plate (once_plate p) ≡ true
once_good p g =
    is_good (once_plate p) (once_leaves same_pattern (λ rs. GoodIs (with_rules p rs)) (λ xs x ys e h. good_without p xs ys x h) p.rules (good_is p g))
