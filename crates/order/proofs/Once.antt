-- M-107: a rule whose pattern an earlier rule has is never used, and may be left out. Nothing is asked of the rules. Assumes nothing.
use Prim.Native.Nat.{ℕ}
use mathlib.Core.Path.{◌≡◌, refl, sym, ap, subst, ◌∙◌}
use mathlib.Core.Bool.{Bool, true, false, cond, ◌||◌, false≢true}
use mathlib.Core.Option.{Option, some}
use mathlib.Core.List.{List, [], ◌∷◌, ◌++◌, append_assoc}
use Rattle.laws.specs.Lists.{same}
use Rattle.laws.specs.Once.{among}
use Rattle.laws.proofs.Tests.{or_left, or_right}
use Rattle.laws.proofs.Same.{same_equal, equal_same}
use Rattle.chars.specs.Utf8.{chars_of}
use Rattle.plate.specs.Plate.{Rule, same_pattern}
use Rattle.coder.specs.Walk.{letters, uses}
use Rattle.order.specs.First.{rule_for}
use Rattle.order.specs.Claims.{LaterUnused, OnceUsed}
use Rattle.order.proofs.Leaving.{once_leaves}
use Rattle.order.proofs.First.{uses_same}

-- A rule of other characters is not the first of these.
for_other : (l : List ℕ) (xs ys : List Rule) (q : Rule) → same (letters q) l ≡ false → rule_for l (xs ++ (q ∷ ys)) ≡ rule_for l (xs ++ ys)
for_other l [] ys q e = rw e
for_other l (x ∷ xs) ys q e = ap (λ (o : Option Rule). cond (same (letters x) l) (some x) o) (for_other l xs ys q e)

-- Nor is one behind another of its pattern.
for_later : (l : List ℕ) (xs ys : List Rule) (q : Rule) → among same_pattern q xs ≡ true → rule_for l (xs ++ (q ∷ ys)) ≡ rule_for l (xs ++ ys)
for_later l [] ys q h = absurd (false≢true h)
for_later l (x ∷ xs) ys q h = go (same (letters x) l) (same_pattern q x) refl refl h (for_later l xs ys q)
  where
    go : (s t : Bool) → same (letters x) l ≡ s → same_pattern q x ≡ t → t || among same_pattern q xs ≡ true
        → (among same_pattern q xs ≡ true → rule_for l (xs ++ (q ∷ ys)) ≡ rule_for l (xs ++ ys))
        → cond s (some x) (rule_for l (xs ++ (q ∷ ys))) ≡ cond s (some x) (rule_for l (xs ++ ys))
    go true t e f h below = refl
    go false true e f h below = for_other l xs ys q (ap (λ (p : List ℕ). same (chars_of p) l) (sym (same_equal x.pattern q.pattern f)) ∙ e)
    go false false e f h below = below h

uses_later : (cs : List ℕ) (xs ys : List Rule) (q : Rule) → among same_pattern q xs ≡ true → uses (xs ++ (q ∷ ys)) cs ≡ uses (xs ++ ys) cs
uses_later cs xs ys q h = uses_same (xs ++ (q ∷ ys)) (xs ++ ys) (λ l. for_later l xs ys q h) cs

-- One that stands there is among them.
stands : (xs ys : List Rule) (r q : Rule) → q.pattern ≡ r.pattern → among same_pattern q (xs ++ (r ∷ ys)) ≡ true
stands [] ys r q e =
    or_left (same_pattern q r) (among same_pattern q ys) (subst (λ (p : List ℕ). same p q.pattern ≡ true) e (equal_same q.pattern))
stands (x ∷ xs) ys r q e = or_right (same_pattern q x) (among same_pattern q (xs ++ (r ∷ ys))) (stands xs ys r q e)

pub later_unused : LaterUnused
later_unused xs ys zs r q e cs =
    ap (λ (l : List Rule). uses l cs) (sym (append_assoc xs (r ∷ ys) (q ∷ zs)))
    ∙ uses_later cs (xs ++ (r ∷ ys)) zs q (stands xs ys r q e)
    ∙ ap (λ (l : List Rule). uses l cs) (append_assoc xs (r ∷ ys) zs)

pub once_used : OnceUsed
once_used rs cs =
    once_leaves same_pattern (λ l. uses l cs ≡ uses rs cs) (λ xs q ys h e. sym (uses_later cs xs ys q h) ∙ e) rs refl
