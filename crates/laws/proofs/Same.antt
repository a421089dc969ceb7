-- Facts on `same`, the test that two lists are equal. Assumes nothing.
use Prim.Native.Nat.{ℕ, suc, ◌+◌, ◌<◌}
use mathlib.Core.Path.{◌≡◌, refl, ap, ap₂, ◌∙◌}
use mathlib.Core.Bool.{Bool, true, false, ◌&&◌, false≢true}
use mathlib.Core.List.{List, [], ◌∷◌, ◌++◌}
use native.Mathlib.Numerals.{add-one}
use native.Mathlib.Omega.{arith}
use borrow.Author.Tests.{eq-eqb, eqb-true}
use lib.Dec.{eqb}
use lib.ListN.{length, drop, get_or}
use lib.Seq.{drop-cons}
use Rattle.laws.specs.Lists.{same}
use Rattle.laws.proofs.Tests.{and_true, both_true, and_right_false}

-- The test passes exactly if the lists are equal.
pub same_equal : (xs ys : List ℕ) → same xs ys ≡ true → xs ≡ ys
same_equal [] [] e = refl
same_equal [] (y ∷ ys) e = absurd (false≢true e)
same_equal (x ∷ xs) [] e = absurd (false≢true e)
same_equal (x ∷ xs) (y ∷ ys) e = let t = and_true (eqb x y) (same xs ys) e in ap₂ ◌∷◌ (eqb-true x y t.0) (same_equal xs ys t.1)

pub equal_same : (xs : List ℕ) → same xs xs ≡ true
equal_same [] = refl
equal_same (x ∷ xs) = both_true (eq-eqb x x refl) (equal_same xs)

-- Lists of different lengths are not the same.
pub lengths_differ : (xs ys : List ℕ) → (length xs ≡ length ys → ⊥) → same xs ys ≡ false
lengths_differ [] [] h = absurd (h refl)
lengths_differ [] (y ∷ ys) h = refl
lengths_differ (x ∷ xs) [] h = refl
lengths_differ (x ∷ xs) (y ∷ ys) h = and_right_false (eqb x y) (same xs ys) (lengths_differ xs ys (λ e. h (ap suc e)))

-- One list behind both changes nothing.
pub same_behind : (xs ys zs : List ℕ) → length xs ≡ length ys → same (xs ++ zs) (ys ++ zs) ≡ same xs ys
same_behind [] [] zs e = equal_same zs
same_behind [] (y ∷ ys) zs e = absurd (omega arith)
same_behind (x ∷ xs) [] zs e = absurd (omega arith)
same_behind (x ∷ xs) (y ∷ ys) zs e = ap (λ (t : Bool). eqb x y && t) (same_behind xs ys zs (omega arith))

-- ---- compared from place i on: the two there, and on

module _ (xs ys : List ℕ) (i : ℕ) where
  from_here : i < length xs → i < length ys → same (drop i xs) (drop i ys) ≡ eqb (get_or xs i 0) (get_or ys i 0) && same (drop (i + 1) xs) (drop (i + 1) ys)
  from_here p q = rw (add-one, drop-cons xs i 0 p, drop-cons ys i 0 q)

  pub same_here : i < length xs → i < length ys → get_or xs i 0 ≡ get_or ys i 0 → same (drop i xs) (drop i ys) ≡ same (drop (i + 1) xs) (drop (i + 1) ys)
  same_here p q e = from_here p q ∙ rw (eq-eqb (get_or xs i 0) (get_or ys i 0) e)
