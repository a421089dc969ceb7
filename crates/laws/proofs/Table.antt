-- A rule of a table, proved at all of its entries by one test that antt computes, one entry after the other. Assumes nothing.
use mathlib.Core.Path.{◌≡◌, ◌∙◌, subst, sym}
use mathlib.Core.Bool.{Bool, true, ◌&&◌}
use mathlib.Core.List.{List, [], ◌∷◌}
use Prim.Native.Nat.{ℕ, zero, suc, ◌+◌, ◌<◌}
use native.Mathlib.Nat.{add-zero, zero-add, add-suc, suc-add, le_of_suc-le-suc, not-suc-le-zero}
use lib.ListN.{length, get_or}
use Rattle.laws.proofs.Tests.{and_true}

-- The test passes at each place and its entry, counted from i.
abbrev pub passes : (ℕ → ℕ → Bool) → ℕ → List ℕ → Bool
passes f i [] = true
passes f i (x ∷ xs) = f i x && passes f (suc i) xs

from : (f : ℕ → ℕ → Bool) (xs : List ℕ) (i : ℕ) → passes f i xs ≡ true → (k : ℕ) → k < length xs → f (i + k) (get_or xs k 0) ≡ true
from f [] i t k h = absurd (not-suc-le-zero h)
from f (x ∷ xs) i t zero h = subst (λ (m : ℕ). f m x ≡ true) (sym (add-zero i)) (and_true (f i x) (passes f (suc i) xs) t).0
from f (x ∷ xs) i t (suc k) h =
    subst (λ (m : ℕ). f m (get_or xs k 0) ≡ true) (suc-add i k ∙ sym (add-suc i k))
    (from f xs (suc i) (and_true (f i x) (passes f (suc i) xs) t).1 k (le_of_suc-le-suc h))

-- What is tested at every entry holds at each.
pub at : (f : ℕ → ℕ → Bool) (xs : List ℕ) → passes f 0 xs ≡ true → (k : ℕ) → k < length xs → f k (get_or xs k 0) ≡ true
at f xs t k h = subst (λ (m : ℕ). f m (get_or xs k 0) ≡ true) (zero-add k) (from f xs 0 t k h)
