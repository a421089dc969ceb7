-- Facts on arrays of which the first n entries count: what a loop over them goes by, and what stands behind them. Assumes nothing.
use Prim.Native.Nat.{ℕ, zero, suc, ◌+◌, ◌-◌, ◌≤◌, ◌<◌}
use mathlib.Core.Path.{◌≡◌, sym, ap, ◌∙◌}
use mathlib.Core.List.{List, [], ◌∷◌, ◌++◌}
use native.Mathlib.Nat.{sub-zero}
use native.Mathlib.Omega.{arith}
use lib.ListN.{length, take, drop, get_or, replicate, length-take, take-append-drop}
use lib.Seq.{drop-drop, get_or-take}
use Rattle.laws.specs.Arrays.{Each}

-- Two lists are equal by what stands before a place and what from it on.
pub by_halves : {A : Type 0} (n : ℕ) (l m : List A) → take n l ≡ take n m → drop n l ≡ drop n m → l ≡ m
by_halves n l m p q = sym (take-append-drop n l) ∙ rw (p, q) (take-append-drop n m)

-- ---- what holds of each

module _ {A : Type 0} (P : A → Type 0) (d : A) where
  each_get_d : (l : List A) (i : ℕ) → Each P l → i < length l → P (get_or l i d)
  each_get_d [] i e h = absurd (omega arith)
  each_get_d (x ∷ xs) zero e h = e.0
  each_get_d (x ∷ xs) (suc i) e h = each_get_d xs i e.1 (omega arith)

  -- It holds of the one at a place.
  pub each_at : (l : List A) (n i : ℕ) → Each P (take n l) → n ≤ length l → i < n → P (get_or l i d)
  each_at l n i e p h =
      let q : i < length (take n l) = simp length-take (omega arith) in
      rw (get_or-take n l i d h) at (each_get_d (take n l) i e q)

-- It holds of each with one more behind.
pub each_behind : {A : Type 0} (P : A → Type 0) (l : List A) (x : A) → Each P l → P x → Each P (l ++ (x ∷ []))
each_behind P [] x e p = (p, tt)
each_behind P (y ∷ l) x e p = (e.0, each_behind P l x e.1 p)

-- ---- from a place on

drop_replicate : {A : Type 0} (k n : ℕ) (z : A) → drop k (replicate n z) ≡ replicate (n - k) z
drop_replicate zero n z = ap (λ (m : ℕ). replicate m z) (sym (sub-zero n))
drop_replicate (suc k) zero z = ap (λ (m : ℕ). replicate m z) {x = 0} {y = 0 - suc k} (omega arith)
drop_replicate (suc k) (suc n) z = drop_replicate k n z ∙ ap (λ (m : ℕ). replicate m z) {x = n - k} {y = suc n - suc k} (omega arith)

-- What is blank from a place on is blank from any later one on.
pub blank_further : {A : Type 0} (l : List A) (size n j : ℕ) (z : A) → n ≤ j → drop n l ≡ replicate (size - n) z → drop j l ≡ replicate (size - j) z
blank_further l size n j z h e =
    let at : n + (j - n) ≡ j = omega arith in
    let left : size - n - (j - n) ≡ size - j = omega arith in
    ap (λ (k : ℕ). drop k l) (sym at) ∙ sym (drop-drop (j - n) n l) ∙ ap (drop (j - n)) e ∙ drop_replicate (j - n) (size - n) z ∙ ap (λ (k : ℕ). replicate k z) left
