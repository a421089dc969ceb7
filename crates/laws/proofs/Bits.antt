-- Facts on numbers and joined lists that reading and writing bits uses. Assumes nothing.
use Prim.Native.Nat.{ℕ, ◌+◌, ◌*◌, ◌/◌, ◌%◌, ◌<◌, ◌≤◌}
use mathlib.Core.Path.{◌≡◌, ap, ◌∙◌}
use mathlib.Core.Bool.{Bool, true, false, not}
use mathlib.Core.List.{List, ◌++◌, append_assoc}
use native.Mathlib.Omega.{arith}
use lib.Dec.{T, ltb, ltb→lt, nltb→le}

-- By the order of two numbers.
pub by_order : (P : Type 0) (i n : ℕ) → (i < n → P) → (n ≤ i → P) → P
by_order P i n f g = go (ltb i n) (ltb→lt i n) (nltb→le i n)
  where
    go : (t : Bool) → (T t → i < n) → (T (not t) → n ≤ i) → P
    go true a b = f (a tt)
    go false a b = g (b tt)

-- A bit behind a number: the number is the half, the bit what is left.
pub half : (a b : ℕ) → b < 2 → (a * 2 + b) / 2 ≡ a
half a b h = omega arith

pub odd : (a b : ℕ) → b < 2 → (a * 2 + b) % 2 ≡ b
odd a b h = omega arith

-- Four lists, or five, joined and then followed by one more, are joined from the front.
pub join_four : (x y z u more : List ℕ) → (x ++ (y ++ (z ++ u))) ++ more ≡ x ++ (y ++ (z ++ (u ++ more)))
join_four x y z u more =
    append_assoc x (y ++ (z ++ u)) more ∙ ap (λ (l : List ℕ). x ++ l) (append_assoc y (z ++ u) more ∙ ap (λ (l : List ℕ). y ++ l) (append_assoc z u more))

pub join_five : (x y z u v more : List ℕ) → (x ++ (y ++ (z ++ (u ++ v)))) ++ more ≡ x ++ (y ++ (z ++ (u ++ (v ++ more))))
join_five x y z u v more = append_assoc x (y ++ (z ++ (u ++ v))) more ∙ ap (λ (l : List ℕ). x ++ l) (join_four y z u v more)
