-- Facts on lists that every layer uses. Assumes nothing.
use mathlib.Core.Path.{◌≡◌, refl, sym, ap, ◌∙◌}
use mathlib.Core.Bool.{Bool, ◌||◌}
use mathlib.Core.List.{List, [], ◌∷◌, ◌++◌, append_assoc}
use Prim.Native.Nat.{ℕ, ◌-◌}
use native.Mathlib.Omega.{arith}
use lib.ListN.{length, take, drop, length-drop}
use lib.Seq.{take_all}
use Rattle.laws.specs.Lists.{some, cat}
use Rattle.laws.proofs.Tests.{or_assoc}

-- The part of a slice from a place on, as `&s[at..]` lends it, is what stands from there.
pub rest : {A : Type 0} (at : ℕ) (s : List A) → take (length s - at) (drop at s) ≡ drop at s
rest at s = take_all (length s - at) (drop at s) (simp length-drop (omega arith))

-- The lists of two lists, one behind the other, are the lists of the first and then those of the second.
pub cat_append : {A : Type 0} (f : A → List ℕ) (xs ys : List A) → cat f (xs ++ ys) ≡ cat f xs ++ cat f ys
cat_append f [] ys = refl
cat_append f (x ∷ xs) ys = ap (λ (l : List ℕ). f x ++ l) (cat_append f xs ys) ∙ sym (append_assoc (f x) (cat f xs) (cat f ys))

-- One passes in two lists, one behind the other, where one passes in the first or in the second.
pub some_append : {A : Type 0} (t : A → Bool) (xs ys : List A) → some t (xs ++ ys) ≡ some t xs || some t ys
some_append t [] ys = refl
some_append t (x ∷ xs) ys = ap (λ (b : Bool). t x || b) (some_append t xs ys) ∙ sym (or_assoc (t x) (some t xs) (some t ys))
