-- Facts on tests that are joined, on a test of each of a list, and on an array that is filled from the front. Assumes nothing.
use Prim.Native.Nat.{ℕ, suc, ◌+◌, ◌-◌, ◌<◌}
use mathlib.Core.Path.{◌≡◌, refl, sym, ap, ◌∙◌}
use mathlib.Core.Bool.{Bool, true, false, ◌&&◌}
use mathlib.Core.List.{List, [], ◌∷◌, ◌++◌, map}
use native.Mathlib.Omega.{arith}
use lib.ListN.{length, set, replicate}
use lib.Seq.{set_at, append_snoc}
use Rattle.laws.specs.Lists.{every}

-- A test that holds may be left out.
pub and_holds : (a b : Bool) → a ≡ true → a && b ≡ b
and_holds a b h = ap (λ (t : Bool). t && b) h

pub and_right_holds : (a b : Bool) → b ≡ true → a && b ≡ a
and_right_holds true b h = h
and_right_holds false b h = refl

-- Of three in a row it does not matter which two are joined first, nor of two which comes first.
pub and_assoc : (a b c : Bool) → (a && b) && c ≡ a && (b && c)
and_assoc true b c = refl
and_assoc false b c = refl

pub and_swap : (a b : Bool) → a && b ≡ b && a
and_swap true true = refl
and_swap true false = refl
and_swap false true = refl
and_swap false false = refl

-- Two and two, the other way round.
pub and_cross : (a b c d : Bool) → (a && b) && (c && d) ≡ (a && c) && (b && d)
and_cross false b c d = refl
and_cross true b true d = refl
and_cross true true false d = refl
and_cross true false false d = refl

-- Each of two lists, one behind the other, passes where each of the first and each of the second does.
pub every_append : {A : Type 0} (t : A → Bool) (xs ys : List A) → every t (xs ++ ys) ≡ every t xs && every t ys
every_append t [] ys = refl
every_append t (x ∷ xs) ys = ap (λ (b : Bool). t x && b) (every_append t xs ys) ∙ sym (and_assoc (t x) (every t xs) (every t ys))

pub map_snoc : {A B : Type 0} (f : A → B) (xs : List A) (x : A) → map f (xs ++ (x ∷ [])) ≡ map f xs ++ (f x ∷ [])
map_snoc f [] x = refl
map_snoc f (y ∷ ys) x = ap (λ (l : List _). f y ∷ l) (map_snoc f ys x)

-- An array of `size`, whose first k are xs and the others the fill: one more is stored at k.
pub store : {A : Type 0} (size k : ℕ) (xs array : List A) (fill x : A) → k < size → length xs ≡ k → array ≡ xs ++ replicate (size - k) fill
    → set array k x ≡ (xs ++ (x ∷ [])) ++ replicate (size - (k + 1)) fill
store size k xs array fill x h n e =
    ap (λ (l : List _). set l k x) (e ∙ ap (λ (m : ℕ). xs ++ replicate m fill) {x = size - k} {y = suc (size - (k + 1))} (omega arith))
    ∙ set_at xs fill (replicate (size - (k + 1)) fill) x k n
    ∙ sym (append_snoc xs x (replicate (size - (k + 1)) fill))
