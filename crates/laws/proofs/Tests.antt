-- Facts on tests: what a joined test says of its parts, and a choice by a test. Assumes nothing.
use mathlib.Core.Path.{◌≡◌, refl, sym, ◌∙◌}
use mathlib.Core.Logic.{◌⊎◌, inl, inr}
use mathlib.Core.Bool.{Bool, true, false, cond, ◌&&◌, ◌||◌, false≢true}
use Prim.Native.Nat.{ℕ, ◌≤◌, ◌<◌}
use borrow.Author.Tests.{leb-true, le-leb, lt-leb}
use lib.Dec.{leb}
use Rattle.laws.specs.Lists.{between}

-- Both hold where the joined test holds.
pub and_true : (a b : Bool) → a && b ≡ true → (a ≡ true) × (b ≡ true)
and_true true b e = (refl, e)
and_true false b e = absurd (false≢true e)

-- The joined test holds where both hold.
pub both_true : {a b : Bool} → a ≡ true → b ≡ true → a && b ≡ true
both_true {a = true} e f = f
both_true {a = false} e f = e

-- Where one of two fails, the joined test fails.
pub and_left_false : (a b : Bool) → a ≡ false → a && b ≡ false
and_left_false true b e = absurd (false≢true (sym e))
and_left_false false b e = refl

pub and_right_false : (a b : Bool) → b ≡ false → a && b ≡ false
and_right_false true b e = e
and_right_false false b e = refl

-- One of two holds where either-or holds.
pub or_true : (a b : Bool) → a || b ≡ true → (a ≡ true) ⊎ (b ≡ true)
or_true true b e = inl refl
or_true false b e = inr e

-- A fact of both ways is one of the choice by a test.
pub by_test : {A : Type 0} (P : A → Type 0) (t : Bool) (x y : A) → (t ≡ true → P x) → (t ≡ false → P y) → P (cond t x y)
by_test P true x y f g = f refl
by_test P false x y f g = g refl

-- A number that passes `between` lies between.
pub between_true : (low high n : ℕ) → between low high n ≡ true → (low ≤ n) × (n ≤ high)
between_true low high n e = let t = and_true (leb low n) (leb n high) e in (leb-true low n t.0, leb-true n high t.1)

-- A number that lies between passes.
pub is_between : (low high n : ℕ) → low ≤ n → n ≤ high → between low high n ≡ true
is_between low high n h i = both_true (le-leb low n h) (le-leb n high i)

-- A number below does not pass, nor one above.
pub below_between : (low high n : ℕ) → n < low → between low high n ≡ false
below_between low high n h = and_left_false (leb low n) (leb n high) (lt-leb low n h)

pub above_between : (low high n : ℕ) → high < n → between low high n ≡ false
above_between low high n h = and_right_false (leb low n) (leb n high) (lt-leb n high h)

-- A call's answer is the definition's, and the branch says what it was: so it is the definition's.
pub told : {r x v : Bool} → r ≡ x → r ≡ v → x ≡ v
told e h = sym e ∙ h

-- Either-or with what fails is the other.
pub or_false : (a : Bool) → a || false ≡ a
or_false true = refl
or_false false = refl

-- Either-or holds where the second holds.
pub or_right : (a b : Bool) → b ≡ true → a || b ≡ true
or_right true b e = refl
or_right false b e = e

-- Of three in a row it does not matter which two are joined first.
pub or_assoc : (a b c : Bool) → (a || b) || c ≡ a || (b || c)
or_assoc true b c = refl
or_assoc false b c = refl

pub or_left : (a b : Bool) → a ≡ true → a || b ≡ true
or_left true b e = refl
or_left false b e = absurd (false≢true e)

-- Neither of two holds where either-or fails.
pub neither : (a b : Bool) → a || b ≡ false → (a ≡ false) × (b ≡ false)
neither true b e = absurd (false≢true (sym e))
neither false b e = (refl, e)
