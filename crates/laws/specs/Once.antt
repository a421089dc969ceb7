-- Each once, the first place stays. Said once for branches (01: "A branch equal [..] to an earlier one of this step is dropped") and for codes (M-105). Assumes nothing.
use Rattle.std.specs.Prelude.{Bool, false, cond, ◌||◌, List, [], ◌∷◌, ◌++◌, T, eqb}
use Rattle.laws.specs.Lists.{same}

-- it equals one of the list, by a test
abbrev pub among : {A : Type 0} → (A → A → Bool) → A → List A → Bool
among equal x [] = false
among equal x (y ∷ more) = equal x y || among equal x more

-- those kept, and of the others each that equals none before it
abbrev pub merge : {A : Type 0} → (A → A → Bool) → List A → List A → List A
merge equal kept [] = kept
merge equal kept (x ∷ more) = merge equal (cond (among equal x kept) kept (kept ++ (x ∷ []))) more

abbrev pub once : {A : Type 0} → (A → A → Bool) → List A → List A
once equal xs = merge equal [] xs

pub worked : T (same (once eqb (1 ∷ 2 ∷ 1 ∷ 3 ∷ 2 ∷ [])) (1 ∷ 2 ∷ 3 ∷ []))
worked = tt
