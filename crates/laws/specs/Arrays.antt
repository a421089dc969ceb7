-- Words on the arrays of structs that the definitions of several layers use. Assumes nothing.
use Rattle.std.specs.Prelude.{List, [], ◌∷◌}

-- P of each of the list
abbrev pub Each : {A : Type 0} → (A → Type 0) → List A → Type 0
Each P [] = Unit {0}
Each P (x ∷ xs) = P x × Each P xs
