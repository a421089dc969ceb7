-- The search for a rule, from here on: the form that its loops keep. proofs/Hits.antt shows that on a plate it brings what Walk's words bring. Assumes nothing.
use Rattle.std.specs.Prelude.{ℕ, Bool, true, false, cond, ◌||◌, List, [], ◌∷◌}
use Rattle.std.proofs.Math.Option.{Option, none, some}
use Rattle.laws.specs.Lists.{begins}
use Rattle.plate.specs.Plate.{Rule}
use Rattle.coder.specs.Walk.{letters, starts_with, Passed, matched}

-- the rule taken; or none, and whether the character has a group
pub data Hit : Type 0 where
  Taken : Rule → Hit
  None : Bool → Hit

-- the first rule whose pattern begins the characters c and cs; `known` tells whether a rule before began with c
unfoldable pub hit_from : Bool → List Rule → ℕ → List ℕ → Hit
hit_from known [] c cs = None known
hit_from known (r ∷ more) c cs = cond (begins (letters r) (c ∷ cs)) (Taken r) (hit_from (known || starts_with c (letters r)) more c cs)

-- what a character brings, by the search's answer
abbrev pub brings : Option ℕ → ℕ → List ℕ → Hit → Passed
brings before c cs (Taken r) = matched before c cs (some r)
brings before c cs (None true) = matched before c cs none
brings before c cs (None false) = record { uses = []; before = before; skip = 0 }
