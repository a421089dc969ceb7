-- Which field of a rule is taken, by what stood before and what follows. Assumes nothing.
use Prim.Native.Nat.{ℕ}
use mathlib.Core.Path.{◌≡◌, refl}
use mathlib.Core.Bool.{Bool, true, false, cond}
use mathlib.Core.List.{List}
use Rattle.std.specs.Prelude.{Option, Some, None as NoneOf}
use Rattle.plate.specs.Plate.{Rule}
use Rattle.plate.specs.Stands.{field_of}
use Rattle.coder.specs.Walk.{vowel_follows, field}
use Rattle.coder.specs.Held.{before_of, field_kind}

-- The field of that kind is the definition's.
pub field_is : (before : Option ℕ) (behind : List ℕ) (r : Rule) → field_of r (field_kind before (vowel_follows behind)) ≡ field (before_of before) behind r
field_is NoneOf behind r = refl
field_is (Some before) behind r = go (vowel_follows behind)
  where
    go : (v : Bool) → field_of r (field_kind (Some before) v) ≡ cond v r.vowel r.other
    go true = refl
    go false = refl
