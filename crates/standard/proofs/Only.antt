-- Only one plate satisfies the promise of this crate. Assumes nothing.
use Prim.Native.Nat.{ℕ}
use mathlib.Core.Path.{◌≡◌}
use mathlib.Core.List.{List}
use Rattle.laws.proofs.Only.{only}
use Rattle.standard.specs.Plate.{standard}

pub standard_plate : (r r' : List ℕ) → r ≡ standard → r' ≡ standard → r ≡ r'
standard_plate r r' e f = only e f
