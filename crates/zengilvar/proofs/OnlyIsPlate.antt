-- Only one answer satisfies the promise of `dm_is_plate`. Assumes nothing.
use Prim.Native.Nat.{ℕ}
use mathlib.Core.Path.{◌≡◌}
use mathlib.Core.Bool.{Bool}
use mathlib.Core.List.{List}
use Rattle.laws.proofs.Only.{only}
use Rattle.plate.specs.Read.{accepted}

pub dm_is_plate : (plate : List ℕ) (r r' : Bool) → r ≡ accepted plate → r' ≡ accepted plate → r ≡ r'
dm_is_plate plate r r' e f = only e f
