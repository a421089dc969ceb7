-- What an index promises above the bytes: the entries of a new record are none of the old. Assumes nothing.
use Prim.Native.Nat.{ℕ, ◌<◌}
use mathlib.Core.Path.{◌≡◌}
use mathlib.Core.List.{List}
use native.Mathlib.Omega.{arith}
use Rattle.laws.specs.Arrays.{Each}
use Rattle.entries.specs.Entries.{record_in}
use Rattle.laws.proofs.Holds.{each_in}
use Rattle.laws.proofs.Rising.{Apart}

-- M-108: the record number of a new name is above all old ones.
pub records_apart : (r : ℕ) (l m : List ℕ) → Each (λ x. record_in x < r) l → Each (λ x. record_in x ≡ r) m → Apart l m
records_apart r l m e f x i j = omega (arith, each_in (λ y. record_in y < r) l x e i, each_in (λ y. record_in y ≡ r) m x f j)
