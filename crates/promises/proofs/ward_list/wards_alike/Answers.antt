-- `wards_alike` meets its contract: dm_ward's promise, twice, gives the lines of equal names (proofs/Ward.antt). Assumes nothing.
use native.Mathlib.Omega.{arith}
use Rattle.promises.proofs.Calls.{bytes_of}
use Rattle.promises.proofs.Ward.{wards_alike}
use Rattle.promises.proofs.ward_list.wards_alike.Goals as goal

pub returns : goal.returns
returns c =
    let a = c.args in
    let bytes = bytes_of a.plate.now (λ k. omega (arith, c.shared_slice_known-1.given k)) in
    wards_alike a.plate.now a.names.now a.out.now bytes c.dm_ward-first.result _ c.dm_ward-first.ensures
    a.others.now a.more.now c.dm_ward-second.result _ c.dm_ward-second.ensures
