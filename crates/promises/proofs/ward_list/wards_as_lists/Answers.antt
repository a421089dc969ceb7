-- `wards_as_lists` meets its contract: dm_ward's promise and dm_list's give the line of a name (proofs/Ward.antt). Assumes nothing.
use native.Mathlib.Omega.{arith}
use Rattle.promises.proofs.Calls.{bytes_of}
use Rattle.promises.proofs.Ward.{ward_lists}
use Rattle.promises.proofs.ward_list.wards_as_lists.Goals as goal

pub returns : goal.returns
returns c =
    let a = c.args in
    let bytes = bytes_of a.plate.now (λ k. omega (arith, c.shared_slice_known-1.given k)) in
    ward_lists a.plate.now a.names.now a.out.now bytes c.dm_ward-ward.result _ c.dm_ward-ward.ensures
    a.name.now a.other.now c.dm_list-list.result _ c.dm_list-list.ensures
