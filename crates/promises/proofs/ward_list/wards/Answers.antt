-- `wards` meets its contract: dm_ward's promise gives numbers and lines (proofs/Ward.antt). Assumes nothing.
use native.Mathlib.Omega.{arith}
use Rattle.promises.proofs.Calls.{bytes_of}
use Rattle.promises.proofs.Ward.{wards}
use Rattle.promises.proofs.ward_list.wards.Goals as goal

pub returns : goal.returns
returns c =
    let a = c.args in
    let bytes = bytes_of a.plate.now (λ k. omega (arith, c.shared_slice_known-1.given k)) in
    let p = wards a.plate.now a.names.now a.out.now bytes c.dm_ward.result _ c.dm_ward.ensures in
    record { ward_refuses = p.0; ward_gives = p.1 }
