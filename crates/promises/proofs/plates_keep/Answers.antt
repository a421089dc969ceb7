-- `plates_keep` meets its contract: dm_list's promise, by two plates, gives demand 3c (proofs/Calls.antt). Assumes nothing.
use native.Mathlib.Omega.{arith}
use Rattle.promises.proofs.Calls.{bytes_of, keeps}
use Rattle.promises.proofs.plates_keep.Goals as goal

pub returns : goal.returns
returns c =
    let a = c.args in
    let bytes = bytes_of a.plate.now (λ k. omega (arith, c.shared_slice_known-1.given k)) in
    let bytes' = bytes_of a.wide.now (λ k. omega (arith, c.shared_slice_known-2-1.given k)) in
    keeps a.plate.now a.name.now a.out.now bytes c.dm_list-first.result _ a.more.now c.dm_list-second.result _
    c.dm_list-first.ensures a.wide.now bytes' c.dm_list-second.ensures
