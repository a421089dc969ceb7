-- `encodes_first` meets its contract: the promises of dm_list and dm_encode give demand 3b (proofs/Calls.antt). Assumes nothing.
use native.Mathlib.Omega.{arith}
use Rattle.promises.proofs.Calls.{bytes_of, firsts}
use Rattle.promises.proofs.encodes_first.Goals as goal

pub returns : goal.returns
returns c =
    let a = c.args in
    let bytes = bytes_of a.plate.now (λ k. omega (arith, c.shared_slice_known-1.given k)) in
    firsts a.plate.now a.name.now a.out.now bytes c.dm_list-first.result _ a.other.now c.dm_encode-second.result _
    c.dm_list-first.ensures c.dm_encode-second.ensures
