-- `given_again` meets its contract: dm_list's promise, twice, gives demand 3d (proofs/Calls.antt). Assumes nothing.
use native.Mathlib.Omega.{arith}
use Rattle.promises.proofs.Calls.{bytes_of, again}
use Rattle.promises.proofs.given_again.Goals as goal

pub returns : goal.returns
returns c =
    let a = c.args in
    let bytes = bytes_of a.plate.now (λ k. omega (arith, c.shared_slice_known-1.given k)) in
    again a.plate.now a.name.now a.out.now bytes c.dm_list-first.result _ a.longer.now c.dm_list-second.result _
    c.dm_list-first.ensures c.dm_list-second.ensures
