-- `lists` meets its contract: dm_list's promise gives demands 1, 2 and 3a (proofs/Calls.antt). Assumes nothing.
use native.Mathlib.Omega.{arith}
use Rattle.promises.proofs.Calls.{bytes_of, lists}
use Rattle.promises.proofs.lists.Goals as goal

pub returns : goal.returns
returns c =
    let a = c.args in
    let bytes = bytes_of a.plate.now (λ k. omega (arith, c.shared_slice_known-1.given k)) in
    let p = lists a.plate.now a.name.now a.out.now bytes c.dm_list.result _ c.dm_list.ensures in
    record { list_refuses = p.0; list_gives = p.1.0; lists_choices = p.1.1 }
