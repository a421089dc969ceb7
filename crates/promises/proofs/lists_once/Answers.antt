-- `lists_once` meets its contract: dm_list's promise gives M-105's statement (proofs/Once.antt). Assumes nothing.
use native.Mathlib.Omega.{arith}
use Rattle.promises.proofs.Calls.{bytes_of}
use Rattle.promises.proofs.Once.{lists_once}
use Rattle.promises.proofs.lists_once.Goals as goal

pub returns : goal.returns
returns c =
    let a = c.args in
    let bytes = bytes_of a.plate.now (λ k. omega (arith, c.shared_slice_known-1.given k)) in
    lists_once a.plate.now a.name.now a.out.now bytes c.dm_list.result _ c.dm_list.ensures
