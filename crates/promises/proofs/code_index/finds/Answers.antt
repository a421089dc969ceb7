-- `finds` meets its contract: dm_index_find's promise gives numbers (proofs/IndexAnswers.antt). Assumes nothing.
use native.Mathlib.Omega.{arith}
use Rattle.promises.proofs.Calls.{bytes_of}
use Rattle.promises.proofs.IndexAnswers.{finds_records}
use Rattle.promises.proofs.code_index.finds.Goals as goal

pub returns : goal.returns
returns c =
    let a = c.args in
    let bytes = bytes_of a.plate.now (λ k. omega (arith, c.shared_slice_known-1.given k)) in
    finds_records a.plate.now a.index.now a.name.now a.out.now bytes _ c.dm_index_find.ensures
