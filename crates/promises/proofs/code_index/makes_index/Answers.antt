-- `makes_index` meets its contract: dm_index_make's promise gives numbers and what is made (proofs/IndexAnswers.antt). Assumes nothing.
use native.Mathlib.Omega.{arith}
use Rattle.promises.proofs.Calls.{bytes_of}
use Rattle.promises.proofs.IndexAnswers.{makes_index}
use Rattle.promises.proofs.code_index.makes_index.Goals as goal

pub returns : goal.returns
returns c =
    let a = c.args in
    let bytes = bytes_of a.plate.now (λ k. omega (arith, c.shared_slice_known-1.given k)) in
    let p = makes_index a.plate.now a.names.now (record { index = a.index.now; report = a.report.now }) bytes _ c.dm_index_make.ensures in
    record { make_refuses = p.0; make_gives = p.1 }
