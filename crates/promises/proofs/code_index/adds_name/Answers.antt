-- `adds_name` meets its contract: dm_index_add's promise gives numbers (proofs/IndexAdds.antt). Assumes nothing.
use native.Mathlib.Omega.{arith}
use Rattle.promises.proofs.Calls.{bytes_of}
use Rattle.promises.proofs.IndexAdds.{adds_name}
use Rattle.promises.proofs.code_index.adds_name.Goals as goal

pub returns : goal.returns
returns c =
    let a = c.args in
    let bytes = bytes_of a.plate.now (λ k. omega (arith, c.shared_slice_known-1.given k)) in
    adds_name a.plate.now a.name.now (record { index = a.index.now; report = a.report.now }) a.used a.noted bytes _ c.dm_index_add.ensures
