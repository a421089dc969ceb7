-- `folders_kept` meets its contract: both lookups' promises, and demand 3c (proofs/IndexFinds.antt). Assumes nothing.
use native.Mathlib.Omega.{arith}
use Rattle.promises.proofs.Calls.{bytes_of}
use Rattle.promises.proofs.IndexFinds.{folders_kept}
use Rattle.promises.proofs.code_index.folders_kept.Goals as goal

pub returns : goal.returns
returns c =
    let a = c.args in
    let bytes = bytes_of a.plate.now (λ k. omega (arith, c.shared_slice_known-1.given k)) in
    let bytes' = bytes_of a.wide.now (λ k. omega (arith, c.shared_slice_known-2-1.given k)) in
    folders_kept a.plate.now a.wide.now bytes bytes' a.names.now a.name.now (record { index = a.index.now; report = a.report.now })
    (record { index = a.index2.now; report = a.report2.now }) a.out.now a.out2.now _ _ _ _ c.makes_and_finds-first.ensures.looks
    c.makes_and_finds-second.ensures.looks
