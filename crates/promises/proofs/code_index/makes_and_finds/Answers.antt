-- `makes_and_finds` meets its contract: what is made stands in front of the buffer, and find's promise in it gives who shares a code (proofs/IndexFinds.antt). Assumes nothing.
use mathlib.Core.Path.{sym}
use lib.Seq.{length-take-le}
use Rattle.promises.proofs.IndexAnswers.{index_within}
use Rattle.promises.proofs.IndexFinds.{makes_and_finds}
use Rattle.promises.proofs.code_index.makes_and_finds.Goals as goal

pub slice_bounds-dm_index_find-end : goal.slice_bounds-dm_index_find-end
slice_bounds-dm_index_find-end c =
    let a = c.args in
    index_within a.plate.now a.names.now (record { index = a.index.now; report = a.report.now }) _ c.dm_index_make-made.ensures

pub slice_bounds-dm_index_find-end-2 : goal.slice_bounds-dm_index_find-end-2
slice_bounds-dm_index_find-end-2 c =
    let a = c.args in
    let within = index_within a.plate.now a.names.now (record { index = a.index.now; report = a.report.now }) _ c.dm_index_make-made.ensures in
    sym (length-take-le _ _ within)

pub returns : goal.returns
returns c =
    let a = c.args in
    let p =
    makes_and_finds a.plate.now a.names.now (record { index = a.index.now; report = a.report.now }) a.name.now a.out.now _ _
    c.dm_index_make-made.ensures c.dm_index_find-found.ensures in
    record { folder_found = p.0; looks = p.1 }
