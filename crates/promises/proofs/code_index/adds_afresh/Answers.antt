-- `adds_afresh` meets its contract: the three calls' promises give the same index and report (proofs/IndexAfresh.antt). Assumes nothing.
use Rattle.promises.proofs.IndexAfresh.{adds_afresh}
use Rattle.promises.proofs.code_index.adds_afresh.Goals as goal

pub returns : goal.returns
returns c =
    let a = c.args in
    adds_afresh a.plate.now a.names.now (record { index = a.index.now; report = a.report.now }) a.name.now a.wider.now
    (record { index = a.index2.now; report = a.report2.now }) _ _ _ c.dm_index_make-made.ensures c.dm_index_add-added.ensures
    c.dm_index_make-afresh.ensures
