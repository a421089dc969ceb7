-- `lists_as_before` meets its contract: a plate of before reads as before (proofs/Before.antt). Assumes nothing.
use Rattle.promises.proofs.Before.{lists_before}
use Rattle.promises.proofs.lists_as_before.Goals as goal

pub returns : goal.returns
returns c =
    let a = c.args in
    lists_before a.plate.now a.name.now a.out.now _ c.dm_list.ensures
