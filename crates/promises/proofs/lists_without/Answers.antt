-- `lists_without` meets its contract: dm_list's promise, by two plates, gives M-107's statement (proofs/Unused.antt). Assumes nothing.
use Rattle.promises.proofs.Unused.{lists_unused}
use Rattle.promises.proofs.lists_without.Goals as goal

pub returns : goal.returns
returns c =
    let a = c.args in
    lists_unused a.plate.now a.less.now a.name.now a.out.now a.more.now _ _ c.dm_list-first.ensures c.dm_list-second.ensures
