-- `encodes_without` meets its contract: dm_encode's promise, by two plates, gives M-107's statement (proofs/Unused.antt). Assumes nothing.
use Rattle.promises.proofs.Unused.{encodes_unused}
use Rattle.promises.proofs.encodes_without.Goals as goal

pub returns : goal.returns
returns c =
    let a = c.args in
    encodes_unused a.plate.now a.less.now a.name.now a.out.now a.more.now _ _ c.dm_encode-first.ensures c.dm_encode-second.ensures
