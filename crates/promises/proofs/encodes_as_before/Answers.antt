-- `encodes_as_before` meets its contract: a plate of before reads as before (proofs/Before.antt). Assumes nothing.
use Rattle.promises.proofs.Before.{encodes_before}
use Rattle.promises.proofs.encodes_as_before.Goals as goal

pub returns : goal.returns
returns c =
    let a = c.args in
    encodes_before a.plate.now a.name.now a.out.now _ c.dm_encode.ensures
