-- `encodes_latin` meets its contract: a name without Cyrillic gives what it gave (proofs/Latin.antt). Assumes nothing.
use Rattle.promises.proofs.Latin.{encodes_latin}
use Rattle.promises.proofs.encodes_latin.Goals as goal

pub returns : goal.returns
returns c =
    let a = c.args in
    encodes_latin a.plate.now a.name.now a.out.now _ c.dm_encode.ensures
