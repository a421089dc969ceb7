-- `lists_latin` meets its contract: a name without Cyrillic gives what it gave (proofs/Latin.antt). Assumes nothing.
use Rattle.promises.proofs.Latin.{lists_latin}
use Rattle.promises.proofs.lists_latin.Goals as goal

pub returns : goal.returns
returns c =
    let a = c.args in
    lists_latin a.plate.now a.name.now a.out.now _ c.dm_list.ensures
