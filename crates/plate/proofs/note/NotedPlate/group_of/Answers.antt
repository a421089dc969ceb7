-- `plate::note::NotedPlate::group_of` meets its contract: a noted group is there, any other lies between the rules below its character and those below the
-- next (Halves.parted_group). Assumes nothing.
use Rattle.std.proofs.Common.{ℕ, subst, add-one}
use Rattle.plate.specs.Read.{plate_in}
use Rattle.plate.specs.Noted.{Parted}
use Rattle.plate.proofs.Halves.{parted_group}
use Rattle.plate.proofs.note.NotedPlate.group_of.Goals as goal

pub returns : goal.returns
returns c =
    let a = c.args in
    let rules = (plate_in a.self.now.bytes.now).rules in
    parted_group a.c rules c.rules_below.result c.rules_below-2.result c.rules_below.ensures
    (subst (λ (k : ℕ). Parted rules k c.rules_below-2.result) (add-one a.c) c.rules_below-2.ensures)
