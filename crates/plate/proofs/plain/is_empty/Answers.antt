-- `plate::plain::is_empty` meets its contract: a range of windows is a shape of fields (Shapes.empty_field). Assumes nothing.
use Rattle.plate.proofs.Windows.{ranged}
use Rattle.plate.proofs.Shapes.{empty_field}
use Rattle.plate.proofs.plain.is_empty.Goals as goal

pub returns : goal.returns
returns c = λ e s at held. let r = ranged _ _ _ (rw e at c.contains.ensures.cases) in empty_field s at c.args.w held r.0 r.1
