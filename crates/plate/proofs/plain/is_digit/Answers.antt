-- `plate::plain::is_digit` meets its contract: a range of windows is a shape of fields (Accepted.digit_field). Assumes nothing.
use Rattle.plate.proofs.Accepted.{digit_field}
use Rattle.plate.proofs.Windows.{ranged}
use Rattle.plate.proofs.plain.is_digit.Goals as goal

pub returns : goal.returns
returns c = λ e s at h. let r = ranged _ _ _ (rw e at c.contains.ensures.cases) in digit_field s at c.args.w h r.0 r.1
