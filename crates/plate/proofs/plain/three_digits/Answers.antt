-- `plate::plain::three_digits` meets its contract: what a mask finds zero is a shape of three fields (Masks.three_digits). Assumes nothing.
use Rattle.std.proofs.Common.{arith, eqb-true}
use Rattle.plate.proofs.Masks.{three_digits}
use Rattle.plate.proofs.plain.three_digits.Goals as goal

pub returns : goal.returns
returns c = λ e. three_digits c.args.w (omega arith) (eqb-true _ 0 e)
