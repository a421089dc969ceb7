-- `plate::plain::two_ascii` meets its contract: one byte passes, and the next behind it (Shapes.pass_both). Assumes nothing.
use Rattle.std.proofs.Common.{arith}
use Rattle.plate.proofs.Shapes.{pass_one, pass_both}
use Rattle.plate.proofs.plain.two_ascii.Goals as goal

pub returns-then-is_ascii : goal.returns-then-is_ascii
returns-then-is_ascii c =
    let w = c.args.w in
    λ e. pass_both 1 1 w (omega arith) (pass_one w (c.is_ascii.ensures c.if-is_ascii.true)) (pass_one _ (c.is_ascii-then-is_ascii.ensures e))
