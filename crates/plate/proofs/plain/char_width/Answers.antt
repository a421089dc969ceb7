-- `plate::plain::char_width` meets its contract: an ASCII byte passes, or a character of two bytes (Shapes.pass_one, Shapes.pass_two). Assumes nothing.
use Rattle.std.proofs.Common.{arith}
use Rattle.plate.proofs.Shapes.{pass_one, pass_two}
use Rattle.plate.proofs.plain.char_width.Goals as goal

pub returns-then-is_ascii : goal.returns-then-is_ascii
returns-then-is_ascii c = (omega arith, omega arith, pass_one c.args.w (c.is_ascii.ensures c.if-is_ascii.true))

pub returns-then-is_double : goal.returns-then-is_double
returns-then-is_double c = (omega arith, omega arith, pass_two c.args.w (c.is_double.ensures c.if-is_double.true))
