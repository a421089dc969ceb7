-- `scan::count_of` meets its contract. The loop keeps: those counted are the bytes so far that are b (Counted.count_of_is). Assumes nothing.
use Rattle.std.proofs.Common.{arith}
use Rattle.std.proofs.lemmas.Grind.{common_steps}
use Rattle.chars.proofs.Counted.{count_of_is}
use Rattle.chars.proofs.scan.count_of.Goals as goal

pub returns : goal.returns
returns c = grind (arith, common_steps, count_of_is)
