-- Each of the two sums stays below 65521, which divides it.
use Rattle.std.proofs.Common.{◌<◌}
use Rattle.trial.proofs.say.sum.Given as goal

abbrev pub invariant-loop-byte : goal.invariant-loop-byte
invariant-loop-byte l = (l.low < 65521) × (l.high < 65521)
