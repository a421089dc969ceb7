-- Each turn reads a byte or more.
use Rattle.std.proofs.Common.{length, ◌-◌, ◌≤◌}
use Rattle.files.proofs.read.Source.read.Given as goal

abbrev pub invariant-loop-n : goal.invariant-loop-n
invariant-loop-n l = l.n ≤ length l.into

abbrev pub decreases-loop-n : goal.decreases-loop-n
decreases-loop-n l = length l.into - l.n
