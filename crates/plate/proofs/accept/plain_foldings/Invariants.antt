-- `plate::accept::plain_foldings` meets its contract: if the last key and all targets together are low, the foldings left are good and rising exactly if
-- all are (Rising.Passed); each turn takes the first one off, a plain one. Assumes nothing.
use Rattle.std.proofs.Common.{◌+◌, ◌-◌, ◌*◌}
use Rattle.plate.proofs.Rising.{Passed}
use Rattle.plate.proofs.accept.plain_foldings.Given as goal

abbrev pub invariant-loop-k : goal.invariant-loop-k
invariant-loop-k l = Passed l.plate l.n (32 + 42 * l.k) (l.n - l.k) l.before l.all
