-- `plate::accept::any_foldings` meets its contract: the foldings left, behind the key before, are good and rising exactly if all are; each turn
-- takes the first one off. Assumes nothing.
use Rattle.std.proofs.Common.{◌≡◌, ◌+◌, ◌-◌, ◌*◌}
use Rattle.plate.specs.Answers.{foldings_good}
use Rattle.plate.proofs.accept.any_foldings.Given as goal

abbrev pub invariant-loop-k : goal.invariant-loop-k
invariant-loop-k l = foldings_good l.plate (32 + 42 * l.k) (l.n - l.k) l.before ≡ foldings_good l.plate 32 l.n 0
