-- `split::count_names` meets its contract: all names are those that were taken and those that are left. Assumes nothing.
use Rattle.std.proofs.Common.{◌≡◌, ◌+◌, length}
use Rattle.ward.specs.Ward.{names}
use Rattle.ward.proofs.split.count_names.Given as goal

abbrev pub invariant-loop-n : goal.invariant-loop-n
invariant-loop-n l =
    (length (names l.bytes) ≡ l.n + length l.left) × (goal.iterator-loop-n).can_next l.left × (goal.iterator-loop-n).is_finite l.left
