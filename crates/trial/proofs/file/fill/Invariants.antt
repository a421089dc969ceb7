-- What stands in the room stays within it.
use Rattle.std.proofs.Common.{◌≤◌, length}
use Rattle.trial.proofs.file.fill.Given as goal

abbrev pub invariant-loop-turn : goal.invariant-loop-turn
invariant-loop-turn g l = l.done ≤ length l.room
