-- `plate::plain::short_text` meets its contract: the bytes left are text exactly if all are; each turn takes a character off (Shapes.rest_turn). Assumes nothing.
use Rattle.std.proofs.Common.{◌≤◌}
use Rattle.plate.proofs.Shapes.{Rest}
use Rattle.plate.proofs.plain.short_text.Given as goal

abbrev pub invariant-loop-left : goal.invariant-loop-left
invariant-loop-left l = (l.left ≤ 6) × Rest l.w l.n l.rest l.left

abbrev pub decreases-loop-left : goal.decreases-loop-left
decreases-loop-left l = l.left
