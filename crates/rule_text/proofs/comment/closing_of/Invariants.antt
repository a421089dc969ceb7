-- `comment::closing_of` meets its contract. The loop keeps: the first closing is that of the bytes from here on. A turn is Blocks.closing_step, the ways out
-- Blocks.closing_hit and closing_end. Assumes nothing.
use mathlib.Core.Path.{◌≡◌}
use lib.ListN.{drop}
use Rattle.rule_text.specs.Forms.{closing, later}
use Rattle.rule_text.proofs.comment.closing_of.Given as goal

abbrev pub invariant-loop-i : goal.invariant-loop-i
invariant-loop-i l = later l.i (closing (drop l.i l.rest)) ≡ closing l.rest
