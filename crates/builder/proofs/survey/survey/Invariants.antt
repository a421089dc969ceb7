-- `survey::survey` meets its contract. The loop keeps: the verdict on the items from here on, behind what is noted, is the verdict on all. Assumes nothing.
use Prim.Native.Nat.{◌-◌}
use mathlib.Core.Path.{◌≡◌}
use lib.ListN.{length}
use Rattle.rule_text.specs.Items.{items}
use Rattle.book.specs.Book.{blank}
use Rattle.builder.specs.Build.{verdict}
use Rattle.builder.specs.Survey.{SoFar, onward}
use Rattle.builder.proofs.survey.survey.Given as goal

abbrev pub invariant-loop-at : goal.invariant-loop-at
invariant-loop-at l = SoFar l.text l.at l.notes × (onward l.text l.at l.notes ≡ verdict blank (items l.text))

abbrev pub decreases-loop-at : goal.decreases-loop-at
decreases-loop-at l = length l.text - l.at
