-- `walk::search` meets its contract. The loop over the group's rules keeps Groups.Left: the search from here on, in the group, is the search over all rules.
-- Assumes nothing.
use Rattle.coder.proofs.Groups.{Left}
use Rattle.coder.proofs.walk.search.Given as goal

abbrev pub invariant-loop-i : goal.invariant-loop-i
invariant-loop-i l = Left l.plate.bytes.now l.rest l.initial.i l.i-end l.i
