-- `put_lines` meets its contract. The loop keeps: the names before those that are left have their lines, and for these there is room (Putting.Done). A turn is
-- Putting.next_done, the end Putting.all_done. Assumes nothing.
use Rattle.ward.specs.Ward.{names}
use Rattle.ward.proofs.Putting.{Done}
use Rattle.ward.proofs.put_lines.Given as goal

abbrev pub invariant-loop-name : goal.invariant-loop-name
invariant-loop-name l = Done l.plate.bytes.now (names l.bytes) l.name-iterator l.initial.out l.to l.out
