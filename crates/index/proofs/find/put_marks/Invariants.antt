-- `find::put_marks` meets its contract. The loop keeps: the records before this place are written, and for the others there is room (Found.Written). Assumes
-- nothing.
use Rattle.index.proofs.Found.{Written}
use Rattle.index.proofs.find.put_marks.Given as goal

abbrev pub invariant-loop-k : goal.invariant-loop-k
invariant-loop-k l = Written l.marks l.initial.out l.k l.to l.out
