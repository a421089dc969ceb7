-- `find::mark_codes` meets its contract. The loop keeps: the records of the first i codes are marked. A turn is Marks.marks_next. Assumes nothing.
use Rattle.std.proofs.Common.{map}
use Rattle.entries.specs.Entries.{entries}
use Rattle.index.specs.Held.{Marks}
use Rattle.index.specs.Index.{codes_from, code_number}
use Rattle.index.proofs.find.mark_codes.Given as goal

abbrev pub invariant-loop-i : goal.invariant-loop-i
invariant-loop-i l = Marks (entries l.index) (map code_number (codes_from l.i l.codes.line.now)) l.initial.marks l.marks
