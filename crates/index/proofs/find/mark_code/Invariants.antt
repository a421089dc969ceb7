-- `find::mark_code` meets its contract. The loop keeps: the records of the entries before this place are marked, and the code's place is not behind it. A turn
-- is Marks.marks_turn, an entry of another code Marks.marks_stop, the end Marks.marks_end. Assumes nothing.
use Rattle.std.proofs.Common.{◌*◌, ◌≤◌, [], ◌∷◌, take}
use Rattle.laws.specs.Sort.{position}
use Rattle.entries.specs.Entries.{entries, most_records}
use Rattle.index.specs.Held.{Marks}
use Rattle.index.proofs.find.mark_code.Given as goal

abbrev pub invariant-loop-i : goal.invariant-loop-i
invariant-loop-i l =
    (position (l.code * most_records) (entries l.index) ≤ l.i) × Marks (take l.i (entries l.index)) (l.code ∷ []) l.initial.marks l.marks
