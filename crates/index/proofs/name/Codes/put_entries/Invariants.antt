-- `name::Codes::put_entries` meets its contract. The loop keeps: the entries of the codes before this one stand in front (Filling.Filled). A turn is
-- Filling.next_filled, the end Filling.all_filled. Assumes nothing.
use Rattle.index.proofs.Filling.{line_entries, Filled}
use Rattle.index.proofs.name.Codes.put_entries.Given as goal

abbrev pub invariant-loop-i : goal.invariant-loop-i
invariant-loop-i l = Filled (line_entries l.self.line.now l.self.count l.k) l.i l.initial.out l.out
