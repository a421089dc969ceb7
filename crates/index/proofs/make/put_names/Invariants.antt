-- `make::put_names` meets its contract. The loop keeps: the names before those that are left have their entries and their numbers in front (Making.Made). A turn
-- is Making.next_made, the end Making.all_made. Assumes nothing.
use Rattle.std.proofs.Common.{◌≡◌, length}
use Rattle.ward.specs.Ward.{names, list_bytes}
use Rattle.index.proofs.Making.{Made}
use Rattle.index.proofs.make.put_names.Given as goal

abbrev pub invariant-loop-k : goal.invariant-loop-k
invariant-loop-k l =
    (length l.line ≡ list_bytes) × Made l.plate.bytes.now (names l.bytes) l.k-iterator.iter l.initial.index l.initial.report l.k-iterator.count l.to l.index l.report
