-- `make::count_entries` meets its contract. The loop keeps: the codes counted and those of the names that are left are all codes. A turn is
-- Making.counted_next, the end Making.counted_all. Assumes nothing.
use Rattle.std.proofs.Common.{◌≡◌, ◌+◌, length}
use Rattle.ward.specs.Ward.{names, list_bytes}
use Rattle.index.proofs.Entries.{codes_of_all}
use Rattle.index.proofs.make.count_entries.Given as goal

abbrev pub invariant-loop-name : goal.invariant-loop-name
invariant-loop-name l =
    let plate = l.plate.bytes.now in
    (length l.line ≡ list_bytes) × (l.n + codes_of_all plate l.name-iterator ≡ codes_of_all plate (names l.bytes))
