-- `make::count_entries` meets its contract. The loop keeps: the codes counted and those of the names that are left are all codes. A turn is
-- Making.counted_next, the end Making.counted_all. Assumes nothing.
use Rattle.std.proofs.Common.{arith}
use Rattle.ward.specs.Ward.{names}
use Rattle.index.proofs.Entries.{all_few}
use Rattle.index.proofs.Making.{counted_all}
use Rattle.index.proofs.make.count_entries.Goals as goal

pub overflow_add-n : goal.overflow_add-n
overflow_add-n c =
    omega (arith, c.loop-name.invariant.1, all_few c.args.plate.now.bytes.now (names c.args.bytes.now), c.requires, c.unwrap_or-n.ensures, c.list_name.ensures.few)

pub returns : goal.returns
returns c =
    let l = c.loop-name in
    counted_all c.args.plate.now.bytes.now (names c.args.bytes.now) l.name-iterator l.n c.in-None.ensures.steps.0 l.invariant.1
