-- `Sheet::put` meets its contract. The loop keeps the bits that stand written and held; a turn moves a whole byte from the pen to the buffer (Inks.byte_turn). Assumes nothing.
use Prim.Native.Nat.{◌+◌, ◌*◌, ◌^◌, ◌<◌, ◌≤◌}
use mathlib.Core.Path.{◌≡◌}
use mathlib.Core.List.{◌++◌}
use lib.ListN.{length, take, drop}
use Rattle.plate.specs.Bits.{bits_of, unpack}
use Rattle.book.proofs.pen.Sheet.put.Given as goal

abbrev pub invariant-loop-count : goal.invariant-loop-count
invariant-loop-count l =
    (l.begun < 2 ^ l.count) × (l.count ≤ 31) × (8 * l.at + l.count ≡ 8 * l.initial.at + l.initial.count) × (unpack (take l.at l.self.out.now) ++ bits_of l.count l.begun ≡ unpack (take l.initial.at l.initial.self.out.now) ++ bits_of l.initial.count l.initial.begun)
    × (drop l.at l.self.out.now ≡ drop l.at l.initial.self.out.now) × (length l.self.out.now ≡ length l.initial.self.out.now) × (8 * l.initial.at + l.initial.count ≤ 8 * length l.initial.self.out.now)
    × (l.self.out.ghost_name ≡ l.initial.self.out.ghost_name)

abbrev pub decreases-loop-count : goal.decreases-loop-count
decreases-loop-count l = l.count
