-- `Sheet::put` meets its contract. The loop keeps the bits that stand written and held; a turn moves a whole byte from the pen to the buffer (Inks.byte_turn). Assumes nothing.
use Prim.Native.Nat.{◌-◌, ◌<◌, ◌≤◌}
use mathlib.Core.Path.{refl, ◌∙◌}
use native.Mathlib.Omega.{arith}
use lib.ListN.{length, take}
use Rattle.plate.specs.Bits.{unpack}
use Rattle.plate.proofs.Packed.{length_bits_of}
use Rattle.book.proofs.Inks.{shl_one, shl_pos, joined_lt, fits, byte_lt, byte_stored, byte_turn, not_reached, both_bits}
use Rattle.book.proofs.pen.Sheet.put.Goals as goal

pub overflow_mul-begun : goal.overflow_mul-begun
overflow_mul-begun c =
    let a = c.args in
    let q = c.requires.2 in
    let n = a.self.now.pen.part in
    let h = fits a.self.now.pen.count a.width a.self.now.pen.begun a.number (omega arith) (omega arith) a.self.now.pen.held c.requires.1 in
    rw (shl_one a.width (omega arith)) (omega (arith, h))

pub overflow_add-begun : goal.overflow_add-begun
overflow_add-begun c =
    let a = c.args in
    let q = c.requires.2 in
    let n = a.self.now.pen.part in
    let h = fits a.self.now.pen.count a.width a.self.now.pen.begun a.number (omega arith) (omega arith) a.self.now.pen.held c.requires.1 in
    rw (shl_one a.width (omega arith)) (omega (arith, h))

pub overflow_add-count : goal.overflow_add-count
overflow_add-count c = let n = c.args.self.now.pen.part in omega arith

pub loop-count-init : goal.loop-count-init
loop-count-init c =
    let a = c.args in
    let q = c.requires.2 in
    let n = a.self.now.pen.part in
    let m = q.room in (
      rw (shl_one a.width (omega arith)) (joined_lt a.self.now.pen.count a.width a.self.now.pen.begun a.number a.self.now.pen.held
          c.requires.1),
      omega arith,
      refl,
      refl,
      refl,
      refl,
      omega (arith, length_bits_of a.width a.number),
      refl,
    )

pub overflow_cast-self : goal.overflow_cast-self
overflow_cast-self c = record { fits = byte_lt c.loop-count.count c.loop-count.begun c.loop-count-test.true c.loop-count.invariant.0 }

pub nonzero_rem-begun : goal.nonzero_rem-begun
nonzero_rem-begun c = shl_pos (c.loop-count.count - 8) (omega arith)

pub loop-count-preserved : goal.loop-count-preserved
loop-count-preserved c =
    let l = c.loop-count in
    let j : l.at < length l.self.out.now = omega arith in
    let k : l.count - 8 ≤ 31 = omega arith in
    let t = byte_turn l.count l.begun c.loop-count-test.true l.self.out.now l.at j k in
    (t.0, omega arith, omega arith, t.1 ∙ l.invariant.3, not_reached l.self.out.now _ l.at _ l.invariant.4, t.2 ∙ l.invariant.5, omega arith, l.invariant.7)

pub returns : goal.returns
returns c =
    let a = c.args in
    let l = c.loop-count in
    let i = both_bits a.self.now.pen.count a.width a.self.now.pen.begun a.number (omega arith) c.requires.1 (unpack (take a.self.now.pen.bytes a.self.now.out.now)) _ l.invariant.3 in
    record { is = i; kept = l.invariant.4; size = l.invariant.5; moved = omega (arith, length_bits_of a.width a.number); same = l.invariant.7 }

pub invariant_of-self : goal.invariant_of-self
invariant_of-self c =
    let l = c.loop-count in
    let b = byte_lt l.count l.begun c.loop-count-test.true l.invariant.0 in
    record { stored = byte_stored l.self.out.now l.at _ b l.self.stored }
