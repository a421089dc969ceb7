-- `Sheet::put_pattern` meets its contract. The loop keeps: the bytes so far are written (Inks.each_turn). Assumes nothing.
use mathlib.Core.Path.{sym, ap}
use native.Mathlib.Omega.{arith}
use lib.ListN.{length}
use Rattle.laws.specs.Lists.{cat}
use Rattle.plate.specs.Bits.{bits_of}
use Rattle.book.proofs.Inks.{ready_then, ready_as, wrote_then, wrote_as, each_ready, each_turn, each_end}
use Rattle.book.proofs.pen.Sheet.put_pattern.Goals as goal

pub put-requires-in-loop-byte : goal.put-requires-in-loop-byte
put-requires-in-loop-byte c =
    let p = c.args.pattern.now in
    let l = c.loop-byte in
    let room = ready_then (bits_of 5 (length p)) (cat (bits_of 8) p) c.requires.1 c.put.ensures in
    let small = (c.type_inv.pattern l.byte-index).fits in
    (omega arith, omega (arith, c.from.ensures), ready_as (ap (bits_of 8) (sym c.from.ensures)) (each_ready (bits_of 8) p l.byte-index 0 c.loop-byte-test.true l.invariant room))

pub loop-byte-preserved : goal.loop-byte-preserved
loop-byte-preserved c =
    let p = c.args.pattern.now in
    let l = c.loop-byte in
    each_turn (bits_of 8) p l.byte-index 0 c.loop-byte-test.true l.invariant (wrote_as (ap (bits_of 8) c.from.ensures) c.put-in-loop-byte.ensures)

pub returns : goal.returns
returns c =
    let p = c.args.pattern.now in
    let l = c.loop-byte in
    wrote_then (bits_of 5 (length p)) (cat (bits_of 8) p) c.put.ensures (each_end (bits_of 8) p l.byte-index c.loop-byte-test.false l.invariant)
