-- `Sheet::put_alternative` meets its contract. The loop keeps: the digits so far are written (Inks.each_turn). Assumes nothing.
use mathlib.Core.Path.{sym, ap}
use native.Mathlib.Omega.{arith}
use lib.ListN.{length}
use Rattle.laws.specs.Lists.{cat}
use Rattle.plate.specs.Bits.{bits_of}
use Rattle.plate.specs.Written.{digit_bits}
use Rattle.book.proofs.Runs.{alternative_short, digit_at}
use Rattle.book.proofs.Inks.{ready_first, ready_then, ready_as, wrote_then, wrote_as, each_ready, each_turn, each_end}
use Rattle.book.proofs.pen.Sheet.put_alternative.Goals as goal

pub put-requires : goal.put-requires
put-requires c =
    let d = c.args.digits.now in
    let few = alternative_short d c.requires.0 in
    (omega arith, omega arith, ready_first (bits_of 3 (length d)) (cat digit_bits d) c.requires.1)

pub put-requires-in-loop-digit : goal.put-requires-in-loop-digit
put-requires-in-loop-digit c =
    let d = c.args.digits.now in
    let l = c.loop-digit in
    let h = digit_at d l.digit-index c.requires.0 c.loop-digit-test.true in
    let room = ready_then (bits_of 3 (length d)) (cat digit_bits d) c.requires.1 c.put.ensures in
    (omega arith, omega (arith, c.from.ensures), ready_as (ap (bits_of 4) (sym c.from.ensures)) (each_ready digit_bits d l.digit-index 0 c.loop-digit-test.true l.invariant room))

pub loop-digit-preserved : goal.loop-digit-preserved
loop-digit-preserved c =
    let d = c.args.digits.now in
    let l = c.loop-digit in
    each_turn digit_bits d l.digit-index 0 c.loop-digit-test.true l.invariant (wrote_as (ap (bits_of 4) c.from.ensures) c.put-in-loop-digit.ensures)

pub returns : goal.returns
returns c =
    let d = c.args.digits.now in
    let l = c.loop-digit in
    wrote_then (bits_of 3 (length d)) (cat digit_bits d) c.put.ensures (each_end digit_bits d l.digit-index c.loop-digit-test.false l.invariant)
