-- `name::number_of` meets its contract. The loop keeps: the digits left, written behind the number, are the code's number. A turn is Numbers.turn, the end
-- Numbers.written. Assumes nothing.
use Rattle.std.proofs.Common.{arith}
use Rattle.index.proofs.Numbers.{turn, written}
use Rattle.index.proofs.name.number_of.Goals as goal

pub overflow_mul-n : goal.overflow_mul-n
overflow_mul-n c = omega (arith, (turn c.args.digits.now c.loop-digit.digit-index c.loop-digit.n c.requires c.loop-digit-test.true c.loop-digit.invariant).few)

pub overflow_sub-digit : goal.overflow_sub-digit
overflow_sub-digit c = omega (arith, (turn c.args.digits.now c.loop-digit.digit-index c.loop-digit.n c.requires c.loop-digit-test.true c.loop-digit.invariant).is_digit)

pub overflow_add-n : goal.overflow_add-n
overflow_add-n c =
    omega (arith, c.from.ensures, (turn c.args.digits.now c.loop-digit.digit-index c.loop-digit.n c.requires c.loop-digit-test.true c.loop-digit.invariant).few)

pub loop-digit-preserved : goal.loop-digit-preserved
loop-digit-preserved c = rw c.from.ensures (turn c.args.digits.now c.loop-digit.digit-index c.loop-digit.n c.requires c.loop-digit-test.true c.loop-digit.invariant).next

pub returns : goal.returns
returns c = written c.args.digits.now c.loop-digit.digit-index c.loop-digit.n c.requires c.loop-digit-test.false c.loop-digit.invariant
