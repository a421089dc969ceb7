-- `plate::plain::quick_fields` meets its contract: three fields in one window, each of its shape (Shapes.in_row). Assumes nothing.
use Rattle.std.proofs.Common.{arith}
use Rattle.plate.proofs.Windows.{front}
use Rattle.plate.proofs.Shapes.{in_row}
use Rattle.plate.proofs.plain.quick_fields.Goals as goal

pub returns-then-is_empty : goal.returns-then-is_empty
returns-then-is_empty c = (
  omega arith,
  in_row 41 11 c.args.w 11 11 7 (omega arith) (omega arith) (c.is_digit.ensures c.if-not-is_digit.false) (c.is_digit-2.ensures c.if-is_digit.true)
      (c.is_empty.ensures c.if-is_empty.true),
)

pub returns-then-is_empty-3 : goal.returns-then-is_empty-3
returns-then-is_empty-3 c = (
  omega arith,
  in_row 41 11 c.args.w 11 7 7 (omega arith) (omega arith) (c.is_digit.ensures c.if-not-is_digit.false) (c.is_empty-2.ensures c.if-is_empty-2.true)
      (c.is_empty-then-is_empty-2.ensures c.if-is_empty-3.true),
)

pub returns-then-is_pair-2 : goal.returns-then-is_pair-2
returns-then-is_pair-2 c =
    let w = c.args.w in
    let one = c.is_digit.ensures c.if-not-is_digit.false in (
      omega arith,
      in_row 41 15 w 11 15 15 (omega arith) (omega arith) (λ s at held. one s at (front s at 15 w held (omega arith) 11 (omega arith)))
          (c.is_pair.ensures c.if-is_pair.true) (c.is_pair-then-is_pair.ensures c.if-is_pair-2.true),
    )
