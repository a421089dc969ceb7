-- `plate::plain::short_field` meets its contract: one alternative behind its count (Shapes.single), or two (Shapes.left_turn, twice). Assumes nothing.
use Rattle.std.proofs.Common.{◌+◌, ◌≤◌, sym, arith}
use Rattle.plate.proofs.Windows.{front}
use Rattle.plate.proofs.Shapes.{single, left_all, left_turn, left_none}
use Rattle.plate.proofs.plain.short_field.Goals as goal

pub returns-in_ok-short_alternative-in-1 : goal.returns-in_ok-short_alternative-in-1
returns-in_ok-short_alternative-in-1 c =
    let w = c.args.w in
    let only = c.in_ok-short_alternative-in-1 in
    let few = only.ensures.0 in
    (omega arith, λ s at held. single w only.field-0 c.in-1.is only.ensures.1 s at (front s at 26 w held (omega arith) 15 (omega arith)))

pub returns-in_ok-short_alternative-in-2 : goal.returns-in_ok-short_alternative-in-2
returns-in_ok-short_alternative-in-2 c =
    let w = c.args.w in
    let first = c.in_ok-first-in-2 in
    let second = c.in_ok-short_alternative-in-2 in
    let first_few = first.ensures.0 in
    let second_few = second.ensures.0 in
    let within : 4 + first.field-0 ≤ 15 = omega arith in
    let one_left = left_turn w 2 4 2 first.field-0 (left_all w 2) (omega arith) (omega arith) first.ensures.1 in
    let none_left = left_turn w 2 (4 + first.field-0) 1 second.field-0 one_left (omega arith) within second.ensures.1 in
    (omega arith, left_none w 2 (4 + first.field-0 + second.field-0) 0 none_left (omega arith) (sym c.in-2.is) (omega arith) (omega arith))
