-- `Sheet::put_alternative` meets its contract. The loop keeps: the digits so far are written (Inks.each_turn). Assumes nothing.
use lib.ListN.{take}
use Rattle.laws.specs.Lists.{cat}
use Rattle.plate.specs.Written.{digit_bits}
use Rattle.book.specs.Pen.{Wrote}
use Rattle.book.proofs.pen.Sheet.put_alternative.Given as goal

abbrev pub invariant-loop-digit : goal.invariant-loop-digit
invariant-loop-digit l = Wrote l.initial.self (cat digit_bits (take l.digit-index l.digits)) l.self
