-- `Sheet::put_field` meets its contract. The loop keeps: the alternatives so far are written (Inks.each_turn). Assumes nothing.
use lib.ListN.{length, take}
use Rattle.laws.specs.Lists.{cat, split_at}
use Rattle.plate.specs.Written.{alternative_bits}
use Rattle.book.specs.Pen.{Wrote}
use Rattle.book.proofs.pen.Sheet.put_field.Given as goal

abbrev pub invariant-loop-alternative : goal.invariant-loop-alternative
invariant-loop-alternative l = Wrote l.initial.self (cat alternative_bits (take (length l.yielded) (split_at l.fn.sep l.field))) l.self
