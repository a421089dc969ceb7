-- `Sheet::put_pattern` meets its contract. The loop keeps: the bytes so far are written (Inks.each_turn). Assumes nothing.
use lib.ListN.{take}
use Rattle.laws.specs.Lists.{cat}
use Rattle.plate.specs.Bits.{bits_of}
use Rattle.book.specs.Pen.{Wrote}
use Rattle.book.proofs.pen.Sheet.put_pattern.Given as goal

abbrev pub invariant-loop-byte : goal.invariant-loop-byte
invariant-loop-byte l = Wrote l.initial.self (cat (bits_of 8) (take l.byte-index l.pattern)) l.self
