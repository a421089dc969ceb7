-- `Sheet::put_foldings` meets its contract. The loop keeps: the foldings so far are written (Inks.each_turn). Assumes nothing.
use lib.ListN.{take}
use Rattle.laws.specs.Lists.{cat}
use Rattle.plate.specs.Written.{folding_bits}
use Rattle.book.specs.Pen.{Wrote}
use Rattle.book.specs.Sort.{folding_in}
use Rattle.book.proofs.pen.Sheet.put_foldings.Given as goal

abbrev pub invariant-loop-folding : goal.invariant-loop-folding
invariant-loop-folding l = Wrote l.initial.self (cat (λ x. folding_bits (folding_in x)) (take l.folding-index l.foldings)) l.self
