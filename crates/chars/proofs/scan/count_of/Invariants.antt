-- `scan::count_of` meets its contract. The loop keeps: those counted are the bytes so far that are b. Assumes nothing.
use Rattle.std.proofs.Common.{◌≡◌, eqb, take}
use Rattle.std.specs.List.{count_by}
use Rattle.chars.proofs.scan.count_of.Given as goal

abbrev pub invariant-loop-x : goal.invariant-loop-x
invariant-loop-x l = l.n ≡ count_by (λ x. eqb x l.b) (take l.x-index l.s)
