-- `name::number_of` meets its contract. The loop keeps: the digits left, written behind the number, are the code's number. A turn is Numbers.turn, the end
-- Numbers.written. Assumes nothing.
use Rattle.std.proofs.Common.{◌≡◌, drop}
use Rattle.index.specs.Index.{number_from, code_number}
use Rattle.index.proofs.name.number_of.Given as goal

abbrev pub invariant-loop-digit : goal.invariant-loop-digit
invariant-loop-digit l = number_from l.n (drop l.digit-index l.digits) ≡ code_number l.digits
