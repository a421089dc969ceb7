-- `walk::ahead_of` meets its contract: the bytes so far are the first i characters as one number (Compared.bytes_more), and at each way out they are shifted to
-- the front (Compared.in_front). Assumes nothing.
use Rattle.std.proofs.Common.{◌≡◌}
use Rattle.plate.specs.Stands.{packed}
use Rattle.coder.specs.Held.{ahead, Plain}
use Rattle.coder.proofs.walk.ahead_of.Given as goal

abbrev pub invariant-loop-i : goal.invariant-loop-i
invariant-loop-i l = Plain l.i l.rest × (l.bytes ≡ packed 0 (ahead l.i l.rest))
