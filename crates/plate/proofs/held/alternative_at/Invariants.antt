-- `plate::held::alternative_at` meets its contract: the digits stored are the first k, and the fill stands behind them; each turn stores one more
-- (Filled.digits_store). Assumes nothing.
use Rattle.std.proofs.Common.{◌≡◌, ◌+◌, ◌-◌, ◌++◌, replicate}
use Rattle.plate.specs.Plate.{most_digits}
use Rattle.plate.specs.Bits.{number_at}
use Rattle.plate.specs.Read.{many}
use Rattle.plate.proofs.held.alternative_at.Given as goal

abbrev pub invariant-loop-k : goal.invariant-loop-k
invariant-loop-k l =
    (l.bytes ≡ many (λ p. 48 + number_at l.plate p 4) (λ p. p + 4) l.k (l.at + 3) ++ replicate (most_digits - l.k) 48)
