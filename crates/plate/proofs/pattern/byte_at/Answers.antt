-- `plate::pattern::byte_at` meets its contract: byte k of the pattern stands 8 k bits behind the first, and past the last `get_or` answers 0. Assumes
-- nothing.
use Rattle.plate.proofs.Fronts.{byte_here, byte_behind}
use Rattle.plate.proofs.pattern.byte_at.Goals as goal

pub returns-then-k-n : goal.returns-then-k-n
returns-then-k-n c =
    let a = c.args in
    byte_here a.plate.now a.n a.at a.k c.bits.result c.if-k-n.true c.bits.ensures.0

pub returns-else-k-n : goal.returns-else-k-n
returns-else-k-n c =
    let a = c.args in
    byte_behind a.plate.now a.n a.at a.k c.if-k-n.false
