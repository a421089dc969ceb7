-- `plate::pattern::front` meets its contract: an ASCII byte is its own character, and any other is decoded by `wide_front`; what is found lies
-- within the bytes (Fronts.front_within). Assumes nothing.
use Rattle.plate.proofs.Fronts.{front_within}
use Rattle.plate.proofs.pattern.front.Goals as goal

pub returns-in_default : goal.returns-in_default
returns-in_default c =
    let a = c.args in
    let e = c.wide_front.ensures in
    (e, front_within a.plate.now a.n a.at c.wide_front.result e)
