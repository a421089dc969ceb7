-- `plate::window::part` meets its contract: shift and remainder cut the bits out of whatever they stand in (Windows.part_is). Assumes nothing.
use Rattle.std.proofs.Common.{mod-lt, arith, pow_pos}
use Rattle.plate.proofs.Windows.{part_is, shl_one}
use Rattle.plate.proofs.window.part.Goals as goal

pub returns : goal.returns
returns c =
    let a = c.args in
    let e = shl_one a.n (omega arith) in
    rw e (mod-lt _ (pow_pos a.n), λ s at p few h holds. part_is s at p a.w holds few a.k a.n h)
