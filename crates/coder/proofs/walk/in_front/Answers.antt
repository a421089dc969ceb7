-- `walk::in_front` meets its contract: so many bytes fit behind so many zeros. Assumes nothing.
use Rattle.std.proofs.Common.{ℕ, ◌-◌, ◌*◌, ap, arith}
use lib.Pow.{shl_exact}
use Rattle.coder.proofs.walk.in_front.Goals as goal

pub returns : goal.returns
returns c =
    let a = c.args in
    let p = c.requires in
    let few = p.0 in
    ap (λ (w : ℕ). record { word = w; plain = a.plain }) (shl_exact (8 * a.plain) (64 - 8 * a.plain) 64 p.1 (omega arith))
