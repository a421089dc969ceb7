-- `plate::bits::bits` meets its contract: the bits lie within the four bytes from the place's byte on, and shift and remainder cut them out
-- (Windows.cut). Assumes nothing.
use Rattle.std.proofs.Common.{ℕ, ◌^◌, ◌<◌, sym, subst, arith}
use Rattle.plate.proofs.Place.{number_lt}
use Rattle.plate.proofs.Windows.{cut, shl_one}
use Rattle.plate.proofs.bits.bits.Goals as goal

pub returns : goal.returns
returns c =
    let a = c.args in
    let is = cut a.plate.now (λ k. (c.type_inv.plate k).fits) a.at a.n (omega arith) c.bytes_at.result c.bytes_at.ensures in
    rw (shl_one a.n (omega arith), c.from-window.ensures, c.from_be_bytes.ensures) (is, subst (λ (v : ℕ). v < 2 ^ a.n) (sym is) (number_lt a.plate.now a.at a.n))
