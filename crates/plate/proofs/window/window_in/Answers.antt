-- `plate::window::window_in` meets its contract: the place's bits lie within the eight bytes from its byte on (Windows.window_holds). Assumes nothing.
use Rattle.plate.proofs.Windows.{window_holds}
use Rattle.plate.proofs.window.window_in.Goals as goal

pub returns : goal.returns
returns c =
    let a = c.args in rw c.from_be_bytes.ensures (window_holds a.plate.now (λ k. (c.type_inv.plate k).fits) a.at c.bytes_in.result c.bytes_in.ensures)
