-- `plate::accept::accept_alternative` meets its contract: a window holds all 27 bits that an alternative may have. Assumes nothing.
use Rattle.std.proofs.Common.{arith}
use Rattle.plate.proofs.Windows.{front}
use Rattle.plate.proofs.accept.accept_alternative.Goals as goal

pub returns : goal.returns
returns c =
    let a = c.args in
    let e = c.alternative_in.ensures in
    (e.1 a.plate.now (front a.plate.now a.at 57 c.window.result c.window.ensures (omega arith) 27 (omega arith)), e.0)
