-- `plate::pattern::ascii_ahead` meets its contract: five bytes in front of a window pass (Plain.Passes). Assumes nothing.
use Rattle.std.proofs.Common.{arith}
use Rattle.plate.proofs.Windows.{front}
use Rattle.plate.proofs.pattern.ascii_ahead.Goals as goal

pub returns-then-n-ge5 : goal.returns-then-n-ge5
returns-then-n-ge5 c =
    let a = c.args in
    let w = c.window in
    λ e. (
      c.if-n-ge5.true,
      c.five_ascii.ensures e a.plate.now a.at a.n c.if-n-ge5.true (front a.plate.now a.at 57 w.result w.ensures (omega arith) 40 (omega arith)),
    )
