-- `plate::plain::short_fields` meets its contract: each field stands where the one before ended (Shapes.three_fields), in a window of its own. Assumes nothing.
use Rattle.std.proofs.Common.{◌+◌, arith}
use Rattle.plate.proofs.Windows.{front}
use Rattle.plate.proofs.Shapes.{three_fields}
use Rattle.plate.proofs.plain.short_fields.Goals as goal

pub returns : goal.returns
returns c =
    let s = c.args.plate.now in
    let at = c.args.at in
    let x = c.in_ok-start in
    let y = c.in_ok-vowel in
    let z = c.in_ok-other in
    let u = c.window_in in
    let v = c.window_in-2 in
    let w = c.window_in-3 in
    let i = x.ensures.0 in
    let j = y.ensures.0 in
    let k = z.ensures.0 in
    let vowel = at + x.start in
    let other = vowel + y.vowel in (
      omega arith,
      three_fields s at x.start y.vowel z.other (x.ensures.1 s at (front s at 57 u.result u.ensures (omega arith) 26 (omega arith)))
          (y.ensures.1 s vowel (front s vowel 57 v.result v.ensures (omega arith) 26 (omega arith)))
          (z.ensures.1 s other (front s other 57 w.result w.ensures (omega arith) 26 (omega arith))),
    )
