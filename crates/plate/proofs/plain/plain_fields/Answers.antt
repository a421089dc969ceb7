-- `plate::plain::plain_fields` meets its contract: quick fields, or short ones. Assumes nothing.
use Rattle.std.proofs.Common.{arith}
use Rattle.std.proofs.lemmas.Option.{IfSome_then}
use Rattle.plate.proofs.Windows.{front}
use Rattle.plate.proofs.plain.plain_fields.Goals as goal

pub returns-then-is_some : goal.returns-then-is_some
returns-then-is_some c =
    let s = c.args.plate.now in
    let at = c.args.at in
    let w = c.window_in in
    IfSome_then c.quick_fields-quick.result c.quick_fields-quick.ensures
    (λ b p. (omega (arith, p.0), p.1 s at (front s at 57 w.result w.ensures (omega arith) 41 (omega arith))))
