-- `plate::plain::plain_code` meets its contract: of 1 to 6 bytes it is `short_code`'s. Assumes nothing.
use Rattle.std.proofs.Common.{◌*◌, ◌≤◌, arith}
use Rattle.std.proofs.lemmas.Option.{IfSome_then}
use Rattle.plate.proofs.Windows.{front}
use Rattle.plate.proofs.plain.plain_code.Goals as goal

pub returns-in-1-to-6 : goal.returns-in-1-to-6
returns-in-1-to-6 c =
    let a = c.args in
    let few : a.n ≤ 6 = omega (arith, c.in-1-to-6) in
    let whole : 8 * a.n ≤ 48 = omega (arith, few) in
    IfSome_then c.short_code.result c.short_code.ensures (λ code p. (few, λ s at held. p s at (front s at 48 a.w held (omega arith) (8 * a.n) whole)))
