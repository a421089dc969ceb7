-- `plate::plain::text_behind` meets its contract: behind two bytes of two stands nothing, and behind two of more what `short_text` tells. Assumes nothing.
use Rattle.std.proofs.Common.{◌+◌, ◌-◌, ◌*◌, ◌≤◌, arith}
use Rattle.plate.proofs.Fronts.{text_end}
use Rattle.plate.proofs.Shapes.{behind_held}
use Rattle.plate.proofs.plain.text_behind.Goals as goal

pub returns-then-n-eq2 : goal.returns-then-n-eq2
returns-then-n-eq2 c =
    let n = c.args.n in
    let none : n - 2 ≤ 0 = omega (arith, c.if-n-eq2.true) in
    λ _ s at held. text_end s (n - 2) (at + 16) none

pub returns-else-n-eq2 : goal.returns-else-n-eq2
returns-else-n-eq2 c =
    let a = c.args in
    let most : 8 * a.n ≤ 64 = omega (arith, c.requires.1) in
    let fits : 16 + 8 * (a.n - 2) ≤ 8 * a.n = omega (arith, c.requires.0) in
    λ e s at held. c.short_text.ensures e s (at + 16) (behind_held s at (8 * a.n) a.w 16 (8 * (a.n - 2)) held most fits)
