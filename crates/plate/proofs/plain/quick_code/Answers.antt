-- `plate::plain::quick_code` meets its contract: an ASCII byte in front, and such bytes behind it (Shapes.ascii_first); any other is `plain_code`'s. Assumes nothing.
use Rattle.std.proofs.Common.{◌*◌, ◌≤◌, ◌∙◌, arith}
use Rattle.plate.proofs.Windows.{front}
use Rattle.plate.proofs.Shapes.{ascii_turn, ascii_first}
use Rattle.plate.proofs.plain.quick_code.Goals as goal

pub returns-in-1-to-6 : goal.returns-in-1-to-6
returns-in-1-to-6 c =
    let a = c.args in
    let text = c.all_ascii.ensures c.if-all_ascii.true in
    let range = text.0 in
    let some : 1 ≤ a.n = omega (arith, c.in-1-to-6) in
    let few : a.n ≤ 6 = omega (arith, c.in-1-to-6) in
    let whole : 8 * a.n ≤ 48 = omega (arith, few) in (
      few,
      λ s at held.
          let here = front s at 48 a.w held (omega arith) (8 * a.n) whole in
          ascii_first s at a.n a.w here some few range.0 range.1 (ascii_turn s at a.n a.w here some few range.0 range.1 ∙ text.1 s at here),
    )
