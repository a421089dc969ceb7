-- `plate::plain::short_code` meets its contract: in front stands a character of two bytes, and text behind it, or an ASCII byte (Shapes.double_first,
-- Shapes.ascii_first). Assumes nothing.
use Rattle.std.proofs.Common.{◌*◌, ◌≤◌, ◌∙◌, arith}
use Rattle.plate.proofs.Windows.{front}
use Rattle.plate.proofs.Shapes.{ascii_turn, ascii_first, double_first}
use Rattle.plate.proofs.plain.short_code.Goals as goal

pub returns-then-text_behind : goal.returns-then-text_behind
returns-then-text_behind c =
    let a = c.args in
    let few = c.requires.1 in
    let some = c.if-n-ge2.true in
    let most : 8 * a.n ≤ 64 = omega (arith, few) in
    let both : 16 ≤ 8 * a.n = omega (arith, some) in
    λ s at held.
    double_first s at a.n a.w some (c.is_double.ensures c.if-is_double.true) (front s at (8 * a.n) a.w held most 16 both) few
    (c.text_behind.ensures c.if-text_behind.true s at held)

pub returns-then-is_ascii : goal.returns-then-is_ascii
returns-then-is_ascii c =
    let a = c.args in
    let some = c.requires.0 in
    let few = c.requires.1 in
    let range = c.is_ascii.ensures c.if-is_ascii.true in
    λ s at held.
    ascii_first s at a.n a.w held some few range.0 range.1
    (ascii_turn s at a.n a.w held some few range.0 range.1 ∙ c.short_text.ensures c.if-short_text.true s at held)
