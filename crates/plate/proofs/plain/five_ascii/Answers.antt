-- `plate::plain::five_ascii` meets its contract: one byte passes, then two, then two more (Shapes.pass_both). Assumes nothing.
use Rattle.std.proofs.Common.{sym, ◌∙◌, arith}
use mathlib.Core.Bool.{false≢true}
use Rattle.plate.proofs.Shapes.{pass_one, pass_both}
use Rattle.plate.proofs.plain.five_ascii.Goals.{then-is_ascii, else-is_ascii}
use Rattle.plate.proofs.plain.five_ascii.Goals as goal

pub returns-then-two_ascii : goal.returns-then-two_ascii
returns-then-two_ascii c = λ e.
    let w = c.args.w in
    elim c.if-is_ascii.branch [
      | then-is_ascii t ↦
          pass_both 3 2 w (omega arith)
          (pass_both 1 2 w (omega arith) (pass_one w (c.is_ascii.ensures t.if-is_ascii.true)) (t.two_ascii.ensures (sym t.value-is ∙ c.if-two_ascii.true)))
          (c.two_ascii-then-two_ascii.ensures e)
      | else-is_ascii t ↦ absurd (false≢true (sym (t.value-is ∙ t.if-is_ascii.false) ∙ c.if-two_ascii.true))
    ]
