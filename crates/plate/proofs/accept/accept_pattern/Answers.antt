-- `plate::accept::accept_pattern` meets its contract: the count is 1 to 16 or refused, the first character gives the code, and the bytes behind it
-- are good text exactly if all are. Assumes nothing.
use Rattle.std.proofs.Common.{refl, ◌∙◌}
use Rattle.plate.proofs.Fronts.{first_none, first_over, first_bad, first_decided}
use Rattle.plate.proofs.accept.accept_pattern.Goals.{then-n-lt1-via-then-n-lt1, then-n-lt1-via-else-n-lt1+then-n-gt-MOST_BYTES}
use Rattle.plate.proofs.accept.accept_pattern.Goals as goal

pub returns-then-n-lt1 : goal.returns-then-n-lt1
returns-then-n-lt1 c =
    let a = c.args in
    elim c.then-n-lt1.branch [
      | then-n-lt1-via-then-n-lt1 t ↦ first_none a.plate.now a.n a.at t.if-n-lt1.true
      | then-n-lt1-via-else-n-lt1+then-n-gt-MOST_BYTES t ↦ first_over a.plate.now a.n a.at t.if-n-gt-MOST_BYTES.true
    ]

pub returns-in_err-first : goal.returns-in_err-first
returns-in_err-first c =
    let a = c.args in
    c.from_residual.ensures
    ∙ first_bad a.plate.now a.n a.at c.if-n-lt1.false c.if-n-gt-MOST_BYTES.false c.front.result c.front.ensures.0 c.in_err-first.was

pub returns : goal.returns
returns c =
    let a = c.args in
    let text = c.is_text in
    c.then_some.ensures
    ∙ first_decided a.plate.now a.n a.at c.if-n-lt1.false c.if-n-gt-MOST_BYTES.false c.front.result c.front.ensures.0 c.in_ok-first.first
    c.in_ok-first.was text.result text.ensures text.result refl
