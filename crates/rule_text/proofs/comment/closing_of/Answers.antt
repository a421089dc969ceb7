-- `comment::closing_of` meets its contract. The loop keeps: the first closing is that of the bytes from here on. A turn is Blocks.closing_step, the ways out
-- Blocks.closing_hit and closing_end. Assumes nothing.
use mathlib.Core.Path.{sym, ◌∙◌}
use native.Mathlib.Omega.{arith}
use Rattle.laws.proofs.Tests.{told}
use Rattle.rule_text.specs.Forms.{star, slash}
use Rattle.rule_text.proofs.Counts.{pair_within}
use Rattle.rule_text.proofs.Blocks.{closing_start, closing_step, closing_hit, closing_end, starts}
use Rattle.rule_text.proofs.comment.closing_of.Goals as goal

pub loop-i-init : goal.loop-i-init
loop-i-init c = sym (closing_start c.args.rest.now)

pub returns-then-starts_with : goal.returns-then-starts_with
returns-then-starts_with c =
    let l = c.args.rest.now in
    let i = c.loop-i.i in
    let e = told (c.starts_with.ensures.value ∙ starts l i) c.if-starts_with.true in
    (sym (closing_hit l i c.loop-i-test.true e) ∙ c.loop-i.invariant, pair_within l i star slash (omega arith) e)

pub loop-i-preserved : goal.loop-i-preserved
loop-i-preserved c =
    let l = c.args.rest.now in
    let i = c.loop-i.i in
    let e = told (c.starts_with.ensures.value ∙ starts l i) c.if-starts_with.false in
    sym (closing_step l i c.loop-i-test.true e) ∙ c.loop-i.invariant

pub returns : goal.returns
returns c =
    let l = c.args.rest.now in
    (sym (closing_end l c.loop-i.i c.loop-i-test.false) ∙ c.loop-i.invariant, tt)
