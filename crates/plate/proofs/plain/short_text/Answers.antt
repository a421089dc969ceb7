-- `plate::plain::short_text` meets its contract: the bytes left are text exactly if all are; each turn takes a character off (Shapes.rest_turn). Assumes nothing.
use Rattle.std.proofs.Common.{arith}
use Rattle.plate.proofs.Shapes.{rest_all, rest_turn, rest_none}
use Rattle.plate.proofs.plain.short_text.Goals as goal

pub loop-left-init : goal.loop-left-init
loop-left-init c = (c.requires, rest_all _ _)

pub loop-left-preserved : goal.loop-left-preserved
loop-left-preserved c =
    let l = c.loop-left in
    (omega arith, rest_turn c.args.w c.args.n l.rest l.left c.in-Some.width l.invariant.1 l.invariant.0 c.if-left-width.false c.in-Some.ensures.2)

pub returns : goal.returns
returns c =
    let l = c.loop-left in
    λ _. rest_none c.args.w c.args.n l.rest l.left l.invariant.1 c.loop-left-test.false
