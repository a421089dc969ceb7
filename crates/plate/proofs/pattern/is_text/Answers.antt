-- `plate::pattern::is_text` meets its contract: the bytes left are good text exactly if all are; five ASCII bytes pass at once, a character passes
-- (Fronts.text_turn), anything else decides (text_stop), and no bytes are good (text_end). Assumes nothing.
use Rattle.std.proofs.Common.{sym, ◌∙◌, arith}
use Rattle.plate.proofs.Fronts.{text_end, text_stop, text_turn}
use Rattle.plate.proofs.pattern.is_text.Goals as goal

pub returns-in_default : goal.returns-in_default
returns-in_default c =
    let l = c.loop-left in
    sym (text_stop c.args.plate.now l.left l.place c.loop-left-test.true c.front.result c.front.ensures.0 c.in_default.is) ∙ l.invariant.1

pub loop-left-preserved : goal.loop-left-preserved
loop-left-preserved c =
    let l = c.loop-left in
    let letter = c.in-Some.letter in
    let within = c.in-Some.ensures.1 in (
      omega arith,
      text_turn c.args.plate.now l.left l.place c.loop-left-test.true c.front.result c.front.ensures.0 letter c.in-Some.is ∙ l.invariant.1,
    )

pub returns : goal.returns
returns c =
    let l = c.loop-left in
    sym (text_end c.args.plate.now l.left l.place c.loop-left-test.false) ∙ l.invariant.1
