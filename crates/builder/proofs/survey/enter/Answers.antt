-- `survey::enter` meets its contract. Each form of an item is one turn (Turns: rule_turn, folding_turn, line_end_turn, comment_turn, unknown_turn). Assumes nothing.
use mathlib.Core.Logic.{inl, inr}
use Rattle.builder.proofs.Turns.{stopped_so, line_end_turn, comment_turn, unknown_turn, folding_turn, folding_stop, rule_turn, rule_stop}
use Rattle.builder.proofs.survey.enter.Goals as goal

pub returns-in_err-note_four-in-Rule : goal.returns-in_err-note_four-in-Rule
returns-in_err-note_four-in-Rule c =
    let a = c.args in
    let n = c.note_four in
    let r = c.in_err-note_four-in-Rule in
    let says = rw r.was at n.ensures in
    let stop = rule_stop a.text.now a.at a.notes.now c.requires.0 c.requires.1 c.in-Rule.four c.item.ensures c.in-Rule.is n.new.notes _ says in
    stopped_so a.text.now a.at a.notes.now n.new.notes _ c.from_residual.result c.from_residual.ensures.1 stop

pub returns-in_err-note_folding-in-Folding : goal.returns-in_err-note_folding-in-Folding
returns-in_err-note_folding-in-Folding c =
    let a = c.args in
    let n = c.note_folding in
    let r = c.in_err-note_folding-in-Folding in
    let f = c.in-Folding in
    let says = rw r.was at n.ensures.noted in
    let stop = folding_stop a.text.now a.at a.notes.now c.requires.0 c.requires.1 f.key f.target f.next c.item.ensures f.is n.new.self.foldings.now _ says in
    let e = c.from_residual-in_err-note_folding-in-Folding in stopped_so a.text.now a.at a.notes.now n.new.self _ e.result e.ensures.1 stop

pub returns-in_ok-note_four-in-Rule : goal.returns-in_ok-note_four-in-Rule
returns-in_ok-note_four-in-Rule c =
    let a = c.args in
    let n = c.note_four in
    let says = rw c.in_ok-note_four-in-Rule.was at n.ensures in
    rule_turn a.text.now a.at a.notes.now c.requires.0 c.requires.1 c.in-Rule.four c.item.ensures c.in-Rule.is n.new.notes says

pub returns-in_ok-note_folding-in-Folding : goal.returns-in_ok-note_folding-in-Folding
returns-in_ok-note_folding-in-Folding c =
    let a = c.args in
    let n = c.note_folding in
    let f = c.in-Folding in
    let says = rw c.in_ok-note_folding-in-Folding.was at n.ensures.noted in
    folding_turn a.text.now a.at a.notes.now c.requires.0 c.requires.1 f.key f.target f.next c.item.ensures f.is n.new.self says n.ensures.others

pub returns-in-Unknown : goal.returns-in-Unknown
returns-in-Unknown c =
    let a = c.args in unknown_turn a.text.now a.at a.notes.now c.requires.0 c.requires.1 c.item.ensures c.in-Unknown.is

pub returns-in-LineEnd : goal.returns-in-LineEnd
returns-in-LineEnd c =
    let a = c.args in
    let next = c.in-LineEnd.next in elim c.in-LineEnd.is [
      | inl e ↦ line_end_turn a.text.now a.at a.notes.now c.requires.0 c.requires.1 next c.item.ensures e
      | inr e ↦ comment_turn a.text.now a.at a.notes.now c.requires.0 c.requires.1 next c.item.ensures e
    ]
