-- `rule::plain` meets its contract: `position` answers the first quote behind the one in front (Quotes.plain_found, plain_none). Assumes nothing.
use mathlib.Core.Path.{subst, sym, ◌∙◌}
use Rattle.std.proofs.Common.{eqb, length, arith, rules, tests}
use Rattle.std.proofs.lemmas.Iterator.{YieldsList-from_slice}
use Rattle.std.proofs.lemmas.Iterator.Search.{position_from_yields_List}
use Rattle.laws.proofs.Parts.{lent}
use Rattle.rule_text.specs.Forms.{quote}
use Rattle.rule_text.specs.Answers.{Holds}
use Rattle.rule_text.proofs.Quotes.{plain_found, plain_none}
use Rattle.rule_text.proofs.rule.plain.Goals as goal

pub returns-in_err-end : goal.returns-in_err-end
returns-in_err-end c =
    let l = c.args.rest.now in
    let e = position_from_yields_List (λ x. eqb x quote) _ _ c.position.result c.position.ensures.ran (YieldsList-from_slice (lent 1 l) cc) (λ x t q k. search (rules, tests)) in
    (c.from_residual.ensures ∙ plain_none l c.requires e c.in_err-end.was, subst (Holds 0 (length l)) (sym c.from_residual.ensures) tt)

pub returns : goal.returns
returns c =
    let l = c.args.rest.now in
    let e = position_from_yields_List (λ x. eqb x quote) _ _ c.position.result c.position.ensures.ran (YieldsList-from_slice (lent 1 l) cc) (λ x t q k. search (rules, tests)) in
    let f = plain_found l c.requires e c.in_ok-end.field-0 c.in_ok-end.was in
    let b = f.1 in
    (f.0, record { after = omega arith; ordered = omega arith; closed = omega arith; within = omega arith; some = omega arith })
