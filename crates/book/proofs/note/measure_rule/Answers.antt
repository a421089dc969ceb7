-- `note::measure_rule` meets its contract: the tests in 01's order, and the bits of the parts (Ways.rule_fine, Measures.rule_length). Assumes nothing.
use mathlib.Core.Path.{sym, ◌∙◌}
use native.Mathlib.Omega.{arith}
use borrow.Author.Tests.{eqb-false}
use Rattle.book.specs.Note.{rule_from}
use Rattle.book.proofs.Measures.{rule_length}
use Rattle.book.proofs.Ways.{rule_fine}
use Rattle.book.proofs.note.measure_rule.Goals as goal

pub returns : goal.returns
returns c =
    let r = rule_from c.args.parts in
    let s = rw c.in_ok-start.was at c.measure_field.ensures in
    let v = rw c.in_ok-vowel.was at c.measure_field-2.ensures in
    let o = rw c.in_ok-other.was at c.measure_field-3.ensures in (
      rule_fine r c.args.rules (eqb-false _ 0 (sym c.is_empty.ensures ∙ c.if-is_empty.false)) c.if-parts-gt-LONGEST_PATTERN.false s.0 v.0 o.0 c.if-rules-ge-MOST_RULES.false,
      rule_length r _ _ _ s.1 v.1 o.1,
      omega (arith, s.2, v.2, o.2),
    )
