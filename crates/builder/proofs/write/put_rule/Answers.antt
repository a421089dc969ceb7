-- `write::put_rule` meets its contract. At the place of a key stands the rule that was noted there (Again.viewed_again). Assumes nothing.
use mathlib.Core.Path.{◌≡◌, sym, ◌∙◌, ap, subst}
use Rattle.plate.specs.Plate.{Rule}
use Rattle.plate.specs.Written.{rule_bits}
use Rattle.book.specs.Book.{rule_fault}
use Rattle.book.specs.Note.{place_in, rule_from}
use Rattle.book.proofs.Inks.{ready_as, wrote_as}
use Rattle.builder.specs.Survey.{view}
use Rattle.builder.proofs.Again.{noted_rule, other_arm, viewed_again}
use Rattle.builder.proofs.write.put_rule.Goals as goal

pub put_rule-requires : goal.put_rule-requires
put_rule-requires c =
    let a = c.args in
    let same : view a.text.now (place_in a.key) ≡ rule_from c.parts_in.result =
    viewed_again a.text.now a.key c.item.ensures.0 c.requires.0 c.in-Rule.four c.in-Rule.is ∙ sym c.parts_in.ensures
    in (subst (λ (q : Rule). rule_fault q 0 ≡ 0) same c.requires.0.fine, ready_as (ap rule_bits same) c.requires.1)

pub returns-in-Rule : goal.returns-in-Rule
returns-in-Rule c =
    let a = c.args in
    let same : view a.text.now (place_in a.key) ≡ rule_from c.parts_in.result =
    viewed_again a.text.now a.key c.item.ensures.0 c.requires.0 c.in-Rule.four c.in-Rule.is ∙ sym c.parts_in.ensures
    in wrote_as (ap rule_bits (sym same)) c.put_rule.ensures

pub returns-in_default : goal.returns-in_default
returns-in_default c = absurd (other_arm c.item.result (noted_rule c.args.text.now c.args.key c.item.ensures.0 c.requires.0) c.in_default.not-Rule)
