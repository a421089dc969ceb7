-- `known::has_pattern` meets its contract. At the place of a key stands the rule that was noted there (Again.viewed_again). Assumes nothing.
use mathlib.Core.Path.{sym, ◌∙◌, ap}
use mathlib.Core.List.{List}
use Rattle.laws.specs.Lists.{same}
use Rattle.laws.proofs.Library.{same_so}
use Rattle.plate.specs.Plate.{Rule}
use Rattle.builder.proofs.Again.{noted_rule, other_arm, viewed_again}
use Rattle.builder.proofs.known.has_pattern.Goals as goal

pub returns-in_default : goal.returns-in_default
returns-in_default c =
    absurd (other_arm c.item.result (noted_rule c.args.text.now c.args.key c.item.ensures.0 c.requires) c.in_default.not-Rule)

pub returns-in-Rule : goal.returns-in-Rule
returns-in-Rule c =
    let a = c.args in
    let P = a.pattern.now in
    let again = viewed_again a.text.now a.key c.item.ensures.0 c.requires c.in-Rule.four c.in-Rule.is in
    c.eq.ensures ∙ same_so _ P ∙ ap (λ (l : List _). same l P) (c.bytes_in.ensures ∙ sym (ap (λ (r : Rule). r.pattern) again))
