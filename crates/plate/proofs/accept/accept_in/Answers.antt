-- `plate::accept::accept_in` meets its contract: the tests of `accepted_in` are made one by one, and any that fails decides
-- (Accepted.accept_few_rules to accept_end); what accept_rules has noted is noted of the plate. Assumes nothing.
use Rattle.plate.proofs.Accepted.{accept_few_rules, accept_many_rules, accept_many_foldings, accept_bad_folding, accept_bad_rule, accept_end}
use Rattle.plate.proofs.Noting.{noted_all, noted_if}
use Rattle.plate.proofs.accept.accept_in.Goals.{then-n-edition-via-then-n-edition, then-n-edition-via-else-n-edition+then-edition-n, then-n-edition-via-else-n-edition+else-edition-n+then-m-gt-MOST_FOLDINGS, then-n-edition-via-else-n-edition+else-edition-n+else-m-gt-MOST_FOLDINGS+then-not-accept_foldings}
use Rattle.plate.proofs.accept.accept_in.Goals as goal

pub returns-then-n-edition : goal.returns-then-n-edition
returns-then-n-edition c =
    let a = c.args in
    let s = a.plate.now in
    let m = c.size-m in
    let n = c.size-n in (
      elim c.then-n-edition.branch [
        | then-n-edition-via-then-n-edition t ↦ accept_few_rules s a.edition n.result n.ensures.0 t.if-n-edition.true
        | then-n-edition-via-else-n-edition+then-edition-n t ↦ accept_many_rules s a.edition n.result n.ensures.0 t.if-edition-n.true
        | then-n-edition-via-else-n-edition+else-edition-n+then-m-gt-MOST_FOLDINGS t ↦
            accept_many_foldings s a.edition m.result m.ensures.0 t.if-m-gt-MOST_FOLDINGS.true
        | then-n-edition-via-else-n-edition+else-edition-n+else-m-gt-MOST_FOLDINGS+then-not-accept_foldings t ↦
            accept_bad_folding s a.edition m.result m.ensures.0 t.accept_foldings.result t.accept_foldings.ensures t.if-not-accept_foldings.true
      ],
      tt,
    )

pub returns-in-None : goal.returns-in-None
returns-in-None c =
    let a = c.args in (
      accept_bad_rule a.plate.now a.edition c.size-m.result c.size-m.ensures.0 c.accept_foldings.result c.accept_foldings.ensures
          c.size-n.result c.size-n.ensures.0 c.accept_rules.result c.accept_rules.ensures.0 c.in-None.is,
      tt,
    )

pub returns-in-Some : goal.returns-in-Some
returns-in-Some c =
    let a = c.args in
    let s = a.plate.now in
    let m = c.size-m in
    let n = c.size-n in
    let end = c.in-Some in (
      accept_end s a.edition m.result m.ensures.0 c.accept_foldings.result c.accept_foldings.ensures n.result n.ensures.0
          c.accept_rules.result c.accept_rules.ensures.0 c.bits.result c.bits-else-bits-edition.result c.bits.ensures.0 c.if-bits-edition.false
          c.bits-else-bits-edition.ensures.0 c.if-bits-ne0.false c.if-n-edition.false c.if-edition-n.false c.if-m-gt-MOST_FOLDINGS.false
          c.if-not-accept_foldings.false end.end end.is c.is_zero_filled.result c.is_zero_filled.ensures,
      noted_if c.is_zero_filled.result a.edition.width s _ _ (noted_all a.edition.width s _ _ m.result n.result m.ensures.0 n.ensures.0 end.ensures.2),
    )
