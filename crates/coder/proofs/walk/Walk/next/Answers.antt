-- `walk::Walk::next` meets its contract. The loop keeps: the uses left are those that were left at the start. A character without a match is Steps.known or
-- Steps.unknown, a rule that is taken Steps.used, the end Steps.from_end. A pattern has a character, so the place moves. Assumes nothing.
use Rattle.std.proofs.Common.{ℕ, List, Bor, length, take, sym, ap, ◌∙◌, arith}
use Rattle.laws.proofs.Lists.{rest}
use Rattle.plate.specs.Read.{rule_at, plate_in}
use Rattle.plate.specs.Stands.{field_of}
use Rattle.plate.proofs.Facts.{rules_good, rules_ordered}
use Rattle.plate.specs.declared.FieldKind.{FieldKind}
use Rattle.coder.specs.Held.{field_kind}
use Rattle.coder.proofs.Steps.{known, unknown, used, from_end}
use Rattle.coder.proofs.walk.Walk.next.Goals as goal

pub loop-self-preserved-in-NoGroup : goal.loop-self-preserved-in-NoGroup
loop-self-preserved-in-NoGroup c =
    let l = c.loop-self in
    let w = l.self in
    let p = w.plate in
    let s = p.bytes.now in
    let told = rw (rest w.at w.name.now) at c.in-NoGroup.ensures in (
      l.invariant.0,
      l.invariant.1,
      omega (arith, l.invariant.2),
      λ most. unknown (plate_in s).rules w.name.now most (rules_good s p.is_accepted) (rules_ordered s p.is_accepted) w.before w.at c.loop-self-test.true told
          ∙ l.invariant.3 most,
    )

pub loop-self-preserved : goal.loop-self-preserved
loop-self-preserved c =
    let l = c.loop-self in
    let w = l.self in
    let p = w.plate in
    let s = p.bytes.now in
    let told = rw (rest w.at w.name.now) at c.in-NoMatch.ensures in (
      l.invariant.0,
      l.invariant.1,
      omega (arith, l.invariant.2),
      λ most. known (plate_in s).rules w.name.now most (rules_good s p.is_accepted) (rules_ordered s p.is_accepted) w.before w.at c.loop-self-test.true told
          ∙ l.invariant.3 most,
    )

pub returns-in-Rule : goal.returns-in-Rule
returns-in-Rule c =
    let l = c.loop-self in
    let w = l.self in
    let p = w.plate in
    let s = p.bytes.now in
    let n = c.in-Rule.n in
    let found = rw (rest w.at w.name.now) at c.in-Rule.ensures in
    let r = rule_at c.in-Rule.rule.bytes.now c.in-Rule.rule.at in
    let kind = c.field_kind-kind.ensures ∙ ap (field_kind w.before) c.vowel_at.ensures in record {
      first = λ most. sym (l.invariant.3 most)
          ∙ used (plate_in s).rules w.name.now most (rules_good s p.is_accepted) (rules_ordered s p.is_accepted) w.before w.at c.loop-self-test.true r n
          found.taken found.counted found.some (record { alternatives = take most (field_of r c.field_kind-kind.result); anyway = c.is_forced-anyway.result })
          (ap (λ (k : FieldKind). take most (field_of r k)) kind) c.is_forced-anyway.ensures;
      within = omega (arith, l.invariant.2, c.loop-self-test.true, ap (λ (b : Bor (List ℕ)). length b.now) l.invariant.1);
      behind = omega (arith, l.invariant.2, found.some);
      same = l.invariant.1;
    }

pub returns : goal.returns
returns c =
    let l = c.loop-self in
    let w = l.self in
    λ most. sym (l.invariant.3 most) ∙ from_end (plate_in w.plate.bytes.now).rules w.name.now most w.before w.at c.loop-self-test.false
