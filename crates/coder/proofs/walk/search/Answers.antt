-- `walk::search` meets its contract. The loop over the group's rules keeps Groups.Left: the search from here on, in the group, is the search over all rules.
-- Assumes nothing.
use Rattle.std.proofs.Common.{arith}
use Rattle.plate.specs.Read.{rule_at}
use Rattle.coder.proofs.Groups.{left_start, left_hit, left_miss, no_group, no_match, one_letter}
use Rattle.coder.proofs.walk.search.Goals as goal

pub returns-then-group : goal.returns-then-group
returns-then-group c =
    let p = c.args.plate.now in
    let g = c.group_of-group in
    no_group p.bytes.now c.args.rest.now g.result.first g.result.behind p.is_accepted g.ensures c.requires c.if-group.true

pub loop-i-init : goal.loop-i-init
loop-i-init c =
    let p = c.args.plate.now in
    let g = c.group_of-group in
    left_start p.bytes.now c.args.rest.now g.result.first g.result.behind p.is_accepted g.ensures c.requires

pub returns-in-Some : goal.returns-in-Some
returns-in-Some c =
    let p = c.args.plate.now in
    let g = c.group_of-group in
    let r = c.rule-rule in
    let begun = c.in-Some.ensures in
    let some = one_letter r.result.bytes.now r.result.at r.result.stands in record {
      taken = left_hit p.bytes.now c.args.rest.now g.result.first g.result.behind p.is_accepted g.ensures c.requires c.loop-i.i c.loop-i-test.true c.loop-i.invariant
          (rule_at r.result.bytes.now r.result.at) r.ensures.1 r.result.stands.good begun.0;
      counted = begun.1;
      some = omega (arith, some, begun.1);
      few = begun.2;
    }

pub loop-i-preserved : goal.loop-i-preserved
loop-i-preserved c =
    let p = c.args.plate.now in
    let g = c.group_of-group in
    let r = c.rule-rule in
    left_miss p.bytes.now c.args.rest.now g.result.first g.result.behind p.is_accepted g.ensures c.requires c.loop-i.i c.loop-i-test.true c.loop-i.invariant
    (rule_at r.result.bytes.now r.result.at) r.ensures.1 r.result.stands.good c.in_default.ensures

pub returns : goal.returns
returns c =
    let p = c.args.plate.now in
    let g = c.group_of-group in
    no_match p.bytes.now c.args.rest.now g.result.first g.result.behind p.is_accepted g.ensures c.requires c.loop-i.i c.if-group.false c.loop-i-test.false
    c.loop-i.invariant
