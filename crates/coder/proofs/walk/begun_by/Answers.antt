-- `walk::begun_by` meets its contract: the characters ahead decide (Compared.said_begins, Compared.said_not). Assumes nothing.
use Rattle.std.proofs.Common.{arith}
use Rattle.coder.proofs.Compared.{said_begins, said_not}
use Rattle.coder.proofs.walk.begun_by.Goals as goal

pub returns-in-Is : goal.returns-in-Is
returns-in-Is c =
    let r = c.args.rule.now in
    let said = said_begins r.bytes.now r.at r.stands c.args.rest.now c.args.ahead c.requires _ c.pattern_begins.ensures c.in-Is.n c.in-Is.is in
    (said.0, said.1, omega (arith, said.2))

pub returns-in-Not : goal.returns-in-Not
returns-in-Not c =
    let r = c.args.rule.now in
    said_not r.bytes.now r.at r.stands c.args.rest.now c.args.ahead c.requires _ c.pattern_begins.ensures c.in-Not.is
