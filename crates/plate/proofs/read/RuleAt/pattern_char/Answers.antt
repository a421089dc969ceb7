-- `plate::read::RuleAt::pattern_char` meets its contract: from a mark on the pattern is text without a zero byte, so a character stands there
-- (Parts.letter_ascii, letter-wide, letter-none). Assumes nothing.
use Rattle.std.proofs.Common.{arith}
use Rattle.plate.proofs.Parts.{rest_some, letter_ascii, letter_wide, letter_there}
use Rattle.plate.proofs.read.RuleAt.pattern_char.Goals as goal

pub returns-then-first-le127 : goal.returns-then-first-le127
returns-then-first-le127 c =
    let r = c.args.self.now in
    letter_ascii r.bytes.now r.at r.stands c.args.k c.requires.0 c.requires.1 c.bits-first.result c.bits-first.ensures.0 c.if-first-le127.true

pub overflow_sub-left : goal.overflow_sub-left
overflow_sub-left c =
    let r = c.args.self.now in
    let i = rest_some r.bytes.now r.at r.stands c.args.k c.requires.0 c.requires.1 c.size.result c.size.ensures.0 in
    omega arith

pub wide_front-requires : goal.wide_front-requires
wide_front-requires c =
    let r = c.args.self.now in
    let i = rest_some r.bytes.now r.at r.stands c.args.k c.requires.0 c.requires.1 c.size.result c.size.ensures.0 in
    let j = c.size.ensures.1 in
    let n = r.stands.near in
    (omega arith, omega arith)

pub unwrap-requires : goal.unwrap-requires
unwrap-requires c =
    let r = c.args.self.now in
    letter_there r.bytes.now r.at r.stands c.args.k c.requires.0 c.requires.1 c.size.result c.size.ensures.0 c.wide_front.result c.wide_front.ensures

pub returns : goal.returns
returns c =
    let r = c.args.self.now in
    letter_wide r.bytes.now r.at r.stands c.args.k c.requires.0 c.requires.1 c.size.result c.size.ensures.0 c.wide_front.result
    c.wide_front.ensures c.unwrap.result c.unwrap.ensures
