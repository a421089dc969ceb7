-- `plate::read::RuleAt::pattern_length` meets its contract: the count is the pattern's length, and a good pattern has 1 to 16 bytes. Assumes nothing.
use Rattle.plate.proofs.Parts.{pattern_count}
use Rattle.plate.proofs.read.RuleAt.pattern_length.Goals as goal

pub returns : goal.returns
returns c = let r = c.args.self.now in pattern_count r.bytes.now r.at r.stands c.size.result c.size.ensures.0
