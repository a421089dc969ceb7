-- `plate::read::rule_count` meets its contract: the rules of an accepted plate stand one behind the other (Facts.all_stand). Assumes nothing.
use Rattle.std.proofs.Common.{sym, ap, ◌∙◌}
use Rattle.plate.specs.Bits.{number_at}
use Rattle.plate.proofs.Facts.{rules_counted, all_stand}
use Rattle.plate.proofs.read.rule_count.Goals as goal

pub returns : goal.returns
returns c =
    let s = c.args.plate.now in
    let n = c.size.ensures.0 ∙ ap (number_at s 8) c.width_of.ensures.0 in
    (n ∙ sym (rules_counted s c.requires), all_stand s c.requires c.size.result n)
