-- `plate::accept::any_rule` meets its contract: pattern and fields are tested in turn, and each refusal is the definition's
-- (Accepted.rule_pattern, rule_fields). Assumes nothing.
use Rattle.std.proofs.Common.{◌+◌, arith}
use Rattle.plate.proofs.Accepted.{pattern_few, rule_good}
use Rattle.plate.proofs.accept.any_rule.Goals as goal

pub returns : goal.returns
returns c =
    let s = c.args.plate.now in
    let at = c.args.at in
    let length = c.size-length in
    let pattern = c.accept_pattern in
    let fields = c.accept_fields in
    let few = pattern_few s length.result (at + 5) pattern.result pattern.ensures c.in_ok-code.code c.in_ok-code.was in
    let near = c.in_ok-next.ensures.1 in (
      rule_good s at length.result length.ensures.0 pattern.result pattern.ensures c.in_ok-code.code c.in_ok-code.was fields.result fields.ensures.0
          c.in_ok-next.next c.in_ok-next.was,
      omega arith,
    )
