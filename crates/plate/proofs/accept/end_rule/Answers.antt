-- `plate::accept::end_rule` meets its contract: a plain pattern and quick fields are those of the definition (Accepted.rule_good); any other rule is left to
-- `any_rule`. Assumes nothing.
use Rattle.std.proofs.Common.{◌≡◌, ℕ, ◌+◌, ◌*◌, Some, refl, ap, ◌∙◌, add-zero, arith}
use Rattle.plate.specs.Bits.{number_at}
use Rattle.plate.specs.Answers.{bytes_at, first_of}
use Rattle.plate.proofs.Windows.{front}
use Rattle.plate.proofs.Shapes.{behind_held}
use Rattle.plate.proofs.Accepted.{rule_good}
use Rattle.plate.proofs.accept.end_rule.Goals as goal

pub returns : goal.returns
returns c =
    let s = c.args.plate.now in
    let at = c.args.at in
    let w = c.window-w in
    let n = c.part-length.result in
    let code = c.in-Some in
    let few = code.ensures.0 in
    let b = c.in-Some-quick_fields in
    let short = b.ensures.0 in
    let at_fields = at + 5 + 8 * n in
    let next = at_fields + b.bits in
    let length-is : n ≡ number_at s at 5 = c.part-length.ensures.1 s at 57 (omega arith) (omega arith) w.ensures ∙ ap (λ (p : ℕ). number_at s p 5) (add-zero at) in
    let is_code : Some code.code ≡ first_of (bytes_at s n (at + 5)) =
    code.ensures.1 s (at + 5) (behind_held s at 57 w.result 5 48 w.ensures (omega arith) (omega arith)) in
    let held = front s at_fields 57 c.window.result c.window.ensures (omega arith) 41 (omega arith) in (
      rule_good s at n length-is (Some code.code) is_code code.code refl (Some next) (b.ensures.1 s at_fields held) next refl,
      omega arith,
    )
