-- `plate::accept::alternative_in` meets its contract: the count is at most 6 or refused, and the digits stand behind it in the window
-- (Accepted.by_digits). Assumes nothing.
use Rattle.std.proofs.Common.{ℕ, true, false, ap, ◌∙◌, add-zero, arith}
use Rattle.plate.specs.Bits.{number_at}
use Rattle.plate.specs.Most.{alternative_most}
use Rattle.plate.proofs.Accepted.{by_digits, alternative_over}
use Rattle.plate.proofs.accept.alternative_in.Goals.{else-n-le-MOST_DIGITS-via-then-n-le-MOST_DIGITS+else-accept_digits, else-n-le-MOST_DIGITS-via-else-n-le-MOST_DIGITS}
use Rattle.plate.proofs.accept.alternative_in.Goals as goal

pub returns-then-accept_digits : goal.returns-then-accept_digits
returns-then-accept_digits c = (
  omega arith,
  λ s h.
      let at = c.args.at in
      by_digits s at c.part-n.result
      (c.part-n.ensures.1 s at alternative_most (omega arith) (omega arith) h ∙ ap (λ (p : ℕ). number_at s p 3) (add-zero at)) c.if-n-le-MOST_DIGITS.true
      c.part.result (c.part.ensures.1 s at alternative_most (omega arith) (omega arith) h) c.accept_digits.result c.accept_digits.ensures true
      c.if-accept_digits.true,
)

pub returns : goal.returns
returns c = (
  tt,
  λ s h.
      let at = c.args.at in
      let counted = c.part-n.ensures.1 s at alternative_most (omega arith) (omega arith) h ∙ ap (λ (p : ℕ). number_at s p 3) (add-zero at) in
      elim c.else-n-le-MOST_DIGITS.branch [
        | else-n-le-MOST_DIGITS-via-then-n-le-MOST_DIGITS+else-accept_digits t ↦
            by_digits s at c.part-n.result counted t.if-n-le-MOST_DIGITS.true t.part.result
            (t.part.ensures.1 s at alternative_most (omega arith) (omega arith) h) t.accept_digits.result t.accept_digits.ensures false t.if-accept_digits.false
        | else-n-le-MOST_DIGITS-via-else-n-le-MOST_DIGITS t ↦ alternative_over s at c.part-n.result counted t.if-n-le-MOST_DIGITS.false
      ],
)
