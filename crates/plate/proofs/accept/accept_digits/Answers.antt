-- `plate::accept::accept_digits` meets its contract: six digits are tested at once, and those in front of the n are 0. Assumes nothing.
use Rattle.std.proofs.Common.{◌≡◌, ℕ, ◌+◌, ◌-◌, sym, ap, ◌∙◌, arith}
use Rattle.plate.specs.Answers.{last_digits}
use Rattle.plate.proofs.Nibbles.{digits_at_once, zeros_in_front}
use Rattle.plate.proofs.accept.accept_digits.Goals as goal

pub returns : goal.returns
returns c =
    let a = c.args in
    let six : a.n + (6 - a.n) ≡ 6 = omega (arith, c.requires.0) in
    digits_at_once 6 a.number
    ∙ sym (ap (λ (m : ℕ). last_digits m a.number) six)
    ∙ zeros_in_front (6 - a.n) a.n a.number c.requires.1
