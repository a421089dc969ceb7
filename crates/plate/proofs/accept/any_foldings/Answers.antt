-- `plate::accept::any_foldings` meets its contract: the foldings left, behind the key before, are good and rising exactly if all are; each turn
-- takes the first one off. Assumes nothing.
use Rattle.std.proofs.Common.{◌≡◌, ℕ, ◌+◌, ◌-◌, ◌*◌, true, false, sym, refl, ap, ap₂, ◌∙◌, arith}
use Rattle.plate.specs.Bits.{number_at}
use Rattle.plate.specs.Answers.{foldings_good}
use Rattle.plate.proofs.Fronts.{told, untold}
use Rattle.plate.proofs.Accepted.{folding_fits, foldings_stop, foldings_turn, foldings_end}
use Rattle.plate.proofs.accept.any_foldings.Goals as goal

pub loop-k-init : goal.loop-k-init
loop-k-init c = ap (λ (m : ℕ). foldings_good c.args.plate.now 32 m 0) {x = c.args.n - 0} {y = c.args.n} (omega arith)

pub returns-in_default : goal.returns-in_default
returns-in_default c =
    let s = c.args.plate.now in
    let l = c.loop-k in
    let at = 32 + 42 * l.k in
    let out = untold (folding_fits s at l.before) (number_at s at 21) c.any_key.ensures c.in_default.is in
    foldings_stop s at l.before (c.args.n - l.k) (omega arith) false (sym out) refl ∙ l.invariant

pub loop-k-preserved : goal.loop-k-preserved
loop-k-preserved c =
    let s = c.args.plate.now in
    let l = c.loop-k in
    let at = 32 + 42 * l.k in
    let key = c.in-Some.key in
    let good = told (folding_fits s at l.before) (number_at s at 21) key c.any_key.ensures c.in-Some.is in
    let place : 32 + 42 * (l.k + 1) ≡ at + 42 = omega arith in
    let left : c.args.n - (l.k + 1) ≡ c.args.n - l.k - 1 = omega arith in
    ap₂ (λ (p m : ℕ). foldings_good s p m key) place left
    ∙ foldings_turn s at l.before (c.args.n - l.k) (omega arith) true (sym good.0) refl key (sym good.1) ∙ l.invariant

pub returns : goal.returns
returns c =
    let l = c.loop-k in
    sym (foldings_end c.args.plate.now (32 + 42 * l.k) (c.args.n - l.k) l.before (omega arith)) ∙ l.invariant
