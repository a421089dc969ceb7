-- `plate::accept::plain_foldings` meets its contract: if the last key and all targets together are low, the foldings left are good and rising exactly if
-- all are (Rising.Passed); each turn takes the first one off, a plain one. Assumes nothing.
use Rattle.std.proofs.Common.{◌≡◌, ℕ, ◌+◌, ◌-◌, ◌*◌, ◌/◌, ◌≤◌, sym, refl, ap, ◌∙◌, subst, arith, leb-true}
use Rattle.plate.specs.Answers.{foldings_good}
use Rattle.plate.proofs.Accepted.{foldings_end}
use Rattle.plate.proofs.Rising.{passed_turn}
use Rattle.plate.proofs.accept.plain_foldings.Goals as goal

pub loop-k-init : goal.loop-k-init
loop-k-init c =
    let s = c.args.plate.now in
    record { ones = refl; kept = λ _ _. ap (λ (m : ℕ). foldings_good s 32 m 0) {x = c.args.n - 0} {y = c.args.n} (omega arith) }

pub loop-k-preserved : goal.loop-k-preserved
loop-k-preserved c =
    let s = c.args.plate.now in
    let n = c.args.n in
    let l = c.loop-k in
    let w = c.window_in-w in
    let turn = passed_turn s n (32 + 42 * l.k) (n - l.k) l.before l.all w.result l.invariant (omega arith) w.ensures c.if-w-before.false
    (λ e. c.if-target_in-eq0.false (c.target_in.ensures ∙ e)) in
    let place : 32 + 42 * l.k + 42 ≡ 32 + 42 * (l.k + 1) = omega arith in
    let left : n - l.k - 1 ≡ n - (l.k + 1) = omega arith in
    rw (← place, ← left) turn

pub returns-then-before-le55295 : goal.returns-then-before-le55295
returns-then-before-le55295 c =
    let l = c.loop-k in
    let t = c.target_in-then-before-le55295 in
    λ e.
    let few = subst (λ (x : ℕ). x ≤ 0x7FFF) t.ensures (leb-true t.result 0x7FFF e) in
    sym (foldings_end c.args.plate.now (32 + 42 * l.k) (c.args.n - l.k) (l.before / 8796093022208) (omega arith)) ∙ l.invariant.kept c.if-before-le55295.true few
