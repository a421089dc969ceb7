-- `plate::accept::accept_field` meets its contract: a single alternative stands behind the count in the same window; of others those left are good and end
-- where all do, each turn takes the first one off, and no more than 27 bits pass. Assumes nothing.
use Rattle.std.proofs.Common.{ℕ, ◌+◌, ◌-◌, sym, ap, ◌∙◌, add-zero, arith}
use Rattle.plate.specs.Bits.{number_at}
use Rattle.plate.specs.Most.{field_most, alternative_most}
use Rattle.plate.specs.Answers.{alternatives_step}
use Rattle.plate.proofs.Accepted.{alternatives_turn, alternatives_end, field_none, field_over, field_is, field_one, up_further}
use Rattle.plate.proofs.Windows.{front, shifted}
use Rattle.plate.proofs.accept.accept_field.Goals.{then-n-lt1-via-then-n-lt1, then-n-lt1-via-else-n-lt1+then-n-gt-MOST_ALTERNATIVES}
use Rattle.plate.proofs.accept.accept_field.Goals as goal

pub returns-in-Some : goal.returns-in-Some
returns-in-Some c =
    let s = c.args.plate.now in
    let at = c.args.at in
    let w = c.window-w in
    let b = c.in-Some.ensures in
    let few = b.0 in
    (b.1 s at (front s at 57 w.result w.ensures (omega arith) 26 (omega arith)), omega arith)

pub returns-then-n-eq1 : goal.returns-then-n-eq1
returns-then-n-eq1 c =
    let s = c.args.plate.now in
    let at = c.args.at in
    let w = c.window-w in
    let behind = shifted s at 57 w.result w.ensures (omega arith) 4 (omega arith) in
    let counted = c.part-n.ensures.1 s at 57 (omega arith) (omega arith) w.ensures ∙ ap (λ (p : ℕ). number_at s p 4) (add-zero at) in
    let e = c.alternative_in.ensures in (
      field_one s at c.part-n.result counted c.if-n-eq1.true c.alternative_in.result (e.1 s (front s (at + 4) 53 _ behind (omega arith) alternative_most (omega arith))),
      up_further c.alternative_in.result (at + 4 + alternative_most) (at + field_most) (omega arith) e.0,
    )

pub returns-then-n-lt1 : goal.returns-then-n-lt1
returns-then-n-lt1 c =
    let s = c.args.plate.now in
    let at = c.args.at in
    let counted = c.part-n.ensures.1 s at 57 (omega arith) (omega arith) c.window-w.ensures ∙ ap (λ (p : ℕ). number_at s p 4) (add-zero at) in (
      elim c.then-n-lt1.branch [
        | then-n-lt1-via-then-n-lt1 t ↦ field_none s at c.part-n.result counted t.if-n-lt1.true
        | then-n-lt1-via-else-n-lt1+then-n-gt-MOST_ALTERNATIVES t ↦ field_over s at c.part-n.result counted t.if-n-gt-MOST_ALTERNATIVES.true
      ],
      tt,
    )

pub loop-preserved : goal.loop-preserved
loop-preserved c =
    let s = c.args.plate.now in
    let l = c.loop in
    let n = c.part-n.result in
    let r = c.accept_alternative in
    let next = c.in_ok-place.place in
    let within = c.in_ok-place.ensures.1 in (
      omega (arith, l.invariant.0),
      ap (λ (m : ℕ). alternatives_step s m next) {x = n - (l.counter + 1)} {y = n - l.counter - 1} (omega arith)
          ∙ alternatives_turn s l.place (n - l.counter) (omega arith) r.result r.ensures.0 next c.in_ok-place.was ∙ l.invariant.1,
    )

pub returns : goal.returns
returns c =
    let s = c.args.plate.now in
    let at = c.args.at in
    let l = c.loop in
    let n = c.part-n.result in
    let few = c.if-n-gt-MOST_ALTERNATIVES.false in
    let counted = c.part-n.ensures.1 s at 57 (omega arith) (omega arith) c.window-w.ensures ∙ ap (λ (p : ℕ). number_at s p 4) (add-zero at) in (
      sym (alternatives_end s (n - l.counter) l.place (omega arith)) ∙ l.invariant.1 ∙ field_is s at n counted c.if-n-lt1.false few,
      omega (arith, l.invariant.0),
    )
