-- `plate::read::field_end` meets its contract: the place behind the alternatives left is the place behind all; no more than 31 bits pass a turn. One alternative is passed by one read.
-- Assumes nothing.
use Rattle.std.proofs.Common.{◌≡◌, ℕ, ◌+◌, ◌-◌, ◌*◌, ◌/◌, ap, ap₂, ◌∙◌, arith}
use Rattle.plate.specs.Read.{past, alternative_end}
use Rattle.plate.proofs.Parts.{field_front, field_one, field_turn}
use Rattle.plate.proofs.read.field_end.Goals as goal

pub returns-then-front-eq1 : goal.returns-then-front-eq1
returns-then-front-eq1 c =
    let a = c.args in
    field_one a.plate.now a.at c.size-front.result c.size-front.ensures.0 c.if-front-eq1.true

pub loop-init : goal.loop-init
loop-init c =
    let a = c.args in
    let f = field_front a.plate.now a.at c.size-front.result c.size-front.ensures.0 in
    let all : c.size-front.result / 8 - 0 ≡ c.size-front.result / 8 = omega arith in
    (omega arith, ap (λ (n : ℕ). past (alternative_end a.plate.now) n (a.at + 4)) (all ∙ f.0))

pub loop-preserved : goal.loop-preserved
loop-preserved c =
    let s = c.args.plate.now in
    let l = c.loop in
    let n = c.size-front.result / 8 in
    let h = c.size.ensures.1 in
    let left : n - (l.counter + 1) ≡ n - l.counter - 1 = omega arith in
    let place : l.place + (3 + 4 * c.size.result) ≡ l.place + 3 + 4 * c.size.result = omega arith in (
      omega (arith, l.invariant.0, h),
      ap₂ (λ (m p : ℕ). past (alternative_end s) m p) left place
          ∙ field_turn s l.place (n - l.counter) (omega arith) c.size.result c.size.ensures.0 ∙ l.invariant.1,
    )
