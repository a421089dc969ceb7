-- `run::run` meets its contract. The loop keeps Steps.Left: what comes of the uses left and the branches held is what comes of all uses and the start. The
-- last use is Steps.done, any other Steps.used_over or Steps.used_on. Each use stands behind the one before, so the loop ends. Assumes nothing.
use Rattle.std.proofs.Common.{ℕ, ◌≡◌, List, ◌∷◌, Bor, is_ok, refl, sym, ap, ◌∙◌, arith}
use Rattle.plate.specs.Read.{plate_in}
use Rattle.branches.specs.Held.{use_of}
use Rattle.coder.specs.Held.{left}
use Rattle.coder.proofs.Steps.{from_start, no_room, begin, done, used_over, used_on, failed}
use Rattle.coder.proofs.run.run.Goals as goal

pub returns-then-room-eq0 : goal.returns-then-room-eq0
returns-then-room-eq0 c =
    let a = c.args in
    no_room a.most a.room (plate_in a.plate.now.bytes.now).rules a.name.now (omega (arith, c.if-room-eq0.true))

pub loop-u-init : goal.loop-u-init
loop-u-init c =
    let a = c.args in
    let rs = (plate_in a.plate.now.bytes.now).rules in
    let z = c.if-room-eq0.false in
    (refl, begin a.most a.room rs a.name.now _ c.start-bs.result (omega arith) (from_start rs a.name.now a.most) c.start-bs.ensures)

pub loop-u-preserved : goal.loop-u-preserved
loop-u-preserved c =
    let a = c.args in
    let l = c.loop-u in
    let n = c.in-Some.ensures in
    let u = use_of c.field.result c.in-Some.u.anyway in
    let v = c.next.new.self in
    let met : left a.most l.walk ≡ u ∷ left a.most v =
    n.first a.most ∙ ap (λ (alternatives : List (List ℕ)). use_of alternatives c.in-Some.u.anyway ∷ left a.most v) (sym c.field.ensures) in
    let rs = (plate_in a.plate.now.bytes.now).rules in (
      ap (λ (b : Bor (List ℕ)). b.now) n.same ∙ l.invariant.0,
      used_on a.most a.room rs a.name.now l.walk v l.bs l.invariant.1 u met (is_ok c.step.result) c.step.ensures.0 (ap is_ok c.in_ok-step.was) c.step.new.self c.step.ensures.1,
    )

pub returns-in_err-step : goal.returns-in_err-step
returns-in_err-step c =
    let a = c.args in
    let l = c.loop-u in
    let n = c.in-Some.ensures in
    let u = use_of c.field.result c.in-Some.u.anyway in
    let v = c.next.new.self in
    let met : left a.most l.walk ≡ u ∷ left a.most v =
    n.first a.most ∙ ap (λ (alternatives : List (List ℕ)). use_of alternatives c.in-Some.u.anyway ∷ left a.most v) (sym c.field.ensures) in
    let rs = (plate_in a.plate.now.bytes.now).rules in
    used_over a.most a.room rs a.name.now l.walk v l.bs l.invariant.1 u met (is_ok c.step.result) c.step.ensures.0 (ap is_ok c.in_err-step.was)
    ∙ sym (failed c.from_residual.result c.from_residual.ensures.0)

pub returns : goal.returns
returns c =
    let a = c.args in
    let l = c.loop-u in
    done a.most a.room (plate_in a.plate.now.bytes.now).rules a.name.now l.walk c.next.new.self l.bs l.invariant.1 (c.in_default.ensures a.most)
