-- `plate::read::fold` meets its contract: what the foldings left say of the character is what all say. Keys rise, so below the first stands none
-- (Parts.fold_below), and the key in the middle tells which half may have it (Parts.fold_first, Parts.fold_last). Assumes nothing.
use Rattle.std.proofs.Common.{ℕ, ◌+◌, ◌-◌, ◌/◌, ◌<◌, ◌≤◌, ap, ◌∙◌, arith}
use Rattle.plate.specs.Plate.{rising}
use Rattle.plate.specs.Read.{many, folding_at, folding_end, fold_by}
use Rattle.plate.proofs.Facts.{foldings_few, keys_rise}
use Rattle.plate.proofs.Parts.{fold_first, fold_last, fold_below, fold_hit, fold_miss, fold_end}
use Rattle.plate.proofs.read.fold.Goals.{then-left-eq0-via-then-left-eq0, then-left-eq0-via-else-left-eq0+then-c-bits}
use Rattle.plate.proofs.read.fold.Goals as goal

pub returns-then-left-eq0 : goal.returns-then-left-eq0
returns-then-left-eq0 c =
    let s = c.args.plate.now in
    let x = c.args.c in
    let n = c.folding_count-left in
    let all = ap (λ (m : ℕ). fold_by (many (folding_at s) folding_end m 32) x) n.ensures.0 in
    elim c.then-left-eq0.branch [
      | then-left-eq0-via-then-left-eq0 t ↦ fold_end s x 32 n.result (omega (arith, t.if-left-eq0.true)) ∙ all
      | then-left-eq0-via-else-left-eq0+then-c-bits t ↦
          let rise = ap (λ (m : ℕ). rising (many (folding_at s) folding_end m 32)) n.ensures.0 ∙ keys_rise s c.requires in
          fold_below s x 32 n.result (omega (arith, t.if-left-eq0.false)) t.bits.result t.bits.ensures.0 rise t.if-c-bits.true ∙ all
    ]

pub loop-left-init : goal.loop-left-init
loop-left-init c =
    let s = c.args.plate.now in
    let n = c.folding_count-left in
    let few = foldings_few s c.requires in (
      omega (arith, c.if-left-eq0.false),
      omega (arith, n.ensures.0, few),
      ap (λ (m : ℕ). rising (many (folding_at s) folding_end m 32)) n.ensures.0 ∙ keys_rise s c.requires,
      ap (λ (m : ℕ). fold_by (many (folding_at s) folding_end m 32) c.args.c) n.ensures.0,
    )

pub loop-left-preserved-then-c-bits-2 : goal.loop-left-preserved-then-c-bits-2
loop-left-preserved-then-c-bits-2 c =
    let a = c.args in
    let l = c.loop-left in
    let more = c.loop-left-test.true in
    let less : l.left / 2 < l.left = omega (arith, more) in
    let first = fold_first a.plate.now a.c l.at l.left (l.left / 2) l.invariant.2 less c.bits-in-loop-left.result c.bits-in-loop-left.ensures.0 c.if-c-bits-2.true in
    (omega (arith, more), omega (arith, l.invariant.1), first.0, first.1 ∙ l.invariant.3)

pub loop-left-preserved : goal.loop-left-preserved
loop-left-preserved c =
    let a = c.args in
    let l = c.loop-left in
    let more = c.loop-left-test.true in
    let less : l.left / 2 < l.left = omega (arith, more) in
    let last = fold_last a.plate.now a.c l.at l.left (l.left / 2) l.invariant.2 less c.bits-in-loop-left.result c.bits-in-loop-left.ensures.0 c.if-c-bits-2.false in
    (omega (arith, more), omega (arith, l.invariant.1), last.0, last.1 ∙ l.invariant.3)

pub returns-then-bits-c : goal.returns-then-bits-c
returns-then-bits-c c =
    let a = c.args in
    let l = c.loop-left in
    fold_hit a.plate.now a.c l.at l.left l.invariant.0 c.bits-2.result c.bits-2.ensures.0 c.if-bits-c.true c.bits-then-bits-c.result c.bits-then-bits-c.ensures.0
    ∙ l.invariant.3

pub returns-else-bits-c : goal.returns-else-bits-c
returns-else-bits-c c =
    let a = c.args in
    let l = c.loop-left in
    let none : l.left - 1 ≤ 0 = omega (arith, c.loop-left-test.false) in
    fold_end a.plate.now a.c (l.at + 42) (l.left - 1) none
    ∙ fold_miss a.plate.now a.c l.at l.left l.invariant.0 c.bits-2.result c.bits-2.ensures.0 c.if-bits-c.false
    ∙ l.invariant.3
