-- `branches::Branches::truncate` meets its contract: the last is left out until n are left, and those are the first n. Assumes nothing.
use Rattle.std.proofs.Common.{ℕ, suc, ◌+◌, ◌-◌, ◌<◌, ◌≤◌, List, ◌∷◌, length, take, drop, replicate, sym, ap, ◌∙◌, arith}
use Rattle.std.proofs.lemmas.List.{drop-set, take-set-le}
use lib.Seq.{length-take-le, take-take}
use lib.ListN.{length-set}
use Rattle.branches.specs.Branches.{Branch}
use Rattle.branches.specs.Held.{most_branches, empty}
use Rattle.branches.proofs.Branches.truncate.Goals as goal

pub loop-self-init : goal.loop-self-init
loop-self-init c =
    let s = c.self.inside in
    let ok = c.self.invariant in
    let held : c.args.n ≤ s.count = omega (arith, c.requires, ap length c.self.view_is, length-take-le s.count s.items (omega (arith, ok.small, ok.long))) in
    (ok, held, sym (take-take c.args.n s.count s.items held) ∙ ap (take c.args.n) c.self.view_is)

pub loop-self-preserved : goal.loop-self-preserved
loop-self-preserved c =
    let s = c.loop-self.self-inside in
    let i = c.loop-self.invariant in
    let k = s.count - 1 in
    let more = c.loop-self-test.true in
    let within : k < length s.items = omega (arith, more, i.0.small, i.0.long) in (
      record {
        small = omega (arith, i.0.small);
        long = length-set s.items k empty ∙ i.0.long;
        clear =
            drop-set s.items k empty within
            ∙ ap (λ (l : List Branch). empty ∷ l) (ap (λ (m : ℕ). drop m s.items) {x = k + 1} {y = s.count} (omega (arith, more)) ∙ i.0.clear)
            ∙ ap (λ (m : ℕ). replicate m empty) {x = suc (most_branches - s.count)} {y = most_branches - k} (omega (arith, more, i.0.small));
      },
      omega (arith, more),
      take-set-le c.args.n s.items k empty (omega (arith, more)) ∙ i.2,
    )

pub returns : goal.returns
returns c =
    let s = c.loop-self.self-inside in
    let i = c.loop-self.invariant in
    ap (λ (k : ℕ). take k s.items) {x = s.count} {y = c.args.n} (omega (arith, c.loop-self-test.false, i.1)) ∙ i.2
