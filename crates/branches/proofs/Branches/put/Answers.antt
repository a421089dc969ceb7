-- `branches::Branches::put` meets its contract: those behind are empty as before. Assumes nothing.
use Rattle.std.proofs.Common.{ℕ, ◌+◌, ◌<◌, ◌≤◌, List, [], ◌∷◌, ◌++◌, length, take, set, sym, ap, subst, ◌∙◌, arith}
use Rattle.std.proofs.lemmas.List.{drop-set-lt, take_more_set}
use Rattle.std.proofs.Math.Nat.{le-max_left, le-max_right, max-le}
use lib.Seq.{length-take-le, take-take}
use lib.ListN.{length-set}
use Rattle.laws.proofs.Arrays.{blank_further}
use Rattle.branches.specs.Branches.{Branch}
use Rattle.branches.specs.Held.{most_branches, empty}
use Rattle.branches.proofs.Branches.put.Goals as goal

module _ (c : goal.After-self-1) where
  held : c.args.n ≤ c.self.inside.count
  held =
      let ok = c.self.invariant in
      omega (arith, c.requires.0, ap length c.self.view_is, length-take-le c.self.inside.count c.self.inside.items (omega (arith, ok.small, ok.long)))

  up : c.args.n < c.max-self-inside.result
  up = omega (arith, le-max_right c.self.inside.count (c.args.n + 1), c.max-self-inside.ensures)

  down : c.self.inside.count ≤ c.max-self-inside.result
  down = omega (arith, le-max_left c.self.inside.count (c.args.n + 1), c.max-self-inside.ensures)

  few : c.max-self-inside.result ≤ most_branches
  few =
      let ok = c.self.invariant in
      subst (λ (m : ℕ). m ≤ most_branches) (sym c.max-self-inside.ensures) (max-le ok.small (omega (arith, c.requires.1)))

pub invariant_of-self : goal.invariant_of-self
invariant_of-self c =
    let s = c.self.inside in
    let ok = c.self.invariant in
    let m = c.max-self-inside.result in
    record {
      small = few c;
      long = length-set s.items c.args.n c.args.b ∙ ok.long;
      clear = drop-set-lt m s.items c.args.n c.args.b (up c) ∙ blank_further s.items most_branches s.count m empty (down c) ok.clear;
    }

pub returns-clause-front : goal.returns-clause-front
returns-clause-front c =
    let s = c.self.inside in
    let ok = c.self.invariant in
    let n = c.args.n in
    take-take (n + 1) c.max-self-inside.result (set s.items n c.args.b) (omega (arith, up c))
    ∙ take_more_set s.items n c.args.b (omega (arith, ok.long, c.requires.1))
    ∙ ap (λ (l : List Branch). l ++ (c.args.b ∷ [])) (sym (take-take n s.count s.items (held c)) ∙ ap (take n) c.self.view_is)

pub returns-clause-long : goal.returns-clause-long
returns-clause-long c =
    let s = c.self.inside in
    let ok = c.self.invariant in
    let l = length-set s.items c.args.n c.args.b in
    omega (arith, up c, length-take-le c.max-self-inside.result (set s.items c.args.n c.args.b) (omega (arith, l, ok.long, few c)))
