-- `branches::Branches::truncate` meets its contract: the last is left out until n are left, and those are the first n. Assumes nothing.
use Rattle.std.proofs.Common.{◌≡◌, ◌≤◌, take}
use Rattle.branches.specs.Held.{BranchesOk}
use Rattle.branches.proofs.Branches.truncate.Given as goal

abbrev pub invariant-loop-self : goal.invariant-loop-self
invariant-loop-self l =
    let s = l.self-inside in
    BranchesOk s.items s.count × (l.n ≤ s.count) × (take l.n s.items ≡ take l.n l.fn.self)

abbrev pub decreases-loop-self : goal.decreases-loop-self
decreases-loop-self l = l.self-inside.count
