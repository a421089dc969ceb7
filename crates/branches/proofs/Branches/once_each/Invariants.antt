-- `branches::Branches::once_each` meets its contract. The loop keeps: the codes left, merged behind those kept, are all of them once. A turn is
-- Codes.code_dropped or Codes.code_kept. Assumes nothing.
use Rattle.std.proofs.Common.{◌≡◌, ◌≤◌, map, length, take, drop}
use Rattle.laws.specs.Lists.{same}
use Rattle.laws.specs.Once.{merge, once}
use Rattle.branches.specs.Branches.{code}
use Rattle.branches.proofs.Branches.once_each.Given as goal

abbrev pub invariant-loop-b : goal.invariant-loop-b
invariant-loop-b l =
    (l.n ≤ length l.kept) × (l.n ≤ l.b-index) × (merge same (map code (take l.n l.kept)) (map code (drop l.b-index l.b-items)) ≡ once same (map code l.fn.self))
