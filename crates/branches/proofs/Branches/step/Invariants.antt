-- `branches::Branches::step` meets its contract. The loops over the branches and the alternatives keep: what the step still makes from here on, merged behind
-- what it has made, is what it makes from the start. A turn is Steps.dropped or Steps.kept, the way out over room Steps.too_many. Assumes nothing.
use Rattle.std.proofs.Common.{◌≡◌, ◌+◌, ◌≤◌, length, take, drop}
use Rattle.laws.specs.Once.{merge}
use Rattle.branches.specs.Branches.{met, same_branch, step}
use Rattle.branches.specs.Held.{use_of}
use Rattle.branches.proofs.Steps.{still}
use Rattle.branches.proofs.Branches.step.Given as goal

abbrev pub invariant-loop-b : goal.invariant-loop-b
invariant-loop-b l =
    let u = use_of l.field l.anyway in
    (l.n ≤ length l.made) × (l.n ≤ l.room) × (merge same_branch (take l.n l.made) (met u (drop l.b-index l.b-items)) ≡ step u l.fn.self)

abbrev pub invariant-loop-alternative : goal.invariant-loop-alternative
invariant-loop-alternative l =
    let u = use_of l.field l.anyway in
    (l.n ≤ length l.made) × (l.n ≤ l.room) × (still u (take l.n l.made) l.b (drop l.alternative-index l.alternative-items) (drop (l.b-index + 1) l.b-items) ≡ step u l.fn.self)
