-- What comes of uses in a room, as one answer. Assumes nothing.
use Rattle.std.specs.Prelude.{ℕ, cond, List, Option, None, Some}
use Rattle.branches.specs.Branches.{Branch, Use, run, over}

-- the branches behind all uses; none where "the branch list, at the start or after some step, is longer than room"
unfoldable pub outcome : ℕ → List Use → List Branch → Option (List Branch)
outcome room us bs = cond (over room us bs) None (Some (run us bs))
