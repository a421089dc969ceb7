-- M-113, of rules: "in another order, those of one pattern [..] keeping theirs". Assumes nothing.
use Rattle.std.specs.Prelude.{ℕ, ◌≡◌, List}
use Rattle.laws.specs.Lists.{keep}
use Rattle.plate.specs.Plate.{Rule, of_pattern}

-- The rules of each pattern are the same in the same order.
abbrev pub SameRules : List Rule → List Rule → Type 0
SameRules rs qs = (p : List ℕ) → keep (of_pattern p) rs ≡ keep (of_pattern p) qs
