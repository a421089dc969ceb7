-- `plate::held::alternatives_at` meets its contract: the alternatives stored are the first k; each turn stores one more (Filled.alternatives_store). Assumes nothing.
use Rattle.std.proofs.Common.{◌≡◌, ℕ, ◌+◌, ◌-◌, ◌*◌, ◌≤◌, List, [], length, take, drop, replicate}
use Rattle.plate.specs.Plate.{most_alternatives}
use Rattle.plate.specs.Read.{many, past, alternative_at, alternative_end}
use Rattle.plate.proofs.held.alternatives_at.Given as goal

-- What the loop keeps: the place behind the first k alternatives, and these.
pub record Kept (plate : List ℕ) (from k place : ℕ) (alternatives : List (List ℕ)) : Type 0 where
  pub long : length alternatives ≡ most_alternatives
  pub clear : drop k alternatives ≡ replicate (most_alternatives - k) []
  pub near : place ≤ from + 4 + 31 * k
  pub behind : place ≡ past (alternative_end plate) k (from + 4)
  pub held : take k alternatives ≡ many (alternative_at plate) (alternative_end plate) k (from + 4)

abbrev pub invariant-loop-k : goal.invariant-loop-k
invariant-loop-k l = Kept l.plate l.from l.k l.place l.alternatives
