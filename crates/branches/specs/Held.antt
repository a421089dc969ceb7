-- How branches are held, and what a step is made with. Assumes nothing.
use Rattle.std.specs.Prelude.{ℕ, ◌-◌, ◌≤◌, ◌≡◌, Bool, List, [], ◌++◌, length, take, drop, replicate}
use Rattle.plate.specs.Field.{again}
use Rattle.branches.specs.Branches.{Branch, Use}

-- "up to 64 are held side by side"
abbrev pub most_branches : ℕ
most_branches = 64

-- no digits, no last replacement
abbrev pub empty : Branch
empty = record { digits = []; last = [] }

-- 64 branches, of which the first n count and the others are empty, so that branches are held in one way only
pub record BranchesOk (l : List Branch) (n : ℕ) : Type 0 where
  pub small : n ≤ most_branches
  pub long : length l ≡ most_branches
  pub clear : drop n l ≡ replicate (most_branches - n) empty

-- all 64, empty ones behind those that are held
abbrev pub filled : List Branch → List Branch
filled bs = bs ++ replicate (most_branches - length bs) empty

-- What is held says the branches and the count again.
pub branches_again : (l : List Branch) (n : ℕ) → BranchesOk l n → (filled (take n l) ≡ l) × (length (take n l) ≡ n)
branches_again l n ok = again most_branches empty l n ok.small ok.long ok.clear

abbrev pub use_of : List (List ℕ) → Bool → Use
use_of alternatives anyway = record { alternatives = alternatives; anyway = anyway }
