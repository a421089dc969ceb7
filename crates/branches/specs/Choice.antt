-- Choices: one alternative at each use, and the code that they yield. What is listed is said in these words: proofs/Choice.antt. Assumes nothing.
use Rattle.std.specs.Prelude.{ℕ, ◌<◌, ◌≤◌, ◌≡◌, List, [], ◌∷◌, ◌++◌, length, take}
use Rattle.laws.specs.Lists.{In}
use Rattle.branches.specs.Branches.{Branch, Use, extend, code}

-- one alternative of each use, in order
abbrev pub Chosen : List Use → List (List ℕ) → Type 0
Chosen [] [] = Unit {0}
Chosen [] (a ∷ more) = ⊥
Chosen (u ∷ us) [] = ⊥
Chosen (u ∷ us) (a ∷ more) = In a u.alternatives × Chosen us more

-- the one branch that follows a choice: at each use it is extended by the alternative chosen
abbrev pub follow : List Use → List (List ℕ) → Branch → Branch
follow [] choice b = b
follow (u ∷ us) [] b = b
follow (u ∷ us) (a ∷ more) b = follow us more (extend u.anyway a b)

-- the code that a choice yields
abbrev pub yielded : List Use → List (List ℕ) → List ℕ
yielded us choice = code (follow us choice (record { digits = []; last = [] }))

-- each use has an alternative
abbrev pub Filled : List Use → Type 0
Filled [] = Unit {0}
Filled (u ∷ us) = (0 < length u.alternatives) × Filled us

-- the choice of the first alternative at each use
abbrev pub first : List (List ℕ) → List ℕ
first [] = []
first (a ∷ more) = a

abbrev pub firsts : List Use → List (List ℕ)
firsts [] = []
firsts (u ∷ us) = first u.alternatives ∷ firsts us

-- "Encode takes the first alternative only."
abbrev pub first_only : Use → Use
first_only u = record { alternatives = take 1 u.alternatives; anyway = u.anyway }

-- each use has at most one alternative
abbrev pub Single : List Use → Type 0
Single [] = Unit {0}
Single (u ∷ us) = (length u.alternatives ≤ 1) × Single us

-- each use of the second has the alternatives of the first, and perhaps more behind them
abbrev pub Wider : List Use → List Use → Type 0
Wider [] [] = Unit {0}
Wider [] (v ∷ vs) = ⊥
Wider (u ∷ us) [] = ⊥
Wider (u ∷ us) (v ∷ vs) = ((more : List (List ℕ)) × (v.alternatives ≡ u.alternatives ++ more)) × (v.anyway ≡ u.anyway) × Wider us vs

-- the list starts with it
abbrev pub Starts : {A : Type 0} → A → List A → Type 0
Starts {A} x l = (rest : List A) × (l ≡ x ∷ rest)
