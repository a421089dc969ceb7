-- Further alternatives behind those of a rule, on rules. For demand 3: "Further alternatives behind a rule's keep every earlier code and the
-- first." Assumes nothing.
use Rattle.std.specs.Prelude.{ℕ, ◌≡◌, List, [], ◌∷◌, ◌++◌}
use Rattle.plate.specs.Plate.{Rule}

-- the second has the alternatives of the first, and perhaps more behind them
abbrev pub Further : List (List ℕ) → List (List ℕ) → Type 0
Further old new = (more : List (List ℕ)) × (new ≡ old ++ more)

pub record WiderRule (r q : Rule) : Type 0 where
  pub same : q.pattern ≡ r.pattern
  pub start : Further r.start q.start
  pub vowel : Further r.vowel q.vowel
  pub other : Further r.other q.other

abbrev pub WiderRules : List Rule → List Rule → Type 0
WiderRules [] [] = Unit {0}
WiderRules [] (q ∷ qs) = ⊥
WiderRules (r ∷ rs) [] = ⊥
WiderRules (r ∷ rs) (q ∷ qs) = WiderRule r q × WiderRules rs qs
