-- Plates of before there was edition 2. 02, M-106: "Old plates stay valid with the same codes." Assumes nothing.
use Rattle.std.specs.Prelude.{ℕ, ◌≡◌, List}
use Rattle.std.proofs.Math.Option.{some}
use Rattle.plate.specs.Plate.{Plate}
use Rattle.plate.specs.Read.{read_before}
use Rattle.coder.specs.Answer.{Coded, coded_by, listed, encoded}

-- What list and encode leave for such a plate is what they left: the codes of the plate that its bytes said before.
abbrev pub ListsAsBefore : List ℕ → List ℕ → List ℕ → Coded → Type 0
ListsAsBefore plate name lent a = (p : Plate) → read_before plate ≡ some p → a ≡ coded_by listed p name lent

abbrev pub EncodesAsBefore : List ℕ → List ℕ → List ℕ → Coded → Type 0
EncodesAsBefore plate name lent a = (p : Plate) → read_before plate ≡ some p → a ≡ coded_by encoded p name lent
