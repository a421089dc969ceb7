-- What a call of list gives, in the words of demand 3. Assumes nothing.
use Rattle.std.specs.Prelude.{ℕ, ◌≡◌, List}
use Rattle.std.proofs.Math.Option.{some}
use Rattle.plate.specs.Plate.{Plate}
use Rattle.plate.specs.Read.{read_plate}
use Rattle.branches.specs.Branches.{Use, codes}
use Rattle.coder.specs.Name.{prepared}
use Rattle.coder.specs.Walk.{uses}
use Rattle.coder.specs.Answer.{listing, list_answer}

-- the uses of a plate's rules along a name
abbrev pub uses_in : Plate → List ℕ → List Use
uses_in p name = uses p.rules (prepared p name)

-- List gives codes: the bytes are the plate p, the answer is 0, and these codes, in this order, stand in the buffer, the bytes behind them as lent.
pub record Given (plate name lent : List ℕ) (p : Plate) (cs : List (List ℕ)) : Type 0 where
  pub read : read_plate plate ≡ some p
  pub all : cs ≡ codes (uses_in p name)
  pub written : list_answer plate name lent ≡ listing cs lent
