-- A plate of before reads as before (plate's reads_before), so list and encode answer by what it said. Assumes nothing.
use Prim.Native.Nat.{ℕ}
use mathlib.Core.Path.{◌≡◌, ◌∙◌, ap}
use mathlib.Core.Option.{Option}
use mathlib.Core.List.{List}
use Rattle.plate.specs.Plate.{Plate}
use Rattle.plate.proofs.Round.{reads_before}
use Rattle.coder.specs.Answer.{Coded, plated, listed, encoded, list_answer, encode_answer}
use Rattle.promises.specs.Before.{ListsAsBefore, EncodesAsBefore}

module _ (plate name lent : List ℕ) (a : Coded) where
  pub lists_before : a ≡ list_answer plate name lent → ListsAsBefore plate name lent a
  unfolding list_answer
  lists_before e p h = e ∙ ap (λ (o : Option Plate). plated listed o name lent) (reads_before plate p h)

  pub encodes_before : a ≡ encode_answer plate name lent → EncodesAsBefore plate name lent a
  unfolding encode_answer
  encodes_before e p h = e ∙ ap (λ (o : Option Plate). plated encoded o name lent) (reads_before plate p h)
