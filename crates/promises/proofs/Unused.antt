-- M-107 about whole calls, from the crate order: a plate answers as without its unused rules, and without them it is a plate. Assumes nothing.
use Prim.Native.Nat.{ℕ}
use mathlib.Core.Path.{◌≡◌, sym, ap, ◌∙◌}
use mathlib.Core.List.{List}
use Rattle.plate.specs.Written.{plate_bytes}
use Rattle.coder.specs.Answer.{Coded, list_answer, encode_answer}
use Rattle.order.specs.Once.{once_plate}
use Rattle.order.specs.Claims.{SameAnswers}
use Rattle.order.proofs.Ordered.{once_good}
use Rattle.order.proofs.Calls.{once_answers}
use Rattle.promises.specs.Unused.{Without, UnusedAlike, LeftIsPlate}
use Rattle.promises.proofs.CodedWhen.{plate_read}

pub left_is_plate : LeftIsPlate
left_is_plate plate less w = (once_good w.0 w.1.0, w.2)

alike : (plate less : List ℕ) (w : Without plate less) → SameAnswers plate (plate_bytes (once_plate w.0))
alike plate less w = once_answers plate w.0 (plate_read plate w.0 w.1)

module _ (plate less name lent lent' : List ℕ) (a b : Coded) where
  pub lists_unused : a ≡ list_answer plate name lent → b ≡ list_answer less name lent' → UnusedAlike plate less lent lent' a b
  lists_unused u v w e =
      u ∙ (alike plate less w name lent).1 ∙ ap (λ (s : List ℕ). list_answer s name lent) (sym w.2) ∙ ap (list_answer less name) e ∙ sym v

  pub encodes_unused : a ≡ encode_answer plate name lent → b ≡ encode_answer less name lent' → UnusedAlike plate less lent lent' a b
  encodes_unused u v w e =
      u ∙ (alike plate less w name lent).0 ∙ ap (λ (s : List ℕ). encode_answer s name lent) (sym w.2) ∙ ap (encode_answer less name) e ∙ sym v
