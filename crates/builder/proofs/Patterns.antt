-- Whether a pattern is one of those noted: key by key, from one place on. Assumes nothing.
use Prim.Native.Nat.{ℕ, ◌+◌, ◌<◌}
use mathlib.Core.Path.{◌≡◌, sym, ◌∙◌, ap}
use mathlib.Core.Bool.{Bool, false, ◌||◌}
use mathlib.Core.List.{List, ◌∷◌}
use native.Mathlib.Numerals.{add-one}
use lib.ListN.{length, drop, get_or}
use lib.Seq.{drop-cons}
use Rattle.laws.specs.Lists.{some}
use Rattle.plate.specs.Plate.{of_pattern}
use Rattle.book.specs.Note.{place_in, rules_in}
use Rattle.builder.specs.Survey.{view}

module _ (text keys P : List ℕ) (i : ℕ) (h : i < length keys) where
  -- one of those from a place on has it
  abbrev among : ℕ → Bool
  among i = some (of_pattern P) (rules_in (view text) (drop i keys))

  -- One that has it not is passed.
  pub pass : of_pattern P (view text (place_in (get_or keys i 0))) ≡ false → some (of_pattern P) (rules_in (view text) (drop (i + 1) keys)) ≡ some (of_pattern P) (rules_in (view text) (drop i keys))
  pass e =
      let K : ℕ = get_or keys i 0 in
      let here : drop i keys ≡ K ∷ drop (i + 1) keys = drop-cons keys i 0 h ∙ ap (λ (m : ℕ). K ∷ drop m keys) (sym (add-one i)) in
      sym (ap (λ (l : List ℕ). some (of_pattern P) (rules_in (view text) l)) here ∙ ap (λ (b : Bool). b || among (i + 1)) e)
