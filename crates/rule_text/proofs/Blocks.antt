-- A block comment: its end, each way out of the form, and its bounds. Assumes nothing.
use mathlib.Core.Path.{◌≡◌, refl, sym, ap, ap₂, ◌∙◌}
use mathlib.Core.Bool.{Bool, true, false, cond, ◌&&◌}
use mathlib.Core.List.{List, [], ◌∷◌}
use Prim.Native.Nat.{ℕ, suc, ◌+◌, ◌<◌, ◌≤◌}
use native.Mathlib.Omega.{arith}
use native.Mathlib.Numerals.{add-one}
use native.Mathlib.Nat.{zero-add, add-zero, add_assoc}
use lib.Dec.{eqb}
use lib.ListN.{length, get_or, drop, drop_of_length-le}
use lib.Seq.{drop-cons, get_or-drop}
use Rattle.std.specs.Prelude.{Option, Some, None}
use Rattle.std.specs.List.{starts_with}
use Rattle.std.proofs.lemmas.Bool.Decides.{nat_tests}
use Rattle.laws.proofs.Lists.{rest}
use Rattle.laws.proofs.Parts.{lent, lent_length}
use Rattle.rule_text.specs.Forms.{star, slash, pair_at, later, closing}
use Rattle.rule_text.specs.Answers.{From, Comments}

-- ---- the end, from a place on

later_zero : (r : Option ℕ) → r ≡ later 0 r
unfolding later
later_zero (Some k) = ap Some (sym (zero-add k))
later_zero None = refl

later_one : (i : ℕ) (r : Option ℕ) → later i (later 1 r) ≡ later (i + 1) r
unfolding later
later_one i (Some k) = ap Some (sym (add_assoc i 1 k))
later_one i None = refl

module _ (l : List ℕ) where
  pub closing_start : closing l ≡ later 0 (closing l)
  closing_start = later_zero (closing l)

  module _ (i : ℕ) where
    pub closing_end : length l ≤ i → later i (closing (drop i l)) ≡ None
    unfolding closing later
    closing_end h = rw (drop_of_length-le l h)

    module _ (h : i < length l) where
      next : get_or (drop (suc i) l) 0 0 ≡ get_or l (i + 1) 0
      next = get_or-drop (suc i) l 0 0 ∙ ap (λ (k : ℕ). get_or l k 0) {x = suc i + 0} {y = i + 1} (omega arith)

      at : closing (drop i l) ≡ cond (pair_at l i star slash) (Some 0) (later 1 (closing (drop (i + 1) l)))
      unfolding closing pair_at
      at = rw (drop-cons l i 0, next, add-one)

      pub closing_step : pair_at l i star slash ≡ false → later i (closing (drop i l)) ≡ later (i + 1) (closing (drop (i + 1) l))
      closing_step e = ap (later i) (at ∙ ap (λ (t : Bool). cond t (Some 0) (later 1 (closing (drop (i + 1) l)))) e) ∙ later_one i (closing (drop (i + 1) l))

      pub closing_hit : pair_at l i star slash ≡ true → later i (closing (drop i l)) ≡ Some i
      unfolding later
      closing_hit e = ap (later i) (at ∙ ap (λ (t : Bool). cond t (Some 0) (later 1 (closing (drop (i + 1) l)))) e) ∙ ap Some (add-zero i)

    -- What `starts_with` answers of the bytes from a place on.
    pub starts : starts_with eqb (lent i l) (star ∷ slash ∷ []) ≡ pair_at l i star slash
    unfolding pair_at
    starts = ap (λ (s : List ℕ). starts_with eqb s (star ∷ slash ∷ [])) (rest i l) ∙ two (drop i l) ∙ ap₂ (λ (x y : ℕ). eqb x star && eqb y slash) (there 0 ∙ ap (λ (k : ℕ). get_or l k 0) (add-zero i)) (there 1)
      where
        there : (k : ℕ) → get_or (drop i l) k 0 ≡ get_or l (i + k) 0
        there k = get_or-drop i l k 0

        two : (s : List ℕ) → starts_with eqb s (star ∷ slash ∷ []) ≡ eqb (get_or s 0 0) star && eqb (get_or s 1 0) slash
        two [] = refl
        two (x ∷ []) = grind (arith, nat_tests)
        two (x ∷ y ∷ s) = grind (arith, nat_tests)

  -- Two bytes open a comment and two close it.
  pub closes : (n : ℕ) → 2 ≤ length l → n + 2 ≤ length (lent 2 l) → n + 4 ≤ length l
  closes n h e = let i = lent_length 2 l in omega arith

pub comments : (n k : ℕ) (r : Option ℕ) → From (n + 4) k r → Comments k r
comments n k (Some next) b = let m = b.0 in (omega arith, b.1)
comments n k None b = tt
