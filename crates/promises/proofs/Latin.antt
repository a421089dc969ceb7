-- A name without Cyrillic gives what it gave: each of its characters may stand in it as before, and is lowered as before. Assumes nothing.
use Prim.Native.Nat.{ℕ}
use mathlib.Core.Path.{◌≡◌, refl, sym, ap, ap₂, ◌∙◌}
use mathlib.Core.Logic.{◌⊎◌, inl, inr}
use mathlib.Core.Bool.{Bool, true, false, cond, not, ◌||◌, false≢true}
use mathlib.Core.Option.{Option, none, some}
use mathlib.Core.List.{List, [], ◌∷◌, map}
use native.Mathlib.Omega.{arith}
use borrow.Author.Tests.{ltb-true}
use lib.Dec.{ltb}
use lib.ListN.{length}
use Rattle.laws.specs.Lists.{every, keep}
use Rattle.laws.proofs.Tests.{and_true, both_true, or_true, or_left, or_right, below_between}
use Rattle.chars.specs.Utf8.{is_text, chars_of, bad_place, fail_place}
use Rattle.chars.specs.Letters.{white, latin_end, latin, cyrillic_first, cyrillic_last, cyrillic, tabled, allowed}
use Rattle.chars.proofs.Lowering.{as_before}
use Rattle.plate.specs.Plate.{Plate}
use Rattle.plate.specs.Read.{fold_by, read_plate}
use Rattle.branches.specs.Branches.{Use}
use Rattle.coder.specs.Name.{inked, coded, prepared, Named, most_name, named}
use Rattle.coder.specs.Name.Named.{Refused, Chars}
use Rattle.coder.specs.Answer.{Coded, answered, plated, listed, encoded, list_answer, encode_answer}
use Rattle.promises.specs.Latin.{allowed_before, coded_before, prepared_before, named_before, plated_before, IsLatin, ListsLatin, EncodesLatin}

-- ---- one character

still_allowed : (c : ℕ) → allowed_before c ≡ true → allowed c ≡ true
still_allowed c e = go (or_true (white c) (latin c) e)
  where
    go : (white c ≡ true) ⊎ (latin c ≡ true) → allowed c ≡ true
    go (inl h) = or_left (white c) (tabled c) h
    go (inr h) = or_right (white c) (tabled c) (or_left (latin c) (cyrillic c) h)

coded_same : (p : Plate) (c : ℕ) → latin c ≡ true → coded p c ≡ coded_before p c
coded_same p c h =
    let low = ltb-true c latin_end h in
    ap (λ (x : ℕ). cond p.flag (fold_by p.foldings x) x) (as_before c (below_between cyrillic_first cyrillic_last c (omega arith)))

-- ---- all of them

all_allowed : (cs : List ℕ) → every allowed_before cs ≡ true → every allowed cs ≡ true
all_allowed [] e = refl
all_allowed (c ∷ cs) e =
    let b = and_true (allowed_before c) (every allowed_before cs) e in both_true (still_allowed c b.0) (all_allowed cs b.1)

chars_same : (p : Plate) (cs : List ℕ) → every allowed_before cs ≡ true → map (coded p) (keep inked cs) ≡ map (coded_before p) (keep inked cs)
chars_same p [] e = refl
chars_same p (c ∷ cs) e =
    let b = and_true (allowed_before c) (every allowed_before cs) e in go (white c) (latin c) refl b.0 (chars_same p cs b.1)
  where
    go : (w l : Bool) → latin c ≡ l → w || l ≡ true → map (coded p) (keep inked cs) ≡ map (coded_before p) (keep inked cs)
        → map (coded p) (cond (not w) (c ∷ keep inked cs) (keep inked cs)) ≡ map (coded_before p) (cond (not w) (c ∷ keep inked cs) (keep inked cs))
    go true l f h below = below
    go false true f h below = ap₂ ◌∷◌ (coded_same p c f) below
    go false false f h below = absurd (false≢true h)

-- ---- the name, and the calls

named_same : (p : Plate) (name : List ℕ) → IsLatin name → named p name ≡ named_before p name
named_same p name e =
    λ i. cond (ltb most_name (length name)) (Refused 1 0) (cond (is_text name) (fine i) (Refused 2 (bad_place name)))
  where
    fine : cond (every allowed (chars_of name)) (Chars (prepared p name)) (Refused 11 (fail_place allowed name))
        ≡ cond (every allowed_before (chars_of name)) (Chars (prepared_before p name)) (Refused 11 (fail_place allowed_before name))
    fine =
        ap (λ (t : Bool). cond t (Chars (prepared p name)) (Refused 11 (fail_place allowed name))) (all_allowed (chars_of name) e)
        ∙ ap Chars (chars_same p (chars_of name) e)
        ∙ sym (ap (λ (t : Bool). cond t (Chars (prepared_before p name)) (Refused 11 (fail_place allowed_before name))) e)

plated_same : (call : List Use → List ℕ → Coded) (o : Option Plate) (name lent : List ℕ) → IsLatin name → plated call o name lent ≡ plated_before call o name lent
plated_same call none name lent e = refl
plated_same call (some p) name lent e = ap (λ (n : Named). answered call p.rules n lent) (named_same p name e)

module _ (plate name lent : List ℕ) (a : Coded) where
  pub lists_latin : a ≡ list_answer plate name lent → ListsLatin plate name lent a
  unfolding list_answer
  lists_latin e l = e ∙ plated_same listed (read_plate plate) name lent l

  pub encodes_latin : a ≡ encode_answer plate name lent → EncodesLatin plate name lent a
  unfolding encode_answer
  encodes_latin e l = e ∙ plated_same encoded (read_plate plate) name lent l
