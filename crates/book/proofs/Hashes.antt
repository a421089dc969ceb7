-- Hashes of patterns and their marks: a hash is small, and what is marked stays marked. Assumes nothing.
use Prim.Native.Nat.{ℕ, ◌+◌, ◌*◌, ◌%◌, ◌<◌, ◌≤◌}
use mathlib.Core.Path.{◌≡◌, refl, sym, ◌∙◌, ap, subst}
use mathlib.Core.Logic.{◌⊎◌, inl, inr}
use mathlib.Core.Bool.{Bool, true, false, cond, ◌||◌}
use mathlib.Core.List.{List, [], ◌∷◌}
use native.Mathlib.Omega.{arith}
use native.Mathlib.Numerals.{add-one}
use borrow.Author.Tests.{eq-eqb, eqb-true, eqb-false}
use lib.Dec.{eqb}
use lib.ListN.{length, drop, get_or, length-set, drop_of_length-le}
use lib.Seq.{drop-cons, get_or-set_same, get_or-set_other}
use Rattle.laws.proofs.Tests.{or_true, or_left, or_right}
use Rattle.book.specs.Seen.{hashes, spread, hash_from, hash_of, slots, several, slot_of, mark_of, may_hold, marked}
use Rattle.book.specs.Note.{hash_in, AllMarked}

small_from : (h : ℕ) (p : List ℕ) → h < hashes → hash_from h p < hashes
unfolding hash_from
small_from h [] g = g
small_from h (b ∷ p) g = small_from ((h + b) * spread % hashes) p (omega arith)

pub hash_small : (p : List ℕ) → hash_of p < hashes
hash_small p = small_from 0 p (omega arith)

-- ---- as the loop over a pattern's bytes goes

pub hash_turn : (p : List ℕ) (k h : ℕ) → k < length p → hash_from ((h + get_or p k 0) * spread % hashes) (drop (k + 1) p) ≡ hash_from h (drop k p)
unfolding hash_from
hash_turn p k h g = ap (λ (n : ℕ). hash_from ((h + get_or p k 0) * spread % hashes) (drop n p)) (add-one k) ∙ sym (ap (hash_from h) (drop-cons p k 0 g))

pub hash_end : (p : List ℕ) (k h : ℕ) → length p ≤ k → hash_from h (drop k p) ≡ h
unfolding hash_from
hash_end p k h g = ap (hash_from h) (drop_of_length-le p g)

-- ---- what was met stays met, and the new one is

module _ (seen : List ℕ) (h : ℕ) (long : length seen ≡ slots) where
  abbrev x : ℕ
  x = get_or seen (slot_of h) 0

  abbrev new : ℕ
  new = cond (eqb x 0) (mark_of h) several

  inside : slot_of h < length seen
  inside = omega arith

  abbrev Met : ℕ → ℕ → Type 0
  Met y g = eqb y (mark_of g) || eqb y several ≡ true

  pub met_new : may_hold (marked seen h) h ≡ true
  met_new = subst (λ (y : ℕ). Met y h) (sym (get_or-set_same seen (slot_of h) new 0 inside)) (go (eqb x 0))
    where
      go : (t : Bool) → Met (cond t (mark_of h) several) h
      go true = or_left (eqb (mark_of h) (mark_of h)) (eqb (mark_of h) several) (eq-eqb (mark_of h) (mark_of h) refl)
      go false = or_right (eqb several (mark_of h)) (eqb several several) refl

  -- in the same slot
  same_slot : (g : ℕ) → Met x g → Met new g
  same_slot g m = go (eqb x 0) refl
    where
      filled : x ≡ 0 → ⊥
      filled e = from (or_true (eqb x (mark_of g)) (eqb x several) m)
        where
          from : (eqb x (mark_of g) ≡ true) ⊎ (eqb x several ≡ true) → ⊥
          from (inl t) = let f = eqb-true x (mark_of g) t in omega arith
          from (inr t) = let f = eqb-true x several t in omega arith

      go : (t : Bool) → eqb x 0 ≡ t → Met (cond t (mark_of h) several) g
      go true e = absurd (filled (eqb-true x 0 e))
      go false e = or_right (eqb several (mark_of g)) (eqb several several) refl

  met_still : (g : ℕ) → may_hold seen g ≡ true → may_hold (marked seen h) g ≡ true
  met_still g m = go (eqb (slot_of g) (slot_of h)) refl
    where
      go : (t : Bool) → eqb (slot_of g) (slot_of h) ≡ t → may_hold (marked seen h) g ≡ true
      go true e =
          let s = eqb-true (slot_of g) (slot_of h) e in
          subst (λ (y : ℕ). Met y g) (sym (ap (λ (i : ℕ). get_or (marked seen h) i 0) s ∙ get_or-set_same seen (slot_of h) new 0 inside)) (same_slot g (subst (λ (i : ℕ). Met (get_or seen i 0) g) s m))
      go false e = subst (λ (y : ℕ). Met y g) (sym (get_or-set_other seen (slot_of h) (slot_of g) new 0 (eqb-false (slot_of g) (slot_of h) e))) m

  pub still_long : length (marked seen h) ≡ slots
  still_long = length-set seen (slot_of h) new ∙ long

  pub all_still : (l : List ℕ) → AllMarked seen l → AllMarked (marked seen h) l
  all_still [] a = tt
  all_still (k ∷ l) a = (met_still (hash_in k) a.0, all_still l a.1)
