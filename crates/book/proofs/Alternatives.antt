-- The alternatives of a field, as the library's `split` gives them: they are the definition's, one more than there are separators. Assumes nothing.
use Prim.Native.Nat.{ℕ}
use denote.Param.Members.{Mut}
use denote.Bor.{Bor}
use mathlib.Core.Path.{◌≡◌, refl, ap, subst}
use mathlib.Core.Bool.{Bool, true, false, cond}
use mathlib.Core.List.{List, [], ◌∷◌}
use lib.Dec.{eqb}
use Rattle.std.specs.Fn.{CalledAt}
use Rattle.std.specs.List.{slice_split, onto_first}
use Rattle.std.specs.Slice.Iter as slice
use Rattle.std.proofs.lemmas.Iterator.{YieldsList}
use Rattle.std.proofs.lemmas.Iterator.Splits.{YieldsList-from_slice_split}
use Rattle.laws.specs.Lists.{onto, split_at}

pub split_parts : (sep : ℕ) (l : List ℕ) → slice_split (λ b. eqb b sep) l ≡ split_at sep l
unfolding split_at
split_parts sep [] = refl
split_parts sep (x ∷ xs) = go (eqb x sep) (split_parts sep xs)
  where
    go : (t : Bool) → slice_split (λ b. eqb b sep) xs ≡ split_at sep xs
        → cond t ([] ∷ slice_split (λ b. eqb b sep) xs) (onto_first x (slice_split (λ b. eqb b sep) xs)) ≡ cond t ([] ∷ split_at sep xs) (onto x (split_at sep xs))
    go true e = ap (λ (l : List (List ℕ)). [] ∷ l) e
    go false e = ap (onto_first x) e

-- What `split` gives at a test of this byte.
pub gives_parts : {F : Type 0} {s : _} (g : Mut F (Bor ℕ × Unit {0}) Bool) (sep : ℕ) {f : F} (l : List ℕ) → slice.split_rest s ≡ l → slice.split_done s ≡ false → slice.split_callee s ≡ f
    → ((x : ℕ) (b : Bool) (q : F) → CalledAt g f x b q → (q ≡ f) × (b ≡ eqb x sep)) → YieldsList (slice.split_steps g) (λ x. x.now) s (split_at sep l)
gives_parts {s = s} g sep l r d c t =
    subst (YieldsList (slice.split_steps g) (λ x. x.now) s) (split_parts sep l) (YieldsList-from_slice_split g (λ b. eqb b sep) l r d c t)
