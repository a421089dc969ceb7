-- A list split at a byte: its first part and what stands behind it, its parts counted, and the parts from a place on. Assumes nothing.
use mathlib.Core.Path.{◌≡◌, refl, ap}
use mathlib.Core.Bool.{Bool, true, false, cond}
use mathlib.Core.List.{List, [], ◌∷◌}
use Prim.Native.Nat.{ℕ, zero, suc, ◌<◌, ◌≤◌}
use native.Mathlib.Omega.{arith}
use lib.Dec.{eqb}
use lib.ListN.{length, take, drop}
use Rattle.laws.specs.Lists.{until, count_of, onto, split_at}

module _ (b : ℕ) where
  -- What stands behind the first part: nothing where no b is left, or the parts behind it.
  abbrev pub behind : ℕ → List ℕ → List (List ℕ)
  behind zero l = []
  behind (suc n) l = split_at b l

  -- The first part ends at the first b.
  pub split : (l : List ℕ) → split_at b l ≡ take (until b l) l ∷ behind (count_of b l) (drop (suc (until b l)) l)
  unfolding until count_of split_at
  split [] = refl
  split (x ∷ xs) = go (eqb x b) (split xs)
    where
      go : (t : Bool) → split_at b xs ≡ take (until b xs) xs ∷ behind (count_of b xs) (drop (suc (until b xs)) xs)
          → cond t ([] ∷ split_at b xs) (onto x (split_at b xs))
          ≡ take (cond t 0 (suc (until b xs))) (x ∷ xs) ∷ behind (cond t (suc (count_of b xs)) (count_of b xs)) (drop (suc (cond t 0 (suc (until b xs)))) (x ∷ xs))
      go true e = refl
      go false e = ap (onto x) e

  -- One part more than there are b's.
  pub parts : (l : List ℕ) → length (split_at b l) ≡ suc (count_of b l)
  unfolding count_of split_at
  parts [] = refl
  parts (x ∷ xs) = go (eqb x b) (parts xs)
    where
      longer : (ps : List (List ℕ)) → length ps ≡ suc (count_of b xs) → length (onto x ps) ≡ suc (count_of b xs)
      longer [] e = absurd (omega arith)
      longer (p ∷ ps) e = e

      go : (t : Bool) → length (split_at b xs) ≡ suc (count_of b xs)
          → length (cond t ([] ∷ split_at b xs) (onto x (split_at b xs))) ≡ suc (cond t (suc (count_of b xs)) (count_of b xs))
      go true e = ap suc e
      go false e = longer (split_at b xs) e

  pub one_part : (l : List ℕ) → 1 ≤ length (split_at b l)
  one_part l = omega (arith, parts l)

  -- Where a b is left it stands within.
  pub until_within : (l : List ℕ) → 0 < count_of b l → until b l < length l
  unfolding until count_of
  until_within [] h = absurd (omega arith)
  until_within (x ∷ xs) h = go (eqb x b) h (until_within xs)
    where
      go : (t : Bool) → 0 < cond t (suc (count_of b xs)) (count_of b xs) → (0 < count_of b xs → until b xs < length xs) → cond t 0 (suc (until b xs)) < suc (length xs)
      go true h below = omega arith
      go false h below = let n = below h in omega arith
