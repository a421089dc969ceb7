-- Room: what fits in a room fits in more; over, or the branches behind all uses, as one answer for a loop; one alternative at each use always fits.
-- Assumes nothing.
use Prim.Native.Nat.{ℕ, ◌≤◌, ◌<◌}
use mathlib.Core.Path.{◌≡◌, refl}
use mathlib.Core.Bool.{true, false}
use Rattle.std.specs.Prelude.{None, Some}
use mathlib.Core.List.{List, [], ◌∷◌}
use native.Mathlib.Omega.{arith}
use borrow.Author.Tests.{lt-ltb, le-ltb, ltb-false}
use lib.Dec.{ltb}
use lib.ListN.{length}
use Rattle.laws.proofs.Tests.{neither}
use Rattle.branches.specs.Branches.{Branch, Use, met, step, run, over, start}
use Rattle.branches.specs.Choice.{Single}
use Rattle.branches.specs.Room.{outcome}

-- ---- room

-- What fits in a room fits in more.
pub more_room : (room more : ℕ) (us : List Use) (bs : List Branch) → room ≤ more → over room us bs ≡ false → over more us bs ≡ false
unfolding over
more_room room more [] bs h e = let l = ltb-false room (length bs) e in le-ltb more (length bs) (omega arith)
more_room room more (u ∷ us) bs h e =
    let t = neither (ltb room (length bs)) (over room us (step u bs)) e in
    let l = ltb-false room (length bs) t.0 in
    rw (le-ltb more (length bs) (omega arith)) (more_room room more us (step u bs) h t.1)

-- Where nothing is over, the branches at the end fit.
pub run_fits : (room : ℕ) (us : List Use) (bs : List Branch) → over room us bs ≡ false → length (run us bs) ≤ room
unfolding over run
run_fits room [] bs e = ltb-false room (length bs) e
run_fits room (u ∷ us) bs e = run_fits room us (step u bs) (neither (ltb room (length bs)) (over room us (step u bs)) e).1

-- Room for none holds no name.
pub no_room : (us : List Use) → over 0 us start ≡ true
unfolding over
no_room [] = refl
no_room (u ∷ us) = refl

-- ---- one answer for a loop

-- Over at the start.
pub outcome_over : (room : ℕ) (us : List Use) (bs : List Branch) → room < length bs → outcome room us bs ≡ None
unfolding outcome over
outcome_over room [] bs h = rw (lt-ltb room (length bs) h)
outcome_over room (u ∷ us) bs h = rw (lt-ltb room (length bs) h)

-- A step that begins within room.
pub outcome_next : (room : ℕ) (u : Use) (us : List Use) (bs : List Branch) → length bs ≤ room → outcome room (u ∷ us) bs ≡ outcome room us (step u bs)
unfolding outcome over run
outcome_next room u us bs h = rw (le-ltb room (length bs) h)

-- No use is left.
pub outcome_end : (room : ℕ) (bs : List Branch) → length bs ≤ room → outcome room [] bs ≡ Some bs
unfolding outcome over run
outcome_end room bs h = rw (le-ltb room (length bs) h)

-- ---- one alternative at each use

-- At most one branch and one alternative make at most one.
single_step : (u : Use) (bs : List Branch) → length u.alternatives ≤ 1 → length bs ≤ 1 → length (step u bs) ≤ 1
unfolding step met
single_step u [] h i = omega arith
single_step u (b ∷ c ∷ bs) h i = absurd (omega arith)
single_step u (b ∷ []) h i = go u.alternatives h
  where
    go : (l : List (List ℕ)) → length l ≤ 1 → length (step (record { alternatives = l; anyway = u.anyway }) (b ∷ [])) ≤ 1
    go [] j = omega arith
    go (a ∷ []) j = omega arith
    go (a ∷ c ∷ l) j = absurd (omega arith)

-- So any room holds them all the way.
pub single_fits : (room : ℕ) (us : List Use) (bs : List Branch) → 1 ≤ room → Single us → length bs ≤ 1 → over room us bs ≡ false
unfolding over
single_fits room [] bs h s i = le-ltb room (length bs) (omega arith)
single_fits room (u ∷ us) bs h s i = rw (le-ltb room (length bs) (omega arith)) (single_fits room us (step u bs) h s.1 (single_step u bs s.0 i))
