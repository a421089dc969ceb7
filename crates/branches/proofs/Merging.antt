-- What a step lists: each extension of each branch, and nothing else; the first one first. Dropping one equal to an earlier one loses none. Assumes nothing.
use Prim.Native.Nat.{ℕ, ◌<◌}
use mathlib.Core.Path.{◌≡◌, refl, sym, subst}
use mathlib.Core.Logic.{◌⊎◌, inl, inr}
use mathlib.Core.Bool.{true}
use mathlib.Core.List.{List, [], ◌∷◌, ◌++◌, map}
use native.Mathlib.Omega.{arith}
use lib.ListN.{length}
use Rattle.laws.specs.Lists.{same, In}
use Rattle.laws.proofs.Members.{in_left, in_right, in_either, in_map, map_in}
use Rattle.laws.specs.Once.{once}
use Rattle.laws.proofs.Once.{once_has, once_from, once_first}
use Rattle.laws.proofs.Same.{same_equal}
use Rattle.laws.proofs.Tests.{and_true}
use Rattle.branches.specs.Branches.{Branch, Use, extend, met, same_branch, step}
use Rattle.branches.specs.Choice.{first, Starts}

-- ---- equal branches

pub same_branch_equal : (b c : Branch) → same_branch b c ≡ true → b ≡ c
same_branch_equal b c e =
    let t = and_true (same b.digits c.digits) (same b.last c.last) e in
    let d = same_equal b.digits c.digits t.0 in
    let l = same_equal b.last c.last t.1 in
    λ i. record { digits = d i; last = l i }

-- ---- the extensions of the branches by the alternatives

abbrev Extension : Use → Branch → Branch → Type 0
Extension u b x = (a : List ℕ) × In a u.alternatives × (x ≡ extend u.anyway a b)

met_has : (u : Use) (bs : List Branch) (b : Branch) (a : List ℕ) → In b bs → In a u.alternatives → In (extend u.anyway a b) (met u bs)
unfolding met
met_has u [] b a h i = absurd h
met_has u (c ∷ cs) b a (inl e) i =
    subst (λ (z : Branch). In (extend u.anyway a z) (met u (c ∷ cs))) (sym e)
    (in_left (extend u.anyway a c) (map (λ a. extend u.anyway a c) u.alternatives) (met u cs) (in_map (λ (a : List ℕ). extend u.anyway a c) a u.alternatives i))
met_has u (c ∷ cs) b a (inr h) i =
    in_right (extend u.anyway a b) (map (λ a. extend u.anyway a c) u.alternatives) (met u cs) (met_has u cs b a h i)

met_from : (u : Use) (bs : List Branch) (x : Branch) → In x (met u bs) → (b : Branch) × In b bs × Extension u b x
unfolding met
met_from u [] x h = absurd h
met_from u (c ∷ cs) x h = go (in_either x (map (λ a. extend u.anyway a c) u.alternatives) (met u cs) h) (met_from u cs x)
  where
    go : In x (map (λ a. extend u.anyway a c) u.alternatives) ⊎ In x (met u cs) → (In x (met u cs) → (b : Branch) × In b cs × Extension u b x)
        → (b : Branch) × In b (c ∷ cs) × Extension u b x
    go (inl i) below = (c, inl refl, map_in (λ (a : List ℕ). extend u.anyway a c) x u.alternatives i)
    go (inr i) below = let r = below i in (r.0, inr r.1, r.2)

-- ---- one step

-- Each branch extended by each alternative stands in the step.
pub step_has : (u : Use) (bs : List Branch) (b : Branch) (a : List ℕ) → In b bs → In a u.alternatives → In (extend u.anyway a b) (step u bs)
unfolding step
step_has u bs b a h i = once_has same_branch same_branch_equal (extend u.anyway a b) (met u bs) (met_has u bs b a h i)

-- Nothing else does.
pub step_from : (u : Use) (bs : List Branch) (x : Branch) → In x (step u bs) → (b : Branch) × In b bs × Extension u b x
unfolding step
step_from u bs x h = met_from u bs x (once_from same_branch x (met u bs) h)

-- The first branch extended by the first alternative is the first.
pub step_first : (u : Use) (b : Branch) (bs : List Branch) → 0 < length u.alternatives → Starts (extend u.anyway (first u.alternatives) b) (step u (b ∷ bs))
unfolding step met
step_first u b bs h = go u.alternatives h
  where
    go : (l : List (List ℕ)) → 0 < length l → Starts (extend u.anyway (first l) b) (once same_branch (map (λ a. extend u.anyway a b) l ++ met u bs))
    go [] i = absurd (omega arith)
    go (a ∷ more) i = once_first same_branch (extend u.anyway a b) (map (λ a. extend u.anyway a b) more ++ met u bs)

-- One alternative keeps one branch one.
pub one_stays : (u : Use) (b : Branch) (a : List ℕ) → u.alternatives ≡ a ∷ [] → step u (b ∷ []) ≡ extend u.anyway a b ∷ []
unfolding step met
one_stays u b a e = rw e
