-- What is listed is what the choices yield: exactly their codes, that of the first alternatives first; and wider uses lose none. Demand 3, about the
-- definitions of specs/Branches.antt in the words of specs/Choice.antt. Assumes nothing.
use Prim.Native.Nat.{ℕ, ◌<◌}
use mathlib.Core.Path.{◌≡◌, refl, sym, ap, ap₂, subst, ◌∙◌}
use mathlib.Core.Logic.{inl, inr}
use mathlib.Core.Bool.{Bool}
use mathlib.Core.List.{List, [], ◌∷◌, ◌++◌, map}
use native.Mathlib.Omega.{arith}
use lib.ListN.{length}
use Rattle.laws.specs.Lists.{In, same}
use Rattle.laws.specs.Once.{once}
use Rattle.laws.proofs.Once.{Distinct, once_has, once_from, once_first, once_distinct}
use Rattle.laws.proofs.Same.{same_equal, equal_same}
use Rattle.laws.proofs.Members.{in_left, in_map, map_in}
use Rattle.branches.specs.Branches.{Branch, Use, extend, step, run, start, code, codes}
use Rattle.branches.specs.Choice.{Chosen, follow, yielded, Filled, first, firsts, first_only, Wider, Starts}
use Rattle.branches.proofs.Merging.{step_has, step_from, step_first, one_stays}

abbrev empty : Branch
empty = record { digits = []; last = [] }

-- ---- a code is listed exactly if some choice yields it

run_has : (us : List Use) (bs : List Branch) (b : Branch) (choice : List (List ℕ)) → In b bs → Chosen us choice → In (follow us choice b) (run us bs)
unfolding run
run_has [] bs b [] h c = h
run_has [] bs b (a ∷ more) h c = absurd c
run_has (u ∷ us) bs b [] h c = absurd c
run_has (u ∷ us) bs b (a ∷ more) h c = run_has us (step u bs) (extend u.anyway a b) more (step_has u bs b a h c.0) c.1

-- a branch of some, and a choice that leads from it to another
record Leads (us : List Use) (bs : List Branch) (x : Branch) : Type 0 where
  branch : Branch
  among : In branch bs
  choice : List (List ℕ)
  chosen : Chosen us choice
  is : x ≡ follow us choice branch

run_from : (us : List Use) (bs : List Branch) (x : Branch) → In x (run us bs) → Leads us bs x
unfolding run
run_from [] bs x h = record { branch = x; among = h; choice = []; chosen = tt; is = refl }
run_from (u ∷ us) bs x h =
    let r = run_from us (step u bs) x h in
    let s = step_from u bs r.branch r.among in
    record {
      branch = s.0;
      among = s.1;
      choice = s.2.0 ∷ r.choice;
      chosen = (s.2.1, r.chosen);
      is = r.is ∙ ap (follow us r.choice) s.2.2;
    }

pub chosen_listed : (us : List Use) (choice : List (List ℕ)) → Chosen us choice → In (yielded us choice) (codes us)
chosen_listed us choice c =
    once_has same same_equal (yielded us choice) (map code (run us start)) (in_map code (follow us choice empty) (run us start) (run_has us start empty choice (inl refl) c))

pub listed_chosen : (us : List Use) (k : List ℕ) → In k (codes us) → (choice : List (List ℕ)) × Chosen us choice × (k ≡ yielded us choice)
listed_chosen us k h =
    let m = map_in code k (run us start) (once_from same k (map code (run us start)) h) in
    let r = run_from us start m.0 m.1 in
    (r.choice, r.chosen, m.2 ∙ ap code (r.is ∙ ap (follow us r.choice) (one r.branch r.among)))
  where
    one : (b : Branch) → In b start → b ≡ empty
    one b (inl e) = e
    one b (inr i) = absurd i

-- No code is listed twice.
pub listed_once : (us : List Use) → Distinct (codes us)
listed_once us = once_distinct same equal_same (map code (run us start))

-- ---- the first code is that of the first alternatives

pub run_first : (us : List Use) (b : Branch) (bs : List Branch) → Filled us → Starts (follow us (firsts us) b) (run us (b ∷ bs))
unfolding run
run_first [] b bs h = (bs, refl)
run_first (u ∷ us) b bs h =
    let s = step_first u b bs h.0 in
    subst (λ (l : List Branch). Starts (follow us (firsts us) (extend u.anyway (first u.alternatives) b)) (run us l)) (sym s.1)
    (run_first us (extend u.anyway (first u.alternatives) b) s.0 h.1)

pub first_listed : (us : List Use) → Filled us → Starts (yielded us (firsts us)) (codes us)
first_listed us h =
    let r = run_first us empty [] h in
    subst (λ (l : List Branch). Starts (yielded us (firsts us)) (once same (map code l))) (sym r.1) (once_first same (yielded us (firsts us)) (map code r.0))

-- The first alternatives alone give that one branch.
pub run_firsts : (us : List Use) (b : Branch) → Filled us → run (map first_only us) (b ∷ []) ≡ follow us (firsts us) b ∷ []
unfolding run
run_firsts [] b h = refl
run_firsts (u ∷ us) b h = go u.alternatives h.0 (λ d. run_firsts us d h.1)
  where
    go : (l : List (List ℕ)) → 0 < length l → ((d : Branch) → run (map first_only us) (d ∷ []) ≡ follow us (firsts us) d ∷ [])
        → run (map first_only us) (step (first_only (record { alternatives = l; anyway = u.anyway })) (b ∷ [])) ≡ follow us (firsts us) (extend u.anyway (first l) b) ∷ []
    go [] i below = absurd (omega arith)
    go (a ∷ more) i below =
        ap (run (map first_only us)) (one_stays (first_only (record { alternatives = a ∷ more; anyway = u.anyway })) b a refl) ∙ below (extend u.anyway a b)

pub firsts_alone : (us : List Use) → Filled us → codes (map first_only us) ≡ yielded us (firsts us) ∷ []
firsts_alone us h = ap (λ (l : List Branch). once same (map code l)) (run_firsts us empty h)

-- ---- wider uses: every code is still listed, and the first is the same

wider_chosen : (us vs : List Use) (choice : List (List ℕ)) → Wider us vs → Chosen us choice → Chosen vs choice
wider_chosen [] [] choice w c = c
wider_chosen [] (v ∷ vs) choice w c = absurd w
wider_chosen (u ∷ us) [] choice w c = absurd w
wider_chosen (u ∷ us) (v ∷ vs) [] w c = absurd c
wider_chosen (u ∷ us) (v ∷ vs) (a ∷ more) w c =
    (subst (λ (l : List (List ℕ)). In a l) (sym w.0.1) (in_left a u.alternatives w.0.0 c.0), wider_chosen us vs more w.2 c.1)

wider_follow : (us vs : List Use) (choice : List (List ℕ)) (b : Branch) → Wider us vs → follow vs choice b ≡ follow us choice b
wider_follow [] [] choice b w = refl
wider_follow [] (v ∷ vs) choice b w = absurd w
wider_follow (u ∷ us) [] choice b w = absurd w
wider_follow (u ∷ us) (v ∷ vs) [] b w = refl
wider_follow (u ∷ us) (v ∷ vs) (a ∷ more) b w =
    wider_follow us vs more (extend v.anyway a b) w.2 ∙ ap (λ (t : Bool). follow us more (extend t a b)) w.1

wider_filled : (us vs : List Use) → Wider us vs → Filled us → Filled vs
wider_filled [] [] w f = tt
wider_filled [] (v ∷ vs) w f = absurd w
wider_filled (u ∷ us) [] w f = absurd w
wider_filled (u ∷ us) (v ∷ vs) w f = (subst (λ (l : List (List ℕ)). 0 < length l) (sym w.0.1) (go u.alternatives f.0), wider_filled us vs w.2 f.1)
  where
    go : (l : List (List ℕ)) → 0 < length l → 0 < length (l ++ w.0.0)
    go [] h = absurd (omega arith)
    go (a ∷ l) h = omega arith

wider_firsts : (us vs : List Use) → Filled us → Wider us vs → firsts vs ≡ firsts us
wider_firsts [] [] f w = refl
wider_firsts [] (v ∷ vs) f w = absurd w
wider_firsts (u ∷ us) [] f w = absurd w
wider_firsts (u ∷ us) (v ∷ vs) f w = ap₂ ◌∷◌ (ap first w.0.1 ∙ go u.alternatives f.0) (wider_firsts us vs f.1 w.2)
  where
    go : (l : List (List ℕ)) → 0 < length l → first (l ++ w.0.0) ≡ first l
    go [] h = absurd (omega arith)
    go (a ∷ l) h = refl

pub wider_listed : (us vs : List Use) → Wider us vs → (k : List ℕ) → In k (codes us) → In k (codes vs)
wider_listed us vs w k h =
    let l = listed_chosen us k h in
    subst (λ (z : List ℕ). In z (codes vs)) (ap code (wider_follow us vs l.0 empty w) ∙ sym l.2)
    (chosen_listed vs l.0 (wider_chosen us vs l.0 w l.1))

pub wider_first : (us vs : List Use) → Wider us vs → Filled us → Starts (yielded us (firsts us)) (codes vs)
wider_first us vs w f =
    subst (λ (k : List ℕ). Starts k (codes vs))
    (ap code (ap (λ (choice : List (List ℕ)). follow vs choice empty) (wider_firsts us vs f w) ∙ wider_follow us vs (firsts us) empty w))
    (first_listed vs (wider_filled us vs w f))
