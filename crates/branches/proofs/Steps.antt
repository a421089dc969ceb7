-- What the loops of `step` go by: what the step still makes from here on. Assumes nothing.
use Rattle.std.proofs.Common.{ℕ, suc, ◌+◌, ◌-◌, ◌≤◌, ◌<◌, ◌≡◌, Bool, true, false, cond, ◌&&◌, ◌||◌, eqb, leb, List, [], ◌∷◌, ◌++◌, map, length, take, drop, replicate, get_or, set, sym, refl, ap, ap₂, subst, ◌∙◌, arith, length-append, add-one, drop_of_length-le}
use lib.Seq.{drop-cons, take_at}
use borrow.Author.Tests.{eq-eqb, eqb-true}
use Rattle.std.specs.List.{list_any}
use Rattle.std.specs.Cmp.Lexicographic.{pointwise}
use Rattle.std.proofs.lemmas.Bool.{lt-leb}
use Rattle.std.proofs.lemmas.Slice.Eq.{bytes_eq-Decides}
use Rattle.branches.specs.contracts.BranchPartialEq.TheImpl.{ghosts}
use Rattle.laws.specs.Lists.{same}
use Rattle.laws.proofs.Tests.{and_true, both_true}
use Rattle.laws.proofs.Same.{same_equal, equal_same}
use Rattle.plate.specs.Plate.{most_digits}
use Rattle.plate.specs.Field.{padded}
use Rattle.branches.proofs.Extending.{alike}
use Rattle.branches.proofs.Merging.{one_stays}
use Rattle.branches.specs.Branches.{Branch, Use, extend, met, same_branch, step}
use Rattle.laws.specs.Once.{among, merge}
use Rattle.laws.proofs.Once.{merge_grows}

-- what a step still makes: merged behind the branches so far, this branch with the alternatives that are left, then the branches that are left
abbrev pub still : Use → List Branch → Branch → List (List ℕ) → List Branch → List Branch
still u so b left more = merge same_branch so (map (λ a. extend u.anyway a b) left ++ met u more)

-- ---- the derived equality of two branches is the definition's

same_digits : (a b : List ℕ) → pointwise eqb (padded a) (padded b) && eqb (length a) (length b) ≡ same b a
same_digits a b = alike (pointwise eqb (padded a) (padded b) && eqb (length a) (length b)) (same b a) there back
  where
    there : pointwise eqb (padded a) (padded b) && eqb (length a) (length b) ≡ true → same b a ≡ true
    there t =
        let e = and_true (pointwise eqb (padded a) (padded b)) (eqb (length a) (length b)) t in
        let whole = (bytes_eq-Decides (padded a) (padded b)).0 e.0 in
        let n = eqb-true (length a) (length b) e.1 in
        let is : a ≡ b =
        sym (take_at a (replicate (most_digits - length a) 48) (length a) refl) ∙ ap (take (length a)) whole
        ∙ ap (λ (k : ℕ). take k (padded b)) n ∙ take_at b (replicate (most_digits - length b) 48) (length b) refl in
        subst (λ (l : List ℕ). same b l ≡ true) (sym is) (equal_same b)

    back : same b a ≡ true → pointwise eqb (padded a) (padded b) && eqb (length a) (length b) ≡ true
    back t =
        let is = same_equal b a t in
        both_true ((bytes_eq-Decides (padded a) (padded b)).1 (ap padded (sym is))) (eq-eqb (length a) (length b) (ap length (sym is)))

pub same_here : (x y : Branch) → ghosts.eq y x ≡ same_branch x y
same_here x y = ap₂ ◌&&◌ (same_digits y.digits x.digits) (same_digits y.last x.last)

among_is : (b : Branch) (l : List Branch) → list_any (λ y. ghosts.eq y b) l ≡ among same_branch b l
among_is b [] = refl
among_is b (x ∷ l) = ap₂ ◌||◌ (same_here b x) (among_is b l)

-- What the library's `contains` tells of a branch is whether it is among them.
pub among_told : (b : Branch) (so items : List Branch) (r : Bool) → items ≡ so → r ≡ list_any (λ y. ghosts.eq y b) items → among same_branch b so ≡ r
among_told b so items r e f = sym (ap (among same_branch b) e) ∙ sym (among_is b items) ∙ sym f

-- ---- what is still made, from the start to the end

-- From the start: all of it.
pub begins : (u : Use) (bs items : List Branch) → items ≡ bs → merge same_branch [] (met u items) ≡ step u bs
unfolding step
begins u bs items e = ap (λ (l : List Branch). merge same_branch [] (met u l)) e

module _ (u : Use) (so wanted items : List Branch) (i : ℕ) where
  -- A branch is taken up: its extensions by all alternatives come first.
  pub opens : (b : Branch) → b ≡ get_or items i b → i < length items → merge same_branch so (met u (drop i items)) ≡ wanted
      → (all : List (List ℕ)) → all ≡ u.alternatives → still u so b all (drop (i + 1) items) ≡ wanted
  unfolding met
  opens b is h e all f =
      ap (λ (l : List (List ℕ)). still u so b l (drop (i + 1) items)) f
      ∙ ap (λ (l : List Branch). merge same_branch so (met u l)) (sym (here b is))
      ∙ e
    where
      here : (b : Branch) → b ≡ get_or items i b → drop i items ≡ b ∷ drop (i + 1) items
      here b is = rw add-one (drop-cons items i b h ∙ ap (λ (x : Branch). x ∷ drop (suc i) items) (sym is))

  -- No branch is left: what was made is the step.
  pub done : length items ≤ i → merge same_branch so (met u (drop i items)) ≡ wanted → so ≡ wanted
  unfolding met
  done h e = ap (λ (bs : List Branch). merge same_branch so (met u bs)) (sym (drop_of_length-le items h)) ∙ e

module _ (u : Use) (so wanted : List Branch) (b : Branch) (all : List (List ℕ)) (j : ℕ) (more : List Branch) (e : still u so b (drop j all) more ≡ wanted) where
  -- No alternative is left: the next branch.
  pub closes : length all ≤ j → merge same_branch so (met u more) ≡ wanted
  closes h = ap (λ (l : List (List ℕ)). still u so b l more) (sym (drop_of_length-le all h)) ∙ e

  -- The extension by the alternative at j is dropped if it is among those made, else kept behind them; one more than room is over.
  module _ (a : List ℕ) (is : a ≡ get_or all j a) (h : j < length all) (new : Branch) (made : new ≡ extend u.anyway a b) where
    turn : still u (cond (among same_branch new so) so (so ++ (new ∷ []))) b (drop (j + 1) all) more ≡ wanted
    turn =
        let here : drop j all ≡ a ∷ drop (j + 1) all = rw add-one (drop-cons all j a h ∙ ap (λ (x : List ℕ). x ∷ drop (suc j) all) (sym is)) in
        rw made (ap (λ (l : List (List ℕ)). still u so b l more) (sym here) ∙ e)

    pub dropped : among same_branch new so ≡ true → still u so b (drop (j + 1) all) more ≡ wanted
    dropped t = rw t at turn

    pub kept : among same_branch new so ≡ false → (to : List Branch) → to ≡ so ++ (new ∷ []) → still u to b (drop (j + 1) all) more ≡ wanted
    kept t to f = rw f (rw t at turn)

    pub too_many : (room : ℕ) → among same_branch new so ≡ false → room ≤ length so → false ≡ leb (length wanted) room
    too_many room t r =
        let longer : length so < length wanted =
        rw (sym (kept t (so ++ (new ∷ [])) refl))
        (omega (
          arith,
          length-append so (new ∷ []),
          merge_grows same_branch (so ++ (new ∷ [])) (map (λ a. extend u.anyway a b) (drop (j + 1) all) ++ met u more),
        )) in
        sym (lt-leb (length wanted) room (omega arith))

-- ---- one branch that meets one alternative

pub only : {A : Type 0} (l : List A) (x : A) → length l ≡ 1 → x ≡ get_or l 0 x → l ≡ x ∷ []
only [] x h e = absurd (omega arith)
only (y ∷ []) x h e = ap (λ (z : _). z ∷ []) (sym e)
only (y ∷ z ∷ l) x h e = absurd (omega arith)

pub front : {A : Type 0} (l : List A) (x : A) → 0 < length l → x ≡ get_or l 0 x → take 1 l ≡ x ∷ []
front [] x h e = absurd (omega arith)
front (y ∷ l) x h e = ap (λ (z : _). z ∷ []) (sym e)

pub stored : {A : Type 0} (l : List A) (x : A) → 0 < length l → take 1 (set l 0 x) ≡ x ∷ []
stored [] x h = absurd (omega arith)
stored (y ∷ l) x h = refl

-- It is extended where it stands: that is the step.
pub extended : (u : Use) (bs : List Branch) (b : Branch) (a : List ℕ) → bs ≡ b ∷ [] → u.alternatives ≡ a ∷ [] → extend u.anyway a b ∷ [] ≡ step u bs
extended u bs b a e f = sym (one_stays u b a f) ∙ ap (step u) (sym e)
