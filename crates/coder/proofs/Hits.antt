-- The search brings what 01's words bring: whatever fits stands in the group, and the first that fits is the longest. Assumes nothing.
use mathlib.Core.Path.{◌≡◌, refl, sym, ap, ◌∙◌}
use mathlib.Core.Bool.{Bool, true, false, cond, ◌||◌, false≢true}
use mathlib.Core.Option.{Option, none, some}
use mathlib.Core.List.{List, [], ◌∷◌}
use Prim.Native.Nat.{ℕ}
use borrow.Author.Tests.{eq-eqb}
use Rattle.laws.specs.Lists.{every, keep}
use Rattle.laws.proofs.Tests.{and_true}
use Rattle.plate.specs.Plate.{Rule, good_rule, ordered, first_code}
use Rattle.coder.specs.Walk.{letters, starts_with, group, match, longest, matched, passed}
use Rattle.coder.specs.Search.{Hit, hit_from, brings}
use Rattle.coder.specs.Search.Hit.{Taken, None}
use Rattle.coder.proofs.Longest.{first, fits, first_match, first_is, fits_code}

-- there is one
abbrev any : List Rule → Bool
any [] = false
any (r ∷ more) = true

-- Whatever fits at a character has a pattern that begins with it.
fits_starts : (r : Rule) (c : ℕ) (cs : List ℕ) → good_rule r ≡ true → fits (c ∷ cs) r ≡ true → starts_with c (letters r) ≡ true
fits_starts r c cs g b = let f = first_is r g in ap (starts_with c) f.1 ∙ eq-eqb (first_code r) c (fits_code r c cs g b)

-- So the group keeps all that fits.
group_fits : (rs : List Rule) (c : ℕ) (cs : List ℕ) → every good_rule rs ≡ true → keep (fits (c ∷ cs)) (group rs c) ≡ keep (fits (c ∷ cs)) rs
group_fits [] c cs g = refl
group_fits (r ∷ more) c cs g =
    let b = and_true (good_rule r) (every good_rule more) g in
    go (starts_with c (letters r)) (fits (c ∷ cs) r) refl refl (λ e. fits_starts r c cs b.0 e) (group_fits more c cs b.1)
  where
    go : (s f : Bool) → starts_with c (letters r) ≡ s → fits (c ∷ cs) r ≡ f → (fits (c ∷ cs) r ≡ true → starts_with c (letters r) ≡ true)
        → keep (fits (c ∷ cs)) (group more c) ≡ keep (fits (c ∷ cs)) more
        → keep (fits (c ∷ cs)) (cond s (r ∷ group more c) (group more c)) ≡ cond f (r ∷ keep (fits (c ∷ cs)) more) (keep (fits (c ∷ cs)) more)
    go true f es ef h below =
        ap (λ (t : Bool). cond t (r ∷ keep (fits (c ∷ cs)) (group more c)) (keep (fits (c ∷ cs)) (group more c))) ef
        ∙ ap (λ (l : List Rule). cond f (r ∷ l) l) below
    go false true es ef h below = absurd (false≢true (sym es ∙ h ef))
    go false false es ef h below = below

-- the answer, from the first that fits and whether there is a group
abbrev hit : Option Rule → Bool → Hit
hit (some r) known = Taken r
hit none known = None known

-- The search answers the first that fits and, where none does, whether there is a group.
hit_is : (known : Bool) (rs : List Rule) (c : ℕ) (cs : List ℕ) → hit_from known rs c cs ≡ hit (first (keep (fits (c ∷ cs)) rs)) (known || any (group rs c))
unfolding hit_from
hit_is known [] c cs = ap None (sym (or_false known))
  where
    or_false : (b : Bool) → b || false ≡ b
    or_false true = refl
    or_false false = refl
hit_is known (r ∷ more) c cs = go (fits (c ∷ cs) r) (starts_with c (letters r)) (λ k. hit_is k more c cs)
  where
    assoc : (a s : Bool) → (a || s) || any (group more c) ≡ a || any (cond s (r ∷ group more c) (group more c))
    assoc true s = refl
    assoc false true = refl
    assoc false false = refl

    go : (f s : Bool) → ((k : Bool) → hit_from k more c cs ≡ hit (first (keep (fits (c ∷ cs)) more)) (k || any (group more c)))
        → cond f (Taken r) (hit_from (known || s) more c cs)
        ≡ hit (first (cond f (r ∷ keep (fits (c ∷ cs)) more) (keep (fits (c ∷ cs)) more))) (known || any (cond s (r ∷ group more c) (group more c)))
    go true s below = refl
    go false s below = below (known || s) ∙ ap (hit (first (keep (fits (c ∷ cs)) more))) (assoc known s)

-- What a character brings is what the search brings.
pub search_brings : (rs : List Rule) → every good_rule rs ≡ true → ordered rs ≡ true → (before : Option ℕ) (c : ℕ) (cs : List ℕ)
    → passed before c cs (group rs c) ≡ brings before c cs (hit_from false rs c cs)
search_brings rs g o before c cs = go (group rs c) refl ∙ ap (brings before c cs) (sym (hit_is false rs c cs))
  where
    found : (l : List Rule) → group rs c ≡ l → match l (c ∷ cs) ≡ first (keep (fits (c ∷ cs)) rs)
    found l e = ap (λ (x : List Rule). longest (keep (fits (c ∷ cs)) x)) (sym e) ∙ ap longest (group_fits rs c cs g) ∙ first_match rs c cs g o

    in_group : (x : Option Rule) → matched before c cs x ≡ brings before c cs (hit x true)
    in_group none = refl
    in_group (some r) = refl

    no_group : (x : Option Rule) → none ≡ x → record { uses = []; before = before; skip = 0 } ≡ brings before c cs (hit x false)
    no_group x e = ap (λ (y : Option Rule). brings before c cs (hit y false)) e

    go : (l : List Rule) → group rs c ≡ l → passed before c cs l ≡ brings before c cs (hit (first (keep (fits (c ∷ cs)) rs)) (any (group rs c)))
    go [] e =
        no_group (first (keep (fits (c ∷ cs)) rs)) (found [] e)
        ∙ ap (λ (x : List Rule). brings before c cs (hit (first (keep (fits (c ∷ cs)) rs)) (any x))) (sym e)
    go (r ∷ more) e =
        ap (matched before c cs) (found (r ∷ more) e)
        ∙ in_group (first (keep (fits (c ∷ cs)) rs))
        ∙ ap (λ (x : List Rule). brings before c cs (hit (first (keep (fits (c ∷ cs)) rs)) (any x))) (sym e)
