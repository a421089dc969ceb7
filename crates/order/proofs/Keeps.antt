-- Facts on `keep`, for all lists: of two lists, of none, of what passes; and kept by a test or each once, in either order. Assumes nothing.
use mathlib.Core.Path.{◌≡◌, refl, sym, ap, ◌∙◌}
use mathlib.Core.Bool.{Bool, true, false, cond, ◌||◌, false≢true}
use mathlib.Core.List.{List, [], ◌∷◌, ◌++◌, append-nil}
use Rattle.laws.specs.Lists.{every, keep}
use Rattle.laws.specs.Once.{among, merge, once}
use Rattle.laws.proofs.Tests.{both_true}

module _ {A : Type 0} (t : A → Bool) where
  pub keep_append : (xs ys : List A) → keep t (xs ++ ys) ≡ keep t xs ++ keep t ys
  keep_append [] ys = refl
  keep_append (x ∷ xs) ys = go (t x) (keep_append xs ys)
    where
      go : (b : Bool) → keep t (xs ++ ys) ≡ keep t xs ++ keep t ys → cond b (x ∷ keep t (xs ++ ys)) (keep t (xs ++ ys)) ≡ cond b (x ∷ keep t xs) (keep t xs) ++ keep t ys
      go true below = ap (λ (l : List A). x ∷ l) below
      go false below = below

  -- Each of those kept passes.
  pub all_kept : (l : List A) → every t (keep t l) ≡ true
  all_kept [] = refl
  all_kept (x ∷ l) = go (t x) refl (all_kept l)
    where
      go : (b : Bool) → t x ≡ b → every t (keep t l) ≡ true → every t (cond b (x ∷ keep t l) (keep t l)) ≡ true
      go true e below = both_true e below
      go false e below = below

  -- ---- where equals pass alike

  module _ (equal : A → A → Bool) (alike : (x y : A) → equal x y ≡ true → t x ≡ t y) where
    -- What equals one that passes is kept.
    among_keep : (x : A) (l : List A) → t x ≡ true → among equal x (keep t l) ≡ among equal x l
    among_keep x [] e = refl
    among_keep x (y ∷ l) e = go (t y) (equal x y) refl refl (among_keep x l e)
      where
        go : (b c : Bool) → t y ≡ b → equal x y ≡ c → among equal x (keep t l) ≡ among equal x l → among equal x (cond b (y ∷ keep t l) (keep t l)) ≡ c || among equal x l
        go true c f g below = ap (λ (d : Bool). equal x y || d) below ∙ ap (λ (d : Bool). d || among equal x l) g
        go false true f g below = absurd (false≢true (sym f ∙ sym (alike x y g) ∙ e))
        go false false f g below = below

    keep_merge : (kept more : List A) → keep t (merge equal kept more) ≡ merge equal (keep t kept) (keep t more)
    keep_merge kept [] = refl
    keep_merge kept (x ∷ more) = go (t x) (among equal x kept) refl refl (λ k. keep_merge k more)
      where
        -- the one list of those kept, with x where it is new and passes
        next : (b c : Bool) → t x ≡ b → keep t (cond c kept (kept ++ (x ∷ []))) ≡ cond b (cond c (keep t kept) (keep t kept ++ (x ∷ []))) (keep t kept)
        next true true e = refl
        next true false e = keep_append kept (x ∷ []) ∙ ap (λ (d : Bool). keep t kept ++ cond d (x ∷ []) []) e
        next false true e = refl
        next false false e = keep_append kept (x ∷ []) ∙ ap (λ (d : Bool). keep t kept ++ cond d (x ∷ []) []) e ∙ append-nil (keep t kept)

        go : (b c : Bool) → t x ≡ b → among equal x kept ≡ c → ((k : List A) → keep t (merge equal k more) ≡ merge equal (keep t k) (keep t more))
            → keep t (merge equal (cond c kept (kept ++ (x ∷ []))) more) ≡ merge equal (keep t kept) (cond b (x ∷ keep t more) (keep t more))
        go true c e f below =
            below (cond c kept (kept ++ (x ∷ [])))
            ∙ ap (λ (k : List A). merge equal k (keep t more)) (next true c e)
            ∙ ap (λ (d : Bool). merge equal (cond d (keep t kept) (keep t kept ++ (x ∷ []))) (keep t more)) (sym f ∙ sym (among_keep x kept e))
        go false c e f below = below (cond c kept (kept ++ (x ∷ []))) ∙ ap (λ (k : List A). merge equal k (keep t more)) (next false c e)

    -- Those that pass, each once, are those of each once that pass.
    pub keep_once : (xs : List A) → keep t (once equal xs) ≡ once equal (keep t xs)
    keep_once xs = keep_merge [] xs
