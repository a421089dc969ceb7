-- Leaving doubles out of any list: what stays true when one that equals an earlier one is left out stays true of `once`. Assumes nothing.
use mathlib.Core.Path.{◌≡◌, refl, sym, subst}
use mathlib.Core.Bool.{Bool, true, false, cond}
use mathlib.Core.List.{List, [], ◌∷◌, ◌++◌, append_assoc, append-nil}
use Rattle.laws.specs.Once.{among, merge, once}

module _ {A : Type 0} (equal : A → A → Bool) (P : List A → Type 0) (leave : (xs : List A) (x : A) (ys : List A) → among equal x xs ≡ true → P (xs ++ (x ∷ ys)) → P (xs ++ ys)) where
  merge_leaves : (kept more : List A) → P (kept ++ more) → P (merge equal kept more)
  merge_leaves kept [] h = subst P (append-nil kept) h
  merge_leaves kept (x ∷ more) h = go (among equal x kept) refl (λ k. merge_leaves k more)
    where
      go : (t : Bool) → among equal x kept ≡ t → ((k : List A) → P (k ++ more) → P (merge equal k more)) → P (merge equal (cond t kept (kept ++ (x ∷ []))) more)
      go true e below = below kept (leave kept x more e h)
      go false e below = below (kept ++ (x ∷ [])) (subst P (sym (append_assoc kept (x ∷ []) more)) h)

  pub once_leaves : (xs : List A) → P xs → P (once equal xs)
  once_leaves xs h = merge_leaves [] xs h
