-- Facts on standing in a list: in one of two joined lists, in a list of images, among those that pass a test. Assumes nothing.
use mathlib.Core.Path.{◌≡◌, refl, ap, ◌∙◌}
use mathlib.Core.Logic.{◌⊎◌, inl, inr}
use mathlib.Core.Bool.{Bool, true, false, cond}
use mathlib.Core.List.{List, [], ◌∷◌, ◌++◌, map}
use Rattle.laws.specs.Lists.{In, every, keep}
use Rattle.laws.proofs.Tests.{and_true}

pub in_left : {A : Type 0} (x : A) (xs ys : List A) → In x xs → In x (xs ++ ys)
in_left x [] ys h = absurd h
in_left x (z ∷ zs) ys (inl e) = inl e
in_left x (z ∷ zs) ys (inr h) = inr (in_left x zs ys h)

pub in_right : {A : Type 0} (x : A) (xs ys : List A) → In x ys → In x (xs ++ ys)
in_right x [] ys h = h
in_right x (z ∷ zs) ys h = inr (in_right x zs ys h)

pub in_either : {A : Type 0} (x : A) (xs ys : List A) → In x (xs ++ ys) → In x xs ⊎ In x ys
in_either x [] ys h = inr h
in_either x (z ∷ zs) ys (inl e) = inl (inl e)
in_either x (z ∷ zs) ys (inr h) = go (in_either x zs ys h)
  where
    go : In x zs ⊎ In x ys → In x (z ∷ zs) ⊎ In x ys
    go (inl i) = inl (inr i)
    go (inr i) = inr i

pub in_map : {A B : Type 0} (f : A → B) (x : A) (xs : List A) → In x xs → In (f x) (map f xs)
in_map f x [] h = absurd h
in_map f x (z ∷ zs) (inl e) = inl (ap f e)
in_map f x (z ∷ zs) (inr h) = inr (in_map f x zs h)

pub map_in : {A B : Type 0} (f : A → B) (y : B) (xs : List A) → In y (map f xs) → (x : A) × In x xs × (y ≡ f x)
map_in f y [] h = absurd h
map_in f y (z ∷ zs) (inl e) = (z, inl refl, e)
map_in f y (z ∷ zs) (inr h) = let r = map_in f y zs h in (r.0, inr r.1, r.2)

-- A member of what is kept is a member that passes.
pub in_keep : {A : Type 0} (t : A → Bool) (l : List A) (x : A) → In x (keep t l) → In x l × (t x ≡ true)
in_keep t [] x i = absurd i
in_keep {A} t (y ∷ l) x i = go (t y) refl i (in_keep t l x)
  where
    go : (b : Bool) → t y ≡ b → In x (cond b (y ∷ keep t l) (keep t l)) → (In x (keep t l) → In x l × (t x ≡ true)) → ((x ≡ y) ⊎ In x l) × (t x ≡ true)
    go true e (inl f) below = (inl f, ap t f ∙ e)
    go true e (inr k) below = let m = below k in (inr m.0, m.1)
    go false e k below = let m = below k in (inr m.0, m.1)

-- What passes at each passes at a member.
pub in_every : {A : Type 0} (t : A → Bool) (l : List A) (x : A) → every t l ≡ true → In x l → t x ≡ true
in_every t [] x h i = absurd i
in_every t (y ∷ l) x h (inl e) = ap t e ∙ (and_true (t y) (every t l) h).0
in_every t (y ∷ l) x h (inr k) = in_every t l x (and_true (t y) (every t l) h).1 k
