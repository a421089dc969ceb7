-- Words on tests and lists that the definitions of several layers use.
-- Assumes nothing.
use Rattle.std.specs.Prelude.{ℕ, suc, ◌-◌, ◌≡◌, ◌⊎◌, Bool, true, false, cond, ◌&&◌, ◌||◌, List, [], ◌∷◌, ◌++◌, leb, eqb, take, drop}

-- low ≤ n ≤ high
abbrev pub between : ℕ → ℕ → ℕ → Bool
between low high n = leb low n && leb n high

-- each passes the test
abbrev pub every : {A : Type 0} → (A → Bool) → List A → Bool
every t [] = true
every t (x ∷ xs) = t x && every t xs

-- one at least passes the test
abbrev pub some : {A : Type 0} → (A → Bool) → List A → Bool
some t [] = false
some t (x ∷ xs) = t x || some t xs

-- those that pass the test, in order
abbrev pub keep : {A : Type 0} → (A → Bool) → List A → List A
keep t [] = []
keep t (x ∷ xs) = cond (t x) (x ∷ keep t xs) (keep t xs)

-- the two lists are equal
abbrev pub same : List ℕ → List ℕ → Bool
same [] [] = true
same [] (y ∷ ys) = false
same (x ∷ xs) [] = false
same (x ∷ xs) (y ∷ ys) = eqb x y && same xs ys

-- the first list begins the second
abbrev pub begins : List ℕ → List ℕ → Bool
begins [] l = true
begins (x ∷ xs) [] = false
begins (x ∷ xs) (y ∷ ys) = eqb x y && begins xs ys

-- what stands from one place up to another
abbrev pub cut : List ℕ → ℕ → ℕ → List ℕ
cut l from to = take (to - from) (drop from l)

-- how many stand before the first b; all of them where there is none
unfoldable pub until : ℕ → List ℕ → ℕ
until b [] = 0
until b (x ∷ xs) = cond (eqb x b) 0 (suc (until b xs))

-- how many are b
unfoldable pub count_of : ℕ → List ℕ → ℕ
count_of b [] = 0
count_of b (x ∷ xs) = cond (eqb x b) (suc (count_of b xs)) (count_of b xs)

-- c in front of the first of some lists
abbrev pub onto : ℕ → List (List ℕ) → List (List ℕ)
onto c [] = (c ∷ []) ∷ []
onto c (l ∷ more) = (c ∷ l) ∷ more

-- a list split at each b: one part more than there are b's
unfoldable pub split_at : ℕ → List ℕ → List (List ℕ)
split_at b [] = [] ∷ []
split_at b (x ∷ xs) = let more = split_at b xs in cond (eqb x b) ([] ∷ more) (onto x more)

-- one list of bits or bytes for each, one behind the other
abbrev pub cat : {A : Type 0} → (A → List ℕ) → List A → List ℕ
cat f [] = []
cat f (x ∷ xs) = f x ++ cat f xs

-- it stands in the list
abbrev pub In : {A : Type 0} → A → List A → Type 0
In a [] = ⊥
In a (x ∷ xs) = (a ≡ x) ⊎ In a xs
