-- Each once, the first place stays: none is lost, none comes in, the first stays the first, and no two are equal; the test of equality tells equals. Assumes nothing.
use Prim.Native.Nat.{suc, ◌+◌, ◌≤◌}
use mathlib.Core.Path.{◌≡◌, refl, sym, ap, subst, ◌∙◌}
use mathlib.Core.Logic.{◌⊎◌, inl, inr}
use mathlib.Core.Bool.{Bool, true, false, cond, ◌||◌, false≢true}
use mathlib.Core.List.{List, [], ◌∷◌, ◌++◌}
use native.Mathlib.Omega.{arith}
use lib.ListN.{length, length-append}
use Rattle.laws.specs.Lists.{In}
use Rattle.laws.specs.Once.{among, merge, once}
use Rattle.laws.proofs.Members.{in_left, in_right, in_either}
use Rattle.laws.proofs.Tests.{or_true}

-- the list starts with it
abbrev Begins : {A : Type 0} → A → List A → Type 0
Begins {A} x l = (rest : List A) × (l ≡ x ∷ rest)

-- no two of a list are equal
abbrev pub Distinct : {A : Type 0} → List A → Type 0
Distinct [] = Unit {0}
Distinct (x ∷ more) = (In x more → ⊥) × Distinct more

module _ {A : Type 0} (equal : A → A → Bool) where
  -- What is kept stays.
  pub merge_kept : (x : A) (kept more : List A) → In x kept → In x (merge equal kept more)
  merge_kept x kept [] h = h
  merge_kept x kept (b ∷ more) h = go (among equal b kept) (λ k. merge_kept x k more)
    where
      go : (t : Bool) → ((k : List A) → In x k → In x (merge equal k more)) → In x (merge equal (cond t kept (kept ++ (b ∷ []))) more)
      go true below = below kept h
      go false below = below (kept ++ (b ∷ [])) (in_left x kept (b ∷ []) h)

  -- Nothing else comes in.
  merge_from : (x : A) (kept more : List A) → In x (merge equal kept more) → In x kept ⊎ In x more
  merge_from x kept [] h = inl h
  merge_from x kept (b ∷ more) h = go (among equal b kept) (λ k. merge_from x k more) h
    where
      back : In x (kept ++ (b ∷ [])) → In x kept ⊎ In x (b ∷ more)
      back i = two (in_either x kept (b ∷ []) i)
        where
          two : In x kept ⊎ In x (b ∷ []) → In x kept ⊎ In x (b ∷ more)
          two (inl k) = inl k
          two (inr (inl e)) = inr (inl e)
          two (inr (inr k)) = absurd k

      later : {P : Type 0} → (P → In x kept ⊎ In x (b ∷ more)) → P ⊎ In x more → In x kept ⊎ In x (b ∷ more)
      later f (inl p) = f p
      later f (inr m) = inr (inr m)

      go : (t : Bool) → ((k : List A) → In x (merge equal k more) → In x k ⊎ In x more) → In x (merge equal (cond t kept (kept ++ (b ∷ []))) more)
          → In x kept ⊎ In x (b ∷ more)
      go true below i = later (λ k. inl k) (below kept i)
      go false below i = later back (below (kept ++ (b ∷ [])) i)

  pub once_from : (x : A) (xs : List A) → In x (once equal xs) → In x xs
  once_from x xs h = go (merge_from x [] xs h)
    where
      go : In x [] ⊎ In x xs → In x xs
      go (inl i) = absurd i
      go (inr i) = i

  -- The first stays the first.
  merge_first : (x : A) (kept more : List A) → Begins x kept → Begins x (merge equal kept more)
  merge_first x kept [] s = s
  merge_first x kept (b ∷ more) s = go (among equal b kept) (λ k. merge_first x k more)
    where
      go : (t : Bool) → ((k : List A) → Begins x k → Begins x (merge equal k more)) → Begins x (merge equal (cond t kept (kept ++ (b ∷ []))) more)
      go true below = below kept s
      go false below = below (kept ++ (b ∷ [])) (s.0 ++ (b ∷ []), ap (λ (l : List A). l ++ (b ∷ [])) s.1)

  pub once_first : (x : A) (xs : List A) → Begins x (once equal (x ∷ xs))
  once_first x xs = merge_first x (x ∷ []) xs ([], refl)

  -- Those kept are some of them, and all together are no more than both.
  pub merge_grows : (kept more : List A) → length kept ≤ length (merge equal kept more)
  merge_grows kept [] = omega arith
  merge_grows kept (b ∷ more) = go (among equal b kept) (λ k. merge_grows k more)
    where
      go : (t : Bool) → ((k : List A) → length k ≤ length (merge equal k more)) → length kept ≤ length (merge equal (cond t kept (kept ++ (b ∷ []))) more)
      go true below = below kept
      go false below = let g = below (kept ++ (b ∷ [])) in let l = length-append kept (b ∷ []) in omega arith

  merge_short : (kept more : List A) → length (merge equal kept more) ≤ length kept + length more
  merge_short kept [] = omega arith
  merge_short kept (b ∷ more) = go (among equal b kept) (λ k. merge_short k more)
    where
      go : (t : Bool) → ((k : List A) → length (merge equal k more) ≤ length k + length more)
          → length (merge equal (cond t kept (kept ++ (b ∷ []))) more) ≤ length kept + suc (length more)
      go true below = let g = below kept in omega arith
      go false below = let g = below (kept ++ (b ∷ [])) in let l = length-append kept (b ∷ []) in omega arith

  pub once_short : (xs : List A) → length (once equal xs) ≤ length xs
  once_short xs = let h = merge_short [] xs in omega arith

  module _ (tells : (x y : A) → equal x y ≡ true → x ≡ y) where
    pub among_in : (x : A) (l : List A) → among equal x l ≡ true → In x l
    among_in x [] e = absurd (false≢true e)
    among_in x (c ∷ cs) e = go (or_true (equal x c) (among equal x cs) e) (among_in x cs)
      where
        go : (equal x c ≡ true) ⊎ (among equal x cs ≡ true) → (among equal x cs ≡ true → In x cs) → In x (c ∷ cs)
        go (inl s) below = inl (tells x c s)
        go (inr s) below = inr (below s)

    -- None is lost.
    merge_rest : (x : A) (kept more : List A) → In x more → In x (merge equal kept more)
    merge_rest x kept [] h = absurd h
    merge_rest x kept (b ∷ more) (inr h) = merge_rest x (cond (among equal b kept) kept (kept ++ (b ∷ []))) more h
    merge_rest x kept (b ∷ more) (inl e) = subst (λ (y : A). In y (merge equal kept (b ∷ more))) (sym e) (go (among equal b kept) (among_in b kept))
      where
        go : (t : Bool) → (t ≡ true → In b kept) → In b (merge equal (cond t kept (kept ++ (b ∷ []))) more)
        go true there = merge_kept b kept more (there refl)
        go false there = merge_kept b (kept ++ (b ∷ [])) more (in_right b kept (b ∷ []) (inl refl))

    pub once_has : (x : A) (xs : List A) → In x xs → In x (once equal xs)
    once_has x xs h = merge_rest x [] xs h

  module _ (equals : (x : A) → equal x x ≡ true) where
    in_among : (x : A) (l : List A) → In x l → among equal x l ≡ true
    in_among x [] h = absurd h
    in_among x (c ∷ cs) (inl e) = ap (λ (t : Bool). t || among equal x cs) (ap (equal x) (sym e) ∙ equals x)
    in_among x (c ∷ cs) (inr h) = go (equal x c) (in_among x cs h)
      where
        go : (t : Bool) → among equal x cs ≡ true → t || among equal x cs ≡ true
        go true e = refl
        go false e = e

    distinct_snoc : (x : A) (l : List A) → (In x l → ⊥) → Distinct l → Distinct (l ++ (x ∷ []))
    distinct_snoc x [] n d = ((λ i. i), tt)
    distinct_snoc x (y ∷ l) n d = ((λ i. two (in_either y l (x ∷ []) i)), distinct_snoc x l (λ i. n (inr i)) d.1)
      where
        two : In y l ⊎ In y (x ∷ []) → ⊥
        two (inl i) = d.0 i
        two (inr (inl e)) = n (inl (sym e))
        two (inr (inr i)) = i

    merge_distinct : (kept more : List A) → Distinct kept → Distinct (merge equal kept more)
    merge_distinct kept [] d = d
    merge_distinct kept (b ∷ more) d = go (among equal b kept) (in_among b kept) (λ k. merge_distinct k more)
      where
        go : (t : Bool) → (In b kept → t ≡ true) → ((k : List A) → Distinct k → Distinct (merge equal k more)) → Distinct (merge equal (cond t kept (kept ++ (b ∷ []))) more)
        go true f below = below kept d
        go false f below = below (kept ++ (b ∷ [])) (distinct_snoc b kept (λ i. false≢true (f i)) d)

    -- No two are equal.
    pub once_distinct : (xs : List A) → Distinct (once equal xs)
    once_distinct xs = merge_distinct [] xs tt
