-- Numbers that rise strictly: none stands twice, and their members alone tell the list. The numbers of a list in rising order, each once, are its members, and
-- they are all its numbers where none stands twice. Assumes nothing.
use Prim.Native.Nat.{ℕ, suc, ◌+◌, ◌≤◌, ◌<◌}
use mathlib.Core.Path.{◌≡◌, refl, sym, subst}
use mathlib.Core.Logic.{◌⊎◌, inl, inr}
use mathlib.Core.Bool.{Bool, true, false, cond}
use mathlib.Core.List.{List, [], ◌∷◌, ◌++◌}
use native.Mathlib.Omega.{arith}
use borrow.Author.Tests.{leb-true, leb-false, eqb-true}
use lib.Dec.{leb, eqb}
use Rattle.laws.specs.Arrays.{Each}
use Rattle.laws.specs.Lists.{In}
use Rattle.laws.proofs.Members.{in_left, in_right, in_either}
use Rattle.laws.proofs.Once.{Distinct}
use Rattle.laws.proofs.Parts.{by_lt}
use Rattle.laws.specs.Sort.{count, Sorted, Rising, sorted, kept, rising}
use Rattle.laws.proofs.Holds.{each_all, each_in}
use Rattle.laws.proofs.Alike.{hit_same, counted_each, each_counted, in_counted, counted_in, in_alike}
use Rattle.laws.proofs.Sorting.{only_sorted, sorted_rises, sorted_alike}

-- ---- strictly, and weakly without a number twice

pub strict_weak : (l : List ℕ) → Sorted ◌<◌ l → Rising l
strict_weak [] s = tt
strict_weak (x ∷ l) s = (each_all (λ y. x < y) (λ y. x ≤ y) l (λ y h. omega arith) s.0, strict_weak l s.1)

strict_distinct : (l : List ℕ) → Sorted ◌<◌ l → Distinct l
strict_distinct [] s = tt
strict_distinct (x ∷ l) s = ((λ i. omega (arith, each_in (λ y. x < y) l x s.0 i)), strict_distinct l s.1)

distinct_strict : (l : List ℕ) → Rising l → Distinct l → Sorted ◌<◌ l
distinct_strict [] s d = tt
distinct_strict (x ∷ l) s d = (
  counted_each (λ y. x < y) l
      (λ y h. by_lt x y (λ lt. lt)
      (λ le.
      let e : y ≡ x = omega (arith, each_counted (λ z. x ≤ z) l s.0 y h) in absurd (d.0 (subst (λ (k : ℕ). In k l) e (counted_in y l h))))),
  distinct_strict l s.1 d.1,
)

distinct_count : (l : List ℕ) → Distinct l → (x : ℕ) → count x l ≤ 1
distinct_count [] d x = omega arith
distinct_count (y ∷ l) d x = go (eqb x y) refl (distinct_count l d.1 x)
  where
    go : (t : Bool) → eqb x y ≡ t → count x l ≤ 1 → cond t 1 0 + count x l ≤ 1
    go true e h = by_lt 0 (count x l) (λ lt. absurd (d.0 (subst (λ (k : ℕ). In k l) (eqb-true x y e) (counted_in x l lt)))) (λ le. omega arith)
    go false e h = omega arith

count_distinct : (l : List ℕ) → ((x : ℕ) → count x l ≤ 1) → Distinct l
count_distinct [] f = tt
count_distinct (y ∷ l) f = ((λ i. omega (arith, f y, hit_same y, in_counted y l i)), count_distinct l (λ x. omega (arith, f x)))

-- ---- members alone tell a list that rises strictly

pub only_members : (l m : List ℕ) → Sorted ◌<◌ l → Sorted ◌<◌ m → ((x : ℕ) → In x l → In x m) → ((x : ℕ) → In x m → In x l) → l ≡ m
only_members l m s t f g =
    let d = distinct_count l (strict_distinct l s) in
    let e = distinct_count m (strict_distinct m t) in
    only_sorted l m (strict_weak l s) (strict_weak m t)
    (λ x. by_lt 0 (count x l) (λ lt. omega (arith, d x, e x, in_counted x m (f x (counted_in x l lt))))
    (λ le. by_lt 0 (count x m) (λ lt. absurd (omega (arith, in_counted x l (g x (counted_in x m lt))))) (λ ge. omega arith)))

-- Distinct numbers in rising order rise strictly.
pub sorted_strict : (l : List ℕ) → Distinct l → Sorted ◌<◌ (sorted l)
sorted_strict l d =
    distinct_strict (sorted l) (sorted_rises l) (count_distinct (sorted l) (λ x. omega (arith, distinct_count l d x, sorted_alike l x)))

-- ---- each once

kept_strict : (low : ℕ) (l : List ℕ) → Each (λ x. low ≤ x) (kept low l) × Sorted ◌<◌ (kept low l)
kept_strict low [] = (tt, tt)
kept_strict low (x ∷ l) = go (leb low x) refl (kept_strict (suc x) l) (kept_strict low l)
  where
    go : (t : Bool) → leb low x ≡ t → Each (λ y. suc x ≤ y) (kept (suc x) l) × Sorted ◌<◌ (kept (suc x) l) → Each (λ y. low ≤ y) (kept low l) × Sorted ◌<◌ (kept low l)
        → Each (λ y. low ≤ y) (cond t (x ∷ kept (suc x) l) (kept low l)) × Sorted ◌<◌ (cond t (x ∷ kept (suc x) l) (kept low l))
    go true e f g =
        let le = leb-true low x e in (
          (le, each_all (λ y. suc x ≤ y) (λ y. low ≤ y) (kept (suc x) l) (λ y q. omega arith) f.0),
          (each_all (λ y. suc x ≤ y) (λ y. x < y) (kept (suc x) l) (λ y q. omega arith) f.0, f.1),
        )
    go false e f g = g

kept_in : (low : ℕ) (l : List ℕ) (x : ℕ) → In x (kept low l) → In x l
kept_in low [] x i = absurd i
kept_in low (y ∷ l) x i = go (leb low y) i (kept_in (suc y) l x) (kept_in low l x)
  where
    go : (t : Bool) → In x (cond t (y ∷ kept (suc y) l) (kept low l)) → (In x (kept (suc y) l) → In x l) → (In x (kept low l) → In x l) → (x ≡ y) ⊎ In x l
    go true (inl e) f g = inl e
    go true (inr j) f g = inr (f j)
    go false j f g = inr (g j)

-- Of numbers in rising order each that is not below is kept.
in_kept : (low : ℕ) (l : List ℕ) → Rising l → (x : ℕ) → low ≤ x → In x l → In x (kept low l)
in_kept low [] s x h i = absurd i
in_kept low (y ∷ l) s x h i = go (leb low y) refl i (in_kept (suc y) l s.1 x) (in_kept low l s.1 x h)
  where
    go : (t : Bool) → leb low y ≡ t → (x ≡ y) ⊎ In x l → (suc y ≤ x → In x l → In x (kept (suc y) l)) → (In x l → In x (kept low l))
        → In x (cond t (y ∷ kept (suc y) l) (kept low l))
    go true e (inl q) f g = inl q
    go true e (inr j) f g =
        let le : y ≤ x = each_in (λ z. y ≤ z) l x s.0 j in
        by_lt y x (λ lt. inr (f lt j)) (λ ge. inl (omega arith))
    go false e (inl q) f g = absurd (omega (arith, leb-false low y e))
    go false e (inr j) f g = g j

-- What `rising` gives rises strictly, its members are those of the list, and nothing else is so.
pub rising_strict : (l : List ℕ) → Sorted ◌<◌ (rising l)
rising_strict l = (kept_strict 0 (sorted l)).1

pub rising_in : (l : List ℕ) (x : ℕ) → In x (rising l) → In x l
rising_in l x i = in_alike x (sorted l) l (λ y. sym (sorted_alike l y)) (kept_in 0 (sorted l) x i)

pub in_rising : (l : List ℕ) (x : ℕ) → In x l → In x (rising l)
in_rising l x i = in_kept 0 (sorted l) (sorted_rises l) x (omega arith) (in_alike x l (sorted l) (sorted_alike l) i)

pub only_rising : (l m : List ℕ) → Sorted ◌<◌ m → ((x : ℕ) → In x m → In x l) → ((x : ℕ) → In x l → In x m) → m ≡ rising l
only_rising l m s f g = only_members m (rising l) s (rising_strict l) (λ x i. in_rising l x (f x i)) (λ x i. g x (rising_in l x i))

-- Where no number stands twice, each once is all.
pub distinct_rising : (l : List ℕ) → Distinct l → rising l ≡ sorted l
distinct_rising l d =
    sym (only_rising l (sorted l) (sorted_strict l d) (λ x. in_alike x (sorted l) l (λ y. sym (sorted_alike l y))) (λ x. in_alike x l (sorted l) (sorted_alike l)))

-- ---- two lists that are apart

-- no number stands in both
abbrev pub Apart : List ℕ → List ℕ → Type 0
Apart l m = (x : ℕ) → In x l → In x m → ⊥

apart_distinct : (l m : List ℕ) → Distinct l → Distinct m → Apart l m → Distinct (l ++ m)
apart_distinct [] m d e a = e
apart_distinct (x ∷ l) m d e a = ((λ i. two (in_either x l m i)), apart_distinct l m d.1 e (λ y i j. a y (inr i) j))
  where
    two : In x l ⊎ In x m → ⊥
    two (inl i) = d.0 i
    two (inr j) = a x (inl refl) j

-- Each once of one and each once of the other, in rising order, is each once of both.
pub added : (l m : List ℕ) → Apart l m → sorted (rising l ++ rising m) ≡ rising (l ++ m)
added l m a =
    let both : List ℕ = rising l ++ rising m in
    let d : Distinct both =
    apart_distinct (rising l) (rising m) (strict_distinct (rising l) (rising_strict l)) (strict_distinct (rising m) (rising_strict m))
    (λ x i j. a x (rising_in l x i) (rising_in m x j)) in
    only_rising (l ++ m) (sorted both) (sorted_strict both d)
    (λ x i. go x (in_either x (rising l) (rising m) (in_alike x (sorted both) both (λ y. sym (sorted_alike both y)) i)))
    (λ x i. in_alike x both (sorted both) (sorted_alike both) (back x (in_either x l m i)))
  where
    go : (x : ℕ) → In x (rising l) ⊎ In x (rising m) → In x (l ++ m)
    go x (inl i) = in_left x l m (rising_in l x i)
    go x (inr i) = in_right x l m (rising_in m x i)

    back : (x : ℕ) → In x l ⊎ In x m → In x (rising l ++ rising m)
    back x (inl i) = in_left x (rising l) (rising m) (in_rising l x i)
    back x (inr i) = in_right x (rising l) (rising m) (in_rising m x i)
