-- The book keeps the plate's order: a rule put behind those that may precede it leaves the rules in order, a folding put by its key leaves the keys rising.
-- Assumes nothing.
use mathlib.Core.Path.{◌≡◌, refl, sym, ap, subst}
use mathlib.Core.Bool.{Bool, true, false, cond, ◌&&◌, false≢true}
use mathlib.Core.List.{List, [], ◌∷◌}
use Prim.Native.Nat.{ℕ, suc, ◌≤◌}
use native.Mathlib.Omega.{arith}
use borrow.Author.Tests.{ltb-false, leb-false, eqb-true, eqb-false, lt-ltb, le-leb, eq-eqb}
use lib.Dec.{ltb, leb, eqb}
use lib.ListN.{length}
use Rattle.laws.specs.Lists.{every}
use Rattle.laws.proofs.Tests.{and_true, both_true, or_left, or_right, neither}
use Rattle.plate.specs.Plate.{Folding, Rule, may_precede, ordered, rising, first_code}
use Rattle.book.specs.Book.{put_rule, put_folding}

-- ---- rules

-- Of two rules one may precede the other.
total : (q r : Rule) → may_precede q r ≡ false → may_precede r q ≡ true
total q r h =
    let n = neither (ltb (first_code q) (first_code r)) (eqb (first_code q) (first_code r) && leb (length r.pattern) (length q.pattern)) h in
    let c = ltb-false (first_code q) (first_code r) n.0 in
    go (eqb (first_code q) (first_code r)) refl (leb (length r.pattern) (length q.pattern)) refl n.1 c
  where
    go : (e : Bool) → eqb (first_code q) (first_code r) ≡ e → (l : Bool) → leb (length r.pattern) (length q.pattern) ≡ l → e && l ≡ false → first_code r ≤ first_code q → may_precede r q ≡ true
    go true x true y z c = absurd (false≢true (sym z))
    go true x false y z c =
        let m = leb-false (length r.pattern) (length q.pattern) y in
        let s = eqb-true (first_code q) (first_code r) x in
        or_right (ltb (first_code r) (first_code q)) _ (both_true (eq-eqb (first_code r) (first_code q) (sym s)) (le-leb (length q.pattern) (length r.pattern) (omega arith)))
    go false x l y z c = let s = eqb-false (first_code q) (first_code r) x in or_left (ltb (first_code r) (first_code q)) _ (lt-ltb (first_code r) (first_code q) (omega arith))

-- a rule may precede the first of a list, if there is one
abbrev Leads : Rule → List Rule → Type 0
Leads q [] = Unit {0}
Leads q (x ∷ more) = may_precede q x ≡ true

ordered_cons : (q : Rule) (l : List Rule) → Leads q l → ordered l ≡ true → ordered (q ∷ l) ≡ true
ordered_cons q [] h o = refl
ordered_cons q (x ∷ more) h o = both_true h o

ordered_head : (q : Rule) (l : List Rule) → ordered (q ∷ l) ≡ true → Leads q l × (ordered l ≡ true)
ordered_head q [] o = (tt, refl)
ordered_head q (x ∷ more) o = and_true (may_precede q x) (ordered (x ∷ more)) o

put_leads : (q r : Rule) (l : List Rule) → may_precede q r ≡ true → Leads q l → Leads q (put_rule r l)
put_leads q r [] h k = h
put_leads q r (x ∷ more) h k = go (may_precede x r)
  where
    go : (t : Bool) → Leads q (cond t (x ∷ put_rule r more) (r ∷ x ∷ more))
    go true = k
    go false = h

pub put_ordered : (r : Rule) (l : List Rule) → ordered l ≡ true → ordered (put_rule r l) ≡ true
put_ordered r [] o = refl
put_ordered r (q ∷ more) o = go (may_precede q r) refl (put_ordered r more (ordered_head q more o).1)
  where
    go : (t : Bool) → may_precede q r ≡ t → ordered (put_rule r more) ≡ true → ordered (cond t (q ∷ put_rule r more) (r ∷ q ∷ more)) ≡ true
    go true e below = ordered_cons q (put_rule r more) (put_leads q r more e (ordered_head q more o).0) below
    go false e below = both_true (total q r e) o

-- What holds of a rule and of each of the others holds of each afterwards.
pub put_every : (t : Rule → Bool) (r : Rule) (l : List Rule) → t r ≡ true → every t l ≡ true → every t (put_rule r l) ≡ true
put_every t r [] g h = both_true g refl
put_every t r (q ∷ more) g h =
    let b = and_true (t q) (every t more) h in
    go (may_precede q r) b.0 (put_every t r more g b.1)
  where
    go : (c : Bool) → t q ≡ true → every t (put_rule r more) ≡ true → every t (cond c (q ∷ put_rule r more) (r ∷ q ∷ more)) ≡ true
    go true k below = both_true k below
    go false k below = both_true g h

pub put_length : (r : Rule) (l : List Rule) → length (put_rule r l) ≡ suc (length l)
put_length r [] = refl
put_length r (q ∷ more) = go (may_precede q r) (put_length r more)
  where
    go : (c : Bool) → length (put_rule r more) ≡ suc (length more) → length (cond c (q ∷ put_rule r more) (r ∷ q ∷ more)) ≡ suc (suc (length more))
    go true below = ap suc below
    go false below = refl

-- ---- foldings

-- a key stands before the first of a list, if there is one
abbrev Above : ℕ → List Folding → Type 0
Above k [] = Unit {0}
Above k (g ∷ more) = ltb k g.key ≡ true

rising_cons : (f : Folding) (l : List Folding) → Above f.key l → rising l ≡ true → rising (f ∷ l) ≡ true
rising_cons f [] h o = refl
rising_cons f (g ∷ more) h o = both_true h o

rising_head : (f : Folding) (l : List Folding) → rising (f ∷ l) ≡ true → Above f.key l × (rising l ≡ true)
rising_head f [] o = (tt, refl)
rising_head f (g ∷ more) o = and_true (ltb f.key g.key) (rising (g ∷ more)) o

put_above : (k : ℕ) (f : Folding) (l : List Folding) → ltb k f.key ≡ true → Above k l → Above k (put_folding f l)
put_above k f [] h a = h
put_above k f (g ∷ more) h a = go (ltb g.key f.key) (eqb g.key f.key)
  where
    go : (s e : Bool) → Above k (cond s (g ∷ put_folding f more) (cond e (f ∷ more) (f ∷ g ∷ more)))
    go true e = a
    go false true = h
    go false false = h

pub put_rising : (f : Folding) (l : List Folding) → rising l ≡ true → rising (put_folding f l) ≡ true
put_rising f [] o = refl
put_rising f (g ∷ more) o =
    go (ltb g.key f.key) (eqb g.key f.key) refl refl (rising_head g more o) (put_rising f more (rising_head g more o).1)
  where
    go : (s e : Bool) → ltb g.key f.key ≡ s → eqb g.key f.key ≡ e → Above g.key more × (rising more ≡ true) → rising (put_folding f more) ≡ true
        → rising (cond s (g ∷ put_folding f more) (cond e (f ∷ more) (f ∷ g ∷ more))) ≡ true
    go true e x y h below = rising_cons g (put_folding f more) (put_above g.key f more x h.0) below
    go false true x y h below = rising_cons f more (subst (λ (k : ℕ). Above k more) (eqb-true g.key f.key y) h.0) h.1
    go false false x y h below =
        let m = ltb-false g.key f.key x in
        let n = eqb-false g.key f.key y in
        both_true (lt-ltb f.key g.key (omega arith)) o

pub put_each : (t : Folding → Bool) (f : Folding) (l : List Folding) → t f ≡ true → every t l ≡ true → every t (put_folding f l) ≡ true
put_each t f [] g h = both_true g refl
put_each t f (x ∷ more) g h =
    let b = and_true (t x) (every t more) h in
    go (ltb x.key f.key) (eqb x.key f.key) b.0 b.1 (put_each t f more g b.1)
  where
    go : (s e : Bool) → t x ≡ true → every t more ≡ true → every t (put_folding f more) ≡ true
        → every t (cond s (x ∷ put_folding f more) (cond e (f ∷ more) (f ∷ x ∷ more))) ≡ true
    go true e k m below = both_true k below
    go false true k m below = both_true g m
    go false false k m below = both_true g h
