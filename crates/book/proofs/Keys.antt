-- Rules and foldings as numbers stand in the order of what they stand for: a key goes where its rule goes, a folding's number where the folding goes.
-- Assumes nothing.
use Prim.Native.Nat.{ℕ, zero, suc, ◌+◌, ◌-◌, ◌*◌, ◌/◌, ◌%◌, ◌<◌, ◌≤◌}
use mathlib.Core.Path.{◌≡◌, refl, sym, ◌∙◌, ap, ap₂}
use mathlib.Core.Bool.{Bool, true, false, cond, ◌&&◌, ◌||◌, false≢true}
use mathlib.Core.List.{List, [], ◌∷◌, ◌++◌, map}
use native.Mathlib.Omega.{arith}
use native.Mathlib.Numerals.{add-one}
use borrow.Author.Tests.{lt-ltb, le-ltb, ltb-true, ltb-false, leb-true, leb-false, eqb-true, eqb-false}
use lib.Dec.{ltb, leb, eqb}
use lib.ListN.{length, take, drop, get_or, set, length-append, length-drop, length-set}
use lib.Seq.{take-append_seam, take-suc, take-set-le, get_or-set_same}
use Rattle.plate.specs.Plate.{Folding, Rule, first_code, most_bytes, may_precede}
use Rattle.book.specs.Book.{folding_of, put_rule, put_folding}
use Rattle.laws.specs.Sort.{insert}
use Rattle.book.specs.Sort.{paired, put_pair, folding_in, Small, AllSmall}
use Rattle.book.specs.Seen.{hashes, hash_of}
use Rattle.book.specs.Note.{places, lengths, key, place_in, hash_in, rules_in, Sure, AllSure}
use Rattle.book.proofs.Faults.{clean}
use Rattle.book.proofs.Hashes.{hash_small}

-- ---- the order of keys

-- What a key holds.
pub key_place : (c n at hash : ℕ) → at < places → hash < hashes → place_in (key c n at hash) ≡ at
key_place c n at hash h g =
    let K = (c * lengths + (most_bytes - n)) * places + at in
    let e : key c n at hash / hashes ≡ K = omega arith in ap (λ (m : ℕ). m % places) e ∙ omega arith

pub key_hash : (c n at hash : ℕ) → hash < hashes → hash_in (key c n at hash) ≡ hash
key_hash c n at hash g = omega arith

-- Of two keys the earlier in the text is below the later where its rule may precede the other.
key_order : (c n at hash c2 n2 at2 hash2 : ℕ) → n ≤ most_bytes → n2 ≤ most_bytes → at < at2 → at2 < places → hash < hashes → hash2 < hashes
    → ltb (key c n at hash) (key c2 n2 at2 hash2) ≡ ltb c c2 || (eqb c c2 && leb n2 n)
key_order c n at hash c2 n2 at2 hash2 h h2 i j small small2 = go (ltb c c2) refl (eqb c c2) refl (leb n2 n) refl
  where
    go : (x : Bool) → ltb c c2 ≡ x → (y : Bool) → eqb c c2 ≡ y → (z : Bool) → leb n2 n ≡ z → ltb (key c n at hash) (key c2 n2 at2 hash2) ≡ x || (y && z)
    go true e y f z g = lt-ltb (key c n at hash) (key c2 n2 at2 hash2) (omega (arith, ltb-true c c2 e))
    go false e true f true g = lt-ltb (key c n at hash) (key c2 n2 at2 hash2) (omega (arith, eqb-true c c2 f, leb-true n2 n g))
    go false e true f false g = le-ltb (key c n at hash) (key c2 n2 at2 hash2) (omega (arith, eqb-true c c2 f, leb-false n2 n g))
    go false e false f z g = let d = eqb-false c c2 f in le-ltb (key c n at hash) (key c2 n2 at2 hash2) (omega (arith, ltb-false c c2 e))

module _ (view : ℕ → Rule) where
  abbrev read : ℕ → Rule
  read k = view (place_in k)

  later : (at at2 k : ℕ) → at ≤ at2 → Sure view at k → Sure view at2 k
  later at at2 k h s = let j = s.before in record { is = s.is; before = omega arith; fine = s.fine }

  pub all_later : (at at2 : ℕ) (l : List ℕ) → at ≤ at2 → AllSure view at l → AllSure view at2 l
  all_later at at2 [] h s = tt
  all_later at at2 (k ∷ l) h s = (later at at2 k h s.0, all_later at at2 l h s.1)

  pub sure_at : (at : ℕ) (l : List ℕ) (i : ℕ) → i < length l → AllSure view at l → Sure view at (get_or l i 0)
  sure_at at [] i h a = absurd (omega arith)
  sure_at at (k ∷ l) zero h a = a.0
  sure_at at (k ∷ l) (suc i) h a = sure_at at l i (omega arith) a.1

  -- The pattern of what a number stands for is short.
  short : (at k : ℕ) → Sure view at k → length (read k).pattern ≤ 16
  short at k s = (clean (read k) 0 s.fine).short

  -- A key goes where its rule goes.
  pub put_view : (at k : ℕ) (l : List ℕ) → at < places → place_in k ≡ at → Sure view (at + 1) k → AllSure view at l
      → rules_in view (insert k l) ≡ put_rule (view (place_in k)) (rules_in view l)
  put_view at k [] h p s a = refl
  put_view at k (x ∷ xs) h p s a = go (ltb x k) (may_precede (read x) (read k)) same (put_view at k xs h p s a.1)
    where
      below : place_in x < place_in k
      below = let j = a.0.before in omega arith

      fits : place_in k < places
      fits = omega arith

      same : ltb x k ≡ may_precede (read x) (read k)
      same =
          ap₂ ltb a.0.is s.is
          ∙ key_order (first_code (read x)) (length (read x).pattern) (place_in x) (hash_of (read x).pattern) (first_code (read k)) (length (read k).pattern) (place_in k) (hash_of (read k).pattern)
          (short at x a.0) (short (at + 1) k s) below fits (hash_small (read x).pattern) (hash_small (read k).pattern)

      go : (t u : Bool) → t ≡ u → rules_in view (insert k xs) ≡ put_rule (read k) (rules_in view xs)
          → rules_in view (cond t (x ∷ insert k xs) (k ∷ x ∷ xs)) ≡ cond u (read x ∷ put_rule (read k) (rules_in view xs)) (read k ∷ read x ∷ rules_in view xs)
      go true true e i = ap (λ (r : List Rule). read x ∷ r) i
      go true false e i = absurd (false≢true (sym e))
      go false true e i = absurd (false≢true e)
      go false false e i = refl

-- The first of an array with one stored behind them.
pub first_keys : (a : List ℕ) (n k : ℕ) → n < length a → take (n + 1) (set a n k) ≡ take n a ++ (k ∷ [])
first_keys a n k h =
    ap (λ (m : ℕ). take m (set a n k)) (add-one n)
    ∙ take-suc (set a n k) n 0 (omega (arith, length-set a n k))
    ∙ ap₂ (λ (l : List ℕ) (x : ℕ). l ++ (x ∷ [])) (take-set-le n a n k (omega arith)) (get_or-set_same a n k 0 h)

-- ---- foldings

module _ (c target : ℕ) (small : target < 2097152) where
  pub put_small : (l : List ℕ) → c < 2097152 → AllSmall l → AllSmall (put_pair c target l)
  put_small [] h s = (omega arith, tt)
  put_small (g ∷ more) h s = go (ltb g (c * 2097152)) (eqb (g / 2097152) c) (put_small more h s.1)
    where
      here : paired c target < 4398046511104
      here = omega arith

      go : (t u : Bool) → AllSmall (put_pair c target more) → AllSmall (cond t (g ∷ put_pair c target more) (cond u (paired c target ∷ more) (paired c target ∷ g ∷ more)))
      go true u i = (s.0, i)
      go false true i = (here, s.1)
      go false false i = (here, s)

  halves : folding_in (paired c target) ≡ folding_of c target
  halves =
      let x : (c * 2097152 + target) / 2097152 ≡ c = omega arith in
      let y : (c * 2097152 + target) % 2097152 ≡ target = omega arith in
      λ i. record { key = x i; target = y i }

  -- Below the smallest number of a key is below the key.
  below : (g : ℕ) → ltb g (c * 2097152) ≡ ltb (g / 2097152) c
  below g = go (ltb (g / 2097152) c) refl
    where
      go : (t : Bool) → ltb (g / 2097152) c ≡ t → ltb g (c * 2097152) ≡ t
      go true e = let h = ltb-true (g / 2097152) c e in lt-ltb g (c * 2097152) (omega arith)
      go false e = let h = ltb-false (g / 2097152) c e in le-ltb g (c * 2097152) (omega arith)

  -- A folding's number goes where the folding goes.
  pub put_folding_view : (l : List ℕ) → map folding_in (put_pair c target l) ≡ put_folding (folding_of c target) (map folding_in l)
  put_folding_view [] = ap (λ (f : Folding). f ∷ []) halves
  put_folding_view (g ∷ more) =
      go (ltb g (c * 2097152)) (eqb (g / 2097152) c) (put_folding_view more)
      ∙ ap
      (λ (t : Bool).
      cond t (folding_in g ∷ put_folding (folding_of c target) (map folding_in more))
      (cond (eqb (g / 2097152) c) (folding_of c target ∷ map folding_in more) (folding_of c target ∷ folding_in g ∷ map folding_in more)))
      (below g)
    where
      go : (t u : Bool) → map folding_in (put_pair c target more) ≡ put_folding (folding_of c target) (map folding_in more)
          → map folding_in (cond t (g ∷ put_pair c target more) (cond u (paired c target ∷ more) (paired c target ∷ g ∷ more)))
          ≡ cond t (folding_in g ∷ put_folding (folding_of c target) (map folding_in more)) (cond u (folding_of c target ∷ map folding_in more) (folding_of c target ∷ folding_in g ∷ map folding_in more))
      go true u i = ap (λ (r : List Folding). folding_in g ∷ r) i
      go false true i = ap (λ (f : Folding). f ∷ map folding_in more) halves
      go false false i = ap (λ (f : Folding). f ∷ folding_in g ∷ map folding_in more) halves

  -- The first of an array after a folding is put, and its length.
  module _ (a b : List ℕ) (n m : ℕ) (e : m ≡ length (put_pair c target (take n a))) (f : b ≡ put_pair c target (take n a) ++ drop m a) where
    pub first_pairs : take m b ≡ put_pair c target (take n a)
    first_pairs = ap₂ take e f ∙ take-append_seam (put_pair c target (take n a)) (drop m a)

    pub pairs_length : m ≤ length a → length b ≡ length a
    pairs_length h = ap length f ∙ length-append (put_pair c target (take n a)) (drop m a) ∙ omega (arith, e, length-drop m a)

pub small_at : (l : List ℕ) (i : ℕ) → i < length l → AllSmall l → Small (get_or l i 0)
small_at [] i h a = absurd (omega arith)
small_at (x ∷ xs) zero h a = a.0
small_at (x ∷ xs) (suc i) h a = small_at xs i (omega arith) a.1
