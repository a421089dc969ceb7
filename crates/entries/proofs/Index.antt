-- When bytes are an index: what the library's test of each entry and the next says, and what the test tells. Assumes nothing.
use Prim.Native.Nat.{ℕ, zero, suc, ◌-◌, ◌/◌, ◌%◌, ◌≤◌, ◌<◌}
use mathlib.Core.Path.{◌≡◌, refl, sym, ap, subst, ◌∙◌}
use mathlib.Core.Bool.{Bool, true, false, ◌&&◌}
use mathlib.Core.List.{List, [], ◌∷◌, ◌++◌, map}
use native.Mathlib.Numerals.{add-one}
use native.Mathlib.Omega.{arith}
use borrow.Author.Tests.{lt-ltb, le-leb, lt-leb, ltb-true, eq-eqb, eqb-true}
use lib.Dec.{eqb, ltb}
use lib.ListN.{length, take, get_or}
use lib.Seq.{take-suc, take_all}
use Rattle.std.specs.List.{IsAllAdjacentAnswer}
use Rattle.laws.specs.Arrays.{Each}
use Rattle.laws.specs.Lists.{every}
use Rattle.laws.proofs.Tests.{and_true, both_true, and_left_false, and_right_false}
use Rattle.entries.specs.Entries.{entries, most_code, code_in, is_code, rises_strictly, is_index}
use Rattle.laws.specs.Sort.{Sorted}
use Rattle.laws.proofs.Holds.{each_append, each_all}
use Rattle.laws.proofs.Sorting.{sorted_before}
use Rattle.entries.proofs.Bytes.{length_entries}

-- ---- strictly rising, as the library asks each and the next

module _ {A : Type 0} (f : A → ℕ) where
  abbrev below : A → A → Bool
  below x y = ltb (f x) (f y)

  all_below : (l : List A) → ((k : ℕ) (d : A) → suc k < length l → true ≡ below (get_or l k d) (get_or l (suc k) d)) → rises_strictly (map f l) ≡ true
  all_below [] h = refl
  all_below (x ∷ []) h = refl
  all_below (x ∷ y ∷ l) h = both_true (sym (h 0 x (omega arith))) (all_below (y ∷ l) (λ k d g. h (suc k) d (omega arith)))

  one_not : (l : List A) (k : ℕ) → suc k < length l → ((d : A) → false ≡ below (get_or l k d) (get_or l (suc k) d)) → rises_strictly (map f l) ≡ false
  one_not [] k h e = absurd (omega arith)
  one_not (x ∷ []) k h e = absurd (omega arith)
  one_not (x ∷ y ∷ l) zero h e = and_left_false (below x y) (rises_strictly (map f (y ∷ l))) (sym (e x))
  one_not (x ∷ y ∷ l) (suc k) h e = and_right_false (below x y) (rises_strictly (map f (y ∷ l))) (one_not (y ∷ l) k (omega arith) e)

  pub rises_answer : (l : List A) (r : Bool) → IsAllAdjacentAnswer (λ x y t. t ≡ below x y) l r → r ≡ rises_strictly (map f l)
  rises_answer l true h = sym (all_below l (λ k d g. subst (λ (i : ℕ). true ≡ below (get_or l k d) (get_or l i d)) (add-one k) (h k d (omega arith))))
  rises_answer l false h = sym (one_not l h.0 (omega (arith, h.1)) (λ d. subst (λ (i : ℕ). false ≡ below (get_or l h.0 d) (get_or l i d)) (add-one h.0) (h.2 d)))

  -- What stands in a list, read.
  pub get_read : (l : List A) (i : ℕ) (d : A) (v : ℕ) → i < length l → f (get_or l i d) ≡ get_or (map f l) i v
  get_read [] i d v h = absurd (omega arith)
  get_read (x ∷ l) zero d v h = refl
  get_read (x ∷ l) (suc i) d v h = get_read l i d v (omega arith)

-- ---- what the test tells: whole entries, strictly rising, each with a code

rises_true : (l : List ℕ) → rises_strictly l ≡ true → Sorted ◌<◌ l
rises_true [] h = tt
rises_true (x ∷ []) h = (tt, tt)
rises_true (x ∷ y ∷ l) h =
    let b = and_true (ltb x y) (rises_strictly (y ∷ l)) h in
    let lt = ltb-true x y b.0 in
    let r = rises_true (y ∷ l) b.1 in ((lt, each_all (λ z. y < z) (λ z. x < z) l (λ z q. omega arith) r.0), r)

true_rises : (l : List ℕ) → Sorted ◌<◌ l → rises_strictly l ≡ true
true_rises [] s = refl
true_rises (x ∷ []) s = refl
true_rises (x ∷ y ∷ l) s = both_true (lt-ltb x y s.0.0) (true_rises (y ∷ l) s.1)

every_each : (l : List ℕ) → every is_code l ≡ true → Each (λ x. is_code x ≡ true) l
every_each [] h = tt
every_each (x ∷ l) h = let b = and_true (is_code x) (every is_code l) h in (b.0, every_each l b.1)

each_every : (l : List ℕ) → Each (λ x. is_code x ≡ true) l → every is_code l ≡ true
each_every [] e = refl
each_every (x ∷ l) e = both_true e.0 (each_every l e.1)

pub index_true : (b : List ℕ) → is_index b ≡ true → (length b % 4 ≡ 0) × Sorted ◌<◌ (entries b) × Each (λ x. is_code x ≡ true) (entries b)
index_true b h =
    let p = and_true (eqb (length b % 4) 0) (rises_strictly (entries b) && every is_code (entries b)) h in
    let q = and_true (rises_strictly (entries b)) (every is_code (entries b)) p.1 in
    (eqb-true (length b % 4) 0 p.0, rises_true (entries b) q.0, every_each (entries b) q.1)

pub true_index : (b : List ℕ) → length b % 4 ≡ 0 → Sorted ◌<◌ (entries b) → Each (λ x. is_code x ≡ true) (entries b) → is_index b ≡ true
true_index b h s e = both_true (eq-eqb (length b % 4) 0 h) (both_true (true_rises (entries b) s) (each_every (entries b) e))

-- ---- the last code is the highest

-- Of numbers that rise strictly none is above the last.
last_highest : (l : List ℕ) (k : ℕ) → Sorted ◌<◌ l → suc k ≡ length l → Each (λ x. x ≤ get_or l k 0) l
last_highest l k s n =
    let y : ℕ = get_or l k 0 in
    let all : l ≡ take k l ++ (y ∷ []) = sym (take_all (suc k) l (omega arith)) ∙ take-suc l k 0 (omega arith) in
    subst (Each (λ x. x ≤ y)) (sym all)
    (each_append (λ x. x ≤ y) (take k l) (y ∷ [])
    (each_all (λ x. x < y) (λ x. x ≤ y) (take k l) (λ x h. omega arith) (sorted_before ◌<◌ (take k l) y [] (subst (Sorted ◌<◌) all s)))
    (omega arith, tt))

one_fails : (t : ℕ → Bool) (l : List ℕ) (k : ℕ) → k < length l → t (get_or l k 0) ≡ false → every t l ≡ false
one_fails t [] k h e = absurd (omega arith)
one_fails t (x ∷ l) zero h e = and_left_false (t x) (every t l) e
one_fails t (x ∷ l) (suc k) h e = and_right_false (t x) (every t l) (one_fails t l k (omega arith) e)

module _ (b : List ℕ) (whole : length b % 4 ≡ 0) (some : length b ≡ 0 → ⊥) (x : ℕ) (e : x ≡ get_or (entries b) (length b / 4 - 1) 0) where
  abbrev l : List ℕ
  l = entries b

  abbrev last : ℕ
  last = length b / 4 - 1

  pub index_high : most_code < code_in x → is_index b ≡ false
  index_high h =
      and_right_false (eqb (length b % 4) 0) (rises_strictly l && every is_code l)
      (and_right_false (rises_strictly l) (every is_code l)
      (one_fails is_code l last (omega (arith, length_entries b)) (lt-leb (code_in (get_or l last 0)) most_code (subst (λ (k : ℕ). most_code < code_in k) e h))))

  pub index_last : code_in x ≤ most_code → rises_strictly l ≡ is_index b
  index_last h =
      go (rises_strictly l) refl ∙ sym (ap (λ (t : Bool). t && (rises_strictly l && every is_code l)) (eq-eqb (length b % 4) 0 whole))
    where
      fits : Sorted ◌<◌ l → every is_code l ≡ true
      fits s =
          each_every l
          (each_all (λ y. y ≤ get_or l last 0) (λ y. is_code y ≡ true) l
          (λ y q. let le : y ≤ x = omega (arith, e) in let low : code_in y ≤ most_code = omega arith in le-leb (code_in y) most_code low)
          (last_highest l last s (omega (arith, length_entries b))))

      go : (t : Bool) → rises_strictly l ≡ t → rises_strictly l ≡ rises_strictly l && every is_code l
      go true f = f ∙ sym (both_true f (fits (rises_true l f)))
      go false f = f ∙ sym (and_left_false (rises_strictly l) (every is_code l) f)
