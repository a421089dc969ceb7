-- New entries among the old ones: sorted in a buffer of their own, then merged in front of the index; where no entry stands twice that is what making afresh gives.
-- Assumes nothing.
use Prim.Native.Nat.{ℕ, zero, suc, ◌+◌, ◌-◌, ◌*◌, ◌/◌, ◌%◌, ◌<◌, ◌≤◌}
use mathlib.Core.Path.{◌≡◌, refl, sym, ap, ap₂, subst, ◌∙◌}
use mathlib.Core.Bool.{Bool, true, false, cond}
use mathlib.Core.List.{List, [], ◌∷◌, ◌++◌}
use native.Mathlib.Omega.{arith}
use lib.Dec.{ltb}
use lib.ListN.{length, take, drop, length-append}
use lib.Seq.{take_at, length-take-le}
use Rattle.laws.specs.Arrays.{Each}
use Rattle.laws.proofs.Once.{Distinct}
use Rattle.ward.specs.Puts.{Puts}
use Rattle.laws.specs.Sort.{Sorted, Rising, insert, sorted, rising}
use Rattle.entries.specs.Entries.{entries, entry_bytes, old_entries, record_in, is_index}
use Rattle.laws.proofs.Alike.{count_append}
use Rattle.laws.proofs.Sorting.{sorted_rises, sorted_alike, is_sorted}
use Rattle.laws.proofs.Rising.{strict_weak, only_rising, distinct_rising, added}
use Rattle.entries.proofs.Bytes.{length_entries, entries_take, entries_bytes, length_bytes}
use Rattle.entries.proofs.Index.{index_true}
use Rattle.entries.proofs.Lookups.{records_apart}

-- ---- how many

length_insert : (k : ℕ) (l : List ℕ) → length (insert k l) ≡ suc (length l)
length_insert k [] = refl
length_insert k (x ∷ l) = go (ltb x k) (length_insert k l)
  where
    go : (t : Bool) → length (insert k l) ≡ suc (length l) → length (cond t (x ∷ insert k l) (k ∷ x ∷ l)) ≡ suc (suc (length l))
    go true e = ap suc e
    go false e = refl

pub length_sorted : (l : List ℕ) → length (sorted l) ≡ length l
length_sorted [] = refl
length_sorted (x ∷ l) = length_insert x (sorted l) ∙ ap suc (length_sorted l)

-- ---- which

-- It does not matter whether the second were in order before.
sorted_first : (l m : List ℕ) → sorted (l ++ sorted m) ≡ sorted (l ++ m)
sorted_first l m =
    is_sorted (l ++ m) (sorted (l ++ sorted m)) (sorted_rises (l ++ sorted m))
    (λ x. sorted_alike (l ++ sorted m) x ∙ count_append x l (sorted m) ∙ omega (arith, count_append x l m, sorted_alike m x))

-- Old entries of an index and new ones of the next record: no entry stands twice.
pub rising_added : (l m : List ℕ) (k : ℕ) → Sorted ◌<◌ l → Distinct m → Each (λ (x : ℕ). record_in x < k) l → Each (λ (x : ℕ). record_in x ≡ k) m
    → rising (l ++ m) ≡ sorted (l ++ m)
rising_added l m k s d e f =
    let same : l ≡ rising l = only_rising l l s (λ x i. i) (λ x i. i) in
    sym (added l m (records_apart k l m e f))
    ∙ ap₂ (λ (x y : List ℕ). sorted (x ++ y)) (sym same) (distinct_rising m d)
    ∙ sorted_first l m

-- ---- in a buffer of their own

module _ (es : List ℕ) (n : ℕ) (e : length es ≡ n) (r : ℕ) (lent buffer : List ℕ) (p : Puts (entry_bytes es) r lent buffer) where
  bytes_long : length (entry_bytes es) ≡ 4 * n
  bytes_long = length_bytes es ∙ ap (λ (k : ℕ). 4 * k) e

  front : take (4 * n) buffer ≡ entry_bytes es
  front = ap (take (4 * n)) p.is ∙ take_at (entry_bytes es) (drop (length (entry_bytes es)) lent) (4 * n) bytes_long

  pub front_long : 4 * n ≡ length (take (4 * n) buffer)
  front_long = sym (ap length front ∙ bytes_long)

  pub front_whole : length (take (4 * n) buffer) % 4 ≡ 0
  front_whole = let l = front_long in omega arith

  -- They are sorted there, and the sorted ones are lent.
  module _ (s : List ℕ) (q : s ≡ entry_bytes (sorted (entries (take (4 * n) buffer)))) where
    is_sorted_front : s ≡ entry_bytes (sorted es)
    is_sorted_front = q ∙ ap (λ (l : List ℕ). entry_bytes (sorted l)) (ap entries front ∙ entries_bytes es)

    sorted_long : length s ≡ 4 * n
    sorted_long = ap length is_sorted_front ∙ length_bytes (sorted es) ∙ ap (λ (k : ℕ). 4 * k) (length_sorted es ∙ e)

    pub new_long : 4 * n ≤ length (s ++ drop (4 * n) buffer)
    new_long = let l = length-append s (drop (4 * n) buffer) in let m = sorted_long in omega arith

    new_lent : take (4 * n) (s ++ drop (4 * n) buffer) ≡ s
    new_lent = take_at s (drop (4 * n) buffer) (4 * n) sorted_long

    pub new_length : 4 * n ≡ length (take (4 * n) (s ++ drop (4 * n) buffer))
    new_length = sym (ap length new_lent ∙ sorted_long)

    new_entries : entries (take (4 * n) (s ++ drop (4 * n) buffer)) ≡ sorted es
    new_entries = ap entries (new_lent ∙ is_sorted_front) ∙ entries_bytes (sorted es)

    pub new_rises : Rising (entries (take (4 * n) (s ++ drop (4 * n) buffer)))
    new_rises = subst Rising (sym new_entries) (sorted_rises es)

    -- ---- among those of an index

    module _ (index : List ℕ) (used : ℕ) (i : is_index (take used index) ≡ true) (room : used + 4 * n ≤ length index) where
      whole : used % 4 ≡ 0
      whole = let l = length-take-le used index (omega arith) in let m = (index_true (take used index) i).0 in omega arith

      pub lent_long : used + 4 * n ≡ length (take (used + 4 * n) index)
      lent_long = sym (length-take-le (used + 4 * n) index room)

      pub lent_whole : length (take (used + 4 * n) index) % 4 ≡ 0
      lent_whole = let l = lent_long in let m = whole in omega arith

      pub lent_more : length (take (4 * n) (s ++ drop (4 * n) buffer)) ≤ length (take (used + 4 * n) index)
      lent_more = let l = lent_long in let m = new_length in omega arith

      old : old_entries (take (used + 4 * n) index) (entries (take (4 * n) (s ++ drop (4 * n) buffer))) ≡ entries (take used index)
      old =
          let b : List ℕ = take (used + 4 * n) index in
          let l = lent_long in
          let w = whole in
          let long : length (entries b) ≡ (used + 4 * n) / 4 = length_entries b ∙ ap (λ (k : ℕ). k / 4) (sym l) in
          let few : length (entries (take (4 * n) (s ++ drop (4 * n) buffer))) ≡ n = ap length new_entries ∙ length_sorted es ∙ e in
          let at : length (entries b) - length (entries (take (4 * n) (s ++ drop (4 * n) buffer))) ≡ used / 4 = omega arith in
          let back : 4 * (used / 4) ≡ used = omega arith in
          ap (λ (k : ℕ). take k (entries b)) at
          ∙ sym (entries_take (used / 4) b)
          ∙ ap (λ (k : ℕ). entries (take k b)) back
          ∙ ap entries (front_of used (used + 4 * n) index (omega arith))
        where
          front_of : (j k : ℕ) (l : List ℕ) → j ≤ k → take j (take k l) ≡ take j l
          front_of zero k l h = refl
          front_of (suc j) zero l h = absurd (omega arith)
          front_of (suc j) (suc k) [] h = refl
          front_of (suc j) (suc k) (x ∷ l) h = ap (λ (m : List ℕ). x ∷ m) (front_of j k l (omega arith))

      pub old_rises : Rising (old_entries (take (used + 4 * n) index) (entries (take (4 * n) (s ++ drop (4 * n) buffer))))
      old_rises = subst Rising (sym old) (strict_weak (entries (take used index)) (index_true (take used index) i).1)

      pub all_merged : (b : List ℕ)
          → b ≡ entry_bytes (sorted (old_entries (take (used + 4 * n) index) (entries (take (4 * n) (s ++ drop (4 * n) buffer))) ++ entries (take (4 * n) (s ++ drop (4 * n) buffer))))
          → b ++ drop (used + 4 * n) index ≡ entry_bytes (sorted (entries (take used index) ++ es)) ++ drop (used + 4 * n) index
      all_merged b f =
          ap (λ (l : List ℕ). l ++ drop (used + 4 * n) index)
          (f ∙ ap₂ (λ (x y : List ℕ). entry_bytes (sorted (x ++ y))) old new_entries ∙ ap entry_bytes (sorted_first (entries (take used index)) es))
