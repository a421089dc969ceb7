-- The records that are marked: counted and written one behind the other; where none was marked before, they are the records of the codes. Assumes nothing.
use Prim.Native.Nat.{ℕ, zero, suc, ◌+◌, ◌*◌, ◌≤◌, ◌<◌}
use mathlib.Core.Path.{◌≡◌, refl, sym, ap, subst, ◌∙◌}
use mathlib.Core.Logic.{◌⊎◌, inl, inr}
use mathlib.Core.Bool.{Bool, true, false, cond, ◌||◌, false≢true}
use mathlib.Core.List.{List, [], ◌∷◌, ◌++◌, map, append_assoc, append-nil}
use native.Mathlib.Numerals.{add-one}
use native.Mathlib.Omega.{arith}
use borrow.Author.Tests.{eq-eqb, eqb-true}
use lib.Dec.{eqb}
use lib.ListN.{length, take, drop, get_or, replicate, length-replicate, get_or-replicate, drop_of_length-le}
use lib.Seq.{drop-cons}
use Rattle.std.specs.List.{filter}
use Rattle.laws.specs.Arrays.{Each}
use Rattle.laws.specs.Lists.{In, some, keep, cat}
use Rattle.laws.proofs.Members.{map_in}
use Rattle.laws.proofs.Tests.{or_true}
use Rattle.laws.specs.Sort.{Sorted}
use Rattle.entries.specs.Entries.{most_records, record_in}
use Rattle.laws.proofs.Holds.{each_all}
use Rattle.laws.proofs.Rising.{only_rising}
use Rattle.index.specs.Find.{shares, records_of, two_bytes}
use Rattle.index.specs.Held.{Marks, marked}
use Rattle.ward.specs.Puts.{Puts}
use Rattle.index.proofs.Marks.{has}
use Rattle.ward.proofs.Putting.{as_long, puts_more}

-- ---- the next place

module _ (marks : List Bool) (i : ℕ) where
  marked_at : i < length marks → (t : Bool) → get_or marks i false ≡ t
      → marked i (drop i marks) ≡ cond t (i ∷ marked (i + 1) (drop (i + 1) marks)) (marked (i + 1) (drop (i + 1) marks))
  marked_at h t e =
      ap (marked i) (drop-cons marks i false h)
      ∙ ap (λ (b : Bool). cond b (i ∷ marked (suc i) (drop (suc i) marks)) (marked (suc i) (drop (suc i) marks))) e
      ∙ ap (λ (k : ℕ). cond t (i ∷ marked k (drop k marks)) (marked k (drop k marks))) (sym (add-one i))

  pub marked_end : length marks ≤ i → marked i (drop i marks) ≡ []
  marked_end h = ap (marked i) (drop_of_length-le marks h)

  pub marked_skip : i < length marks → get_or marks i false ≡ false → marked i (drop i marks) ≡ marked (i + 1) (drop (i + 1) marks)
  marked_skip h e = marked_at h false e

  pub marked_take : i < length marks → get_or marks i false ≡ true → marked i (drop i marks) ≡ i ∷ marked (i + 1) (drop (i + 1) marks)
  marked_take h e = marked_at h true e

-- There are as many as marks that are set.
pub how_many : (k : ℕ) (marks : List Bool) → length (marked k marks) ≡ length (filter (λ (t : Bool). t) marks)
how_many k [] = refl
how_many k (true ∷ marks) = ap suc (how_many (suc k) marks)
how_many k (false ∷ marks) = how_many (suc k) marks

-- ---- written, two bytes each

-- The marks before place i are written, and for the others there is room.
pub record Written (marks : List Bool) (lent : List ℕ) (i to : ℕ) (out : List ℕ) : Type 0 where
  pub bytes : List ℕ
  pub room : to + 2 * length (marked i (drop i marks)) ≤ length lent
  pub puts : Puts bytes to lent out
  pub all : bytes ++ cat two_bytes (marked i (drop i marks)) ≡ cat two_bytes (marked 0 marks)

pub none_written : (marks : List Bool) (lent : List ℕ) → 2 * length (marked 0 marks) ≤ length lent → Written marks lent 0 0 lent
none_written marks lent h = record { bytes = []; room = omega arith; puts = record { count = refl; is = refl }; all = refl }

module _ (marks : List Bool) (lent : List ℕ) (i to : ℕ) (out : List ℕ) (w : Written marks lent i to out) where
  pub written_long : length out ≡ length lent
  written_long = let r = w.room in as_long w.bytes to lent out w.puts (omega arith)

  pub written_skip : i < length marks → get_or marks i false ≡ false → Written marks lent (i + 1) to out
  written_skip h e =
      let f = marked_skip marks i h e in
      record {
        bytes = w.bytes;
        room = subst (λ (l : List ℕ). to + 2 * length l ≤ length lent) f w.room;
        puts = w.puts;
        all = ap (λ (l : List ℕ). w.bytes ++ cat two_bytes l) (sym f) ∙ w.all;
      }

  module _ (h : i < length marks) (e : get_or marks i false ≡ true) where
    pub written_room : to + 2 ≤ length lent
    written_room = let r = w.room in let n = ap length (marked_take marks i h e) in omega arith

    pub written_take : (n : ℕ) (two : List ℕ) → n ≡ 2 → two ≡ two_bytes i → Written marks lent (i + 1) (to + 2) (take to out ++ (two ++ drop n (drop to out)))
    written_take n two k same =
        let f = marked_take marks i h e in
        let r = w.room in
        let m = ap length f in
        let more : List ℕ = marked (i + 1) (drop (i + 1) marks) in
        record {
          bytes = w.bytes ++ two_bytes i;
          room = omega arith;
          puts =
              subst (λ (q : ℕ). Puts (w.bytes ++ two_bytes i) (to + q) lent (take to out ++ (two ++ drop n (drop to out)))) k
              (puts_more w.bytes (two_bytes i) to n lent out two w.puts k same);
          all = append_assoc w.bytes (two_bytes i) (cat two_bytes more) ∙ ap (λ (l : List ℕ). w.bytes ++ cat two_bytes l) (sym f) ∙ w.all;
        }

  pub all_written : length marks ≤ i → Puts (cat two_bytes (marked 0 marks)) to lent out
  all_written h =
      subst (λ (l : List ℕ). Puts l to lent out)
      (sym (append-nil w.bytes) ∙ ap (λ (l : List ℕ). w.bytes ++ cat two_bytes l) (sym (marked_end marks i h)) ∙ w.all) w.puts

pub length_two : (rs : List ℕ) → length (cat two_bytes rs) ≡ 2 * length rs
length_two [] = refl
length_two (r ∷ rs) = omega (arith, length_two rs)

-- ---- which they are

marked_from : (k : ℕ) (marks : List Bool) → Each (λ (x : ℕ). k ≤ x) (marked k marks)
marked_from k [] = tt
marked_from k (m ∷ marks) =
    go m (each_all (λ (x : ℕ). suc k ≤ x) (λ (x : ℕ). k ≤ x) (marked (suc k) marks) (λ x h. omega arith) (marked_from (suc k) marks))
  where
    go : (t : Bool) → Each (λ (x : ℕ). k ≤ x) (marked (suc k) marks) → Each (λ (x : ℕ). k ≤ x) (cond t (k ∷ marked (suc k) marks) (marked (suc k) marks))
    go true f = (omega arith, f)
    go false f = f

marked_strict : (k : ℕ) (marks : List Bool) → Sorted ◌<◌ (marked k marks)
marked_strict k [] = tt
marked_strict k (m ∷ marks) = go m (marked_from (suc k) marks) (marked_strict (suc k) marks)
  where
    go : (t : Bool) → Each (λ (x : ℕ). suc k ≤ x) (marked (suc k) marks) → Sorted ◌<◌ (marked (suc k) marks) → Sorted ◌<◌ (cond t (k ∷ marked (suc k) marks) (marked (suc k) marks))
    go true f s = (each_all (λ (x : ℕ). suc k ≤ x) (λ (x : ℕ). k < x) (marked (suc k) marks) (λ x h. omega arith) f, s)
    go false f s = s

-- the place x - k is marked
in_marked : (k : ℕ) (marks : List Bool) (j : ℕ) → j < length marks → get_or marks j false ≡ true → In (k + j) (marked k marks)
in_marked k [] j h e = absurd (omega arith)
in_marked k (true ∷ marks) zero h e = inl (omega arith)
in_marked k (false ∷ marks) zero h e = absurd (false≢true e)
in_marked k (m ∷ marks) (suc j) h e =
    let at : suc k + j ≡ k + suc j = omega arith in
    go m (subst (λ (x : ℕ). In x (marked (suc k) marks)) at (in_marked (suc k) marks j (omega arith) e))
  where
    go : (t : Bool) → In (k + suc j) (marked (suc k) marks) → In (k + suc j) (cond t (k ∷ marked (suc k) marks) (marked (suc k) marks))
    go true i = inr i
    go false i = i

marked_in : (k : ℕ) (marks : List Bool) (x : ℕ) → In x (marked k marks) → (j : ℕ) × (x ≡ k + j) × (j < length marks) × (get_or marks j false ≡ true)
marked_in k [] x i = absurd i
marked_in k (m ∷ marks) x i = go m refl i (marked_in (suc k) marks x)
  where
    later : (j : ℕ) × (x ≡ suc k + j) × (j < length marks) × (get_or marks j false ≡ true) → (j : ℕ) × (x ≡ k + j) × (j < suc (length marks)) × (get_or (m ∷ marks) j false ≡ true)
    later r = (suc r.0, omega (arith, r.1), omega (arith, r.2), r.3)

    go : (t : Bool) → m ≡ t → In x (cond t (k ∷ marked (suc k) marks) (marked (suc k) marks))
        → (In x (marked (suc k) marks) → (j : ℕ) × (x ≡ suc k + j) × (j < length marks) × (get_or marks j false ≡ true))
        → (j : ℕ) × (x ≡ k + j) × (j < suc (length marks)) × (get_or (m ∷ marks) j false ≡ true)
    go true q (inl e) f = (0, omega arith, omega arith, q)
    go true q (inr w) f = later (f w)
    go false q w f = later (f w)

pub some_in : (k : ℕ) (l : List ℕ) → some (eqb k) l ≡ true → In k l
some_in k [] e = absurd (false≢true e)
some_in k (x ∷ l) e = go (or_true (eqb k x) (some (eqb k) l) e) (some_in k l)
  where
    go : (eqb k x ≡ true) ⊎ (some (eqb k) l ≡ true) → (some (eqb k) l ≡ true → In k l) → (k ≡ x) ⊎ In k l
    go (inl t) f = inl (eqb-true k x t)
    go (inr t) f = inr (f t)

in_some : (k : ℕ) (l : List ℕ) → In k l → some (eqb k) l ≡ true
in_some k [] i = absurd i
in_some k (x ∷ l) (inl e) = ap (λ (t : Bool). t || some (eqb k) l) (eq-eqb k x e)
in_some k (x ∷ l) (inr i) = go (eqb k x) (in_some k l i)
  where
    go : (t : Bool) → some (eqb k) l ≡ true → t || some (eqb k) l ≡ true
    go true e = refl
    go false e = e

-- the records of the codes' entries, as they come
abbrev sharing : List ℕ → List ℕ → List ℕ
sharing codes es = map record_in (keep (shares codes) es)

-- Where none was marked before, the marks are the records of the codes.
pub marked_records : (es codes : List ℕ) (marks : List Bool) → Marks es codes (replicate most_records false) marks → marked 0 marks ≡ records_of codes es
marked_records es codes marks p = only_rising (sharing codes es) (marked 0 marks) (marked_strict 0 marks) there back
  where
    n : length (replicate {A = Bool} most_records false) ≡ most_records
    n = length-replicate {A = Bool} most_records false

    at : (k : ℕ) → k < most_records → get_or marks k false ≡ has codes es k
    at k h =
        p.is k (subst (λ (m : ℕ). k < m) (sym n) h) ∙ ap (λ (m : Bool). cond (has codes es k) true m) (get_or-replicate most_records k false false h)
        ∙ itself (has codes es k)
      where
        itself : (t : Bool) → cond t true false ≡ t
        itself true = refl
        itself false = refl

    there : (x : ℕ) → In x (marked 0 marks) → In x (sharing codes es)
    there x i =
        let r = marked_in 0 marks x i in
        let same : x ≡ r.0 = omega (arith, r.1) in
        let small : r.0 < most_records = omega (arith, r.2, p.long, n) in
        some_in x (sharing codes es) (subst (λ (k : ℕ). has codes es k ≡ true) (sym same) (sym (at r.0 small) ∙ r.3))

    back : (x : ℕ) → In x (sharing codes es) → In x (marked 0 marks)
    back x i =
        let m = map_in record_in x (keep (shares codes) es) i in
        let small : x < most_records = omega (arith, m.2) in
        subst (λ (k : ℕ). In k (marked 0 marks)) {x = 0 + x} {y = x} (omega arith)
        (in_marked 0 marks x (omega (arith, p.long, n)) (at x small ∙ in_some x (sharing codes es) i))
