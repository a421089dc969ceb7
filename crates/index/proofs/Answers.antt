-- What make answers, by its tests in their order, and the index that it leaves. Assumes nothing.
use Prim.Native.Nat.{ℕ, suc, ◌*◌, ◌<◌, ◌≤◌}
use mathlib.Core.Path.{◌≡◌, refl, sym, ap, ap₂, ◌∙◌}
use mathlib.Core.Bool.{Bool, true, false, cond, ◌&&◌}
use mathlib.Core.List.{List, [], ◌∷◌, ◌++◌, append-nil}
use native.Mathlib.Omega.{arith}
use borrow.Author.Tests.{le-leb, lt-leb}
use lib.Dec.{ltb, leb}
use lib.ListN.{length, take, drop, length-map, drop_of_length-le}
use lib.Seq.{take_at, drop_at, length-take-le}
use Rattle.plate.specs.Read.{accepted}
use Rattle.ward.specs.Ward.{names}
use Rattle.laws.specs.Sort.{insert, sorted}
use Rattle.entries.specs.Entries.{entries, entry_bytes, most_records}
use Rattle.entries.proofs.Bytes.{entries_bytes, length_bytes}
use Rattle.laws.proofs.Rising.{distinct_rising}
use Rattle.index.specs.Index.{Indexed, unmade, made, fits, refusal_of, entries_from, index_of, report_of, make_answer}
use Rattle.index.proofs.Entries.{all_distinct}

-- ---- as many in rising order

insert_length : (x : ℕ) (l : List ℕ) → length (insert x l) ≡ suc (length l)
insert_length x [] = refl
insert_length x (y ∷ l) = go (ltb y x) (insert_length x l)
  where
    go : (t : Bool) → length (insert x l) ≡ suc (length l) → length (cond t (y ∷ insert x l) (x ∷ y ∷ l)) ≡ suc (suc (length l))
    go true e = ap suc e
    go false e = refl

sorted_length : (l : List ℕ) → length (sorted l) ≡ length l
sorted_length [] = refl
sorted_length (x ∷ l) = insert_length x (sorted l) ∙ ap suc (sorted_length l)

module _ (plate : List ℕ) (a : accepted plate ≡ true) (ns : List (List ℕ)) (few : length ns ≤ most_records) where
  all_sorted : index_of plate ns ≡ sorted (entries_from plate 0 ns)
  all_sorted = distinct_rising (entries_from plate 0 ns) (all_distinct plate a 0 ns (omega arith))

  pub index_count : length (index_of plate ns) ≡ length (entries_from plate 0 ns)
  index_count = ap length all_sorted ∙ sorted_length (entries_from plate 0 ns)

  -- The entries were put and then sorted, into a front that has just their length.
  pub index_left : (index part bytes : List ℕ) (used : ℕ) → used ≡ 4 * length (entries_from plate 0 ns) → used ≤ length index
      → part ≡ entry_bytes (entries_from plate 0 ns) ++ drop (length (entry_bytes (entries_from plate 0 ns))) (take used index)
      → bytes ≡ entry_bytes (sorted (entries (take used (part ++ drop used index))))
      → bytes ++ drop used (part ++ drop used index) ≡ entry_bytes (index_of plate ns) ++ drop (4 * length (index_of plate ns)) index
  index_left index part bytes used e h p s =
      let es = entries_from plate 0 ns in
      let n = length_bytes es in
      let m = length-take-le used index h in
      let none : drop (length (entry_bytes es)) (take used index) ≡ [] = drop_of_length-le (take used index) {i = length (entry_bytes es)} (omega arith) in
      let is : part ≡ entry_bytes es = p ∙ ap (λ (l : List ℕ). entry_bytes es ++ l) none ∙ append-nil (entry_bytes es) in
      let long : length part ≡ used = ap length is ∙ omega arith in
      let front : take used (part ++ drop used index) ≡ entry_bytes es = take_at part (drop used index) used long ∙ is in
      let c = index_count in
      ap₂ ◌++◌ (s ∙ ap (λ (l : List ℕ). entry_bytes (sorted (entries l))) front ∙ ap (λ (l : List ℕ). entry_bytes (sorted l)) (entries_bytes es) ∙ ap entry_bytes (sym all_sorted))
      (drop_at part (drop used index) used long ∙ ap (λ (k : ℕ). drop k index) {x = used} {y = 4 * length (index_of plate ns)} (omega arith))

-- ---- the answer

module _ (plate bytes index report : List ℕ) where
  abbrev all : List ℕ
  all = index_of plate (names bytes)

  abbrev notes : List ℕ
  notes = report_of plate (names bytes)

  -- `makeAnswer`, by the outcomes of its tests
  abbrev judged : Bool → Bool → Indexed
  judged plated fit = cond plated (cond fit (made all notes index report) (unmade 18 index report)) (unmade 10 index report)

  pub no_plate : accepted plate ≡ false → unmade 10 index report ≡ make_answer plate bytes index report
  unfolding make_answer
  no_plate a = ap (λ (t : Bool). judged t (fits all notes index report)) (sym a)

  notes_count : length notes ≡ length (names bytes)
  notes_count = length-map (names bytes) (refusal_of plate)

  module _ (a : accepted plate ≡ true) where
    by_fit : (t : Bool) → fits all notes index report ≡ t → judged true t ≡ make_answer plate bytes index report
    unfolding make_answer
    by_fit t f = ap₂ (λ (x y : Bool). judged x y) (sym a) (sym f)

    pub many_names : most_records < length (names bytes) → unmade 18 index report ≡ make_answer plate bytes index report
    many_names h =
        let n = notes_count in
        by_fit false (ap (λ (t : Bool). t && (leb (4 * length all) (length index) && leb (length notes) (length report))) (lt-leb (length notes) most_records (omega arith)))

    module _ (few : length (names bytes) ≤ most_records) where
      within : leb (length notes) most_records ≡ true
      within = let n = notes_count in le-leb (length notes) most_records (omega arith)

      three : (t u : Bool) → leb (4 * length all) (length index) ≡ t → leb (length notes) (length report) ≡ u → fits all notes index report ≡ t && u
      three t u e f = ap₂ (λ (x y : Bool). x && y) within (ap₂ (λ (x y : Bool). x && y) e f)

      none_fits : (t : Bool) → t && false ≡ false
      none_fits true = refl
      none_fits false = refl

      pub short_report : length report < length (names bytes) → unmade 18 index report ≡ make_answer plate bytes index report
      short_report h =
          let n = notes_count in
          by_fit false (three (leb (4 * length all) (length index)) false refl (lt-leb (length notes) (length report) (omega arith)) ∙ none_fits (leb (4 * length all) (length index)))

      pub short_index : length index < 4 * length (entries_from plate 0 (names bytes)) → unmade 18 index report ≡ make_answer plate bytes index report
      short_index h =
          let c = index_count plate a (names bytes) few in
          by_fit false (three false (leb (length notes) (length report)) (lt-leb (4 * length all) (length index) (omega arith)) refl)

      pub all_made : (used n : ℕ) (index' report' : List ℕ) → used ≡ 4 * length (entries_from plate 0 (names bytes)) → n ≡ length (names bytes) → used ≤ length index → n ≤ length report
          → index' ≡ entry_bytes all ++ drop (4 * length all) index → report' ≡ notes ++ drop (length (names bytes)) report
          → record { number = 0; index_length = used; report_length = n; index = index'; report = report' } ≡ make_answer plate bytes index report
      all_made used n index' report' e f h g p q =
          let c = index_count plate a (names bytes) few in
          let l = notes_count in
          let long : used ≡ 4 * length all = omega arith in
          let noted : n ≡ length notes = omega arith in
          let behind : report' ≡ notes ++ drop (length notes) report = q ∙ ap (λ (m : ℕ). notes ++ drop m report) (sym l) in
          (λ i. record { number = 0; index_length = long i; report_length = noted i; index = p i; report = behind i })
          ∙ by_fit true (three true true (le-leb (4 * length all) (length index) (omega arith)) (le-leb (length notes) (length report) (omega arith)))
