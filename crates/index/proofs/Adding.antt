-- What add answers, by its tests in their order. Assumes nothing.
use Prim.Native.Nat.{ℕ, suc, ◌+◌, ◌-◌, ◌*◌, ◌<◌, ◌≤◌}
use mathlib.Core.Path.{◌≡◌, refl, sym, ap, ap₂, ◌∙◌}
use mathlib.Core.Bool.{Bool, true, false, cond, ◌&&◌}
use mathlib.Core.List.{List, [], ◌∷◌, ◌++◌, map, append_assoc}
use native.Mathlib.Omega.{arith}
use borrow.Author.Tests.{leb-true, le-leb, lt-leb, ltb-true}
use lib.Dec.{leb}
use lib.ListN.{length, take, drop, set, length-append}
use lib.Seq.{set_split, length-take-le}
use Rattle.laws.specs.Lists.{every}
use Rattle.laws.specs.Arrays.{Each}
use Rattle.laws.proofs.Tests.{and_true, both_true, and_left_false, and_right_false}
use Rattle.plate.specs.Read.{accepted}
use Rattle.laws.specs.Sort.{sorted, rising}
use Rattle.entries.specs.Entries.{entries, entry_bytes, most_records, record_in, is_index, record_below}
use Rattle.entries.proofs.Bytes.{length_entries}
use Rattle.entries.proofs.Index.{index_true}
use Rattle.index.specs.Index.{Indexed, unmade, made, fits, good_index, add_answer, codes_from, code_number, codes_in, refusal_of, entry_of, entries_of}
use Rattle.index.specs.Held.{count_in, refusal_in, place_in, ListedIs}
use Rattle.std.specs.Prelude.{Result}
use Rattle.coder.specs.declared.CodeError.{CodeError}
use Rattle.index.proofs.Entries.{name_count, name_distinct, of_record}
use Rattle.index.proofs.Finding.{listed_codes}
use Rattle.index.proofs.Added.{length_sorted, rising_added}

-- ---- is what is used an index with its report?

module _ (index : List ℕ) (used : ℕ) (report : List ℕ) (noted : ℕ) where
  -- the test's parts behind the lengths, and behind the first
  abbrev last : Bool
  last = is_index (take used index) && every (record_below noted) (entries (take used index))

  abbrev behind : Bool
  behind = leb noted (length report) && last

  pub long_index : length index < used → false ≡ good_index index used report noted
  long_index h = sym (and_left_false (leb used (length index)) behind (lt-leb used (length index) h))

  pub long_report : length report < noted → false ≡ good_index index used report noted
  long_report h = sym (and_right_false (leb used (length index)) behind (and_left_false (leb noted (length report)) last (lt-leb noted (length report) h)))

  module _ (h : used ≤ length index) (g : noted ≤ length report) where
    both : good_index index used report noted ≡ last
    both = ap₂ (λ (t u : Bool). t && (u && last)) (le-leb used (length index) h) (le-leb noted (length report) g)

    pub no_index : is_index (take used index) ≡ false → false ≡ good_index index used report noted
    no_index e = sym (both ∙ and_left_false (is_index (take used index)) (every (record_below noted) (entries (take used index))) e)

    pub is_good : is_index (take used index) ≡ true → every (record_below noted) (entries (take used index)) ≡ good_index index used report noted
    is_good e = sym (both ∙ ap (λ (t : Bool). t && every (record_below noted) (entries (take used index))) e)

  -- What it says.
  pub record Good : Type 0 where
    pub within : used ≤ length index
    pub reported : noted ≤ length report
    pub ordered : is_index (take used index) ≡ true
    pub numbered : every (record_below noted) (entries (take used index)) ≡ true

  pub good_true : good_index index used report noted ≡ true → Good
  good_true e =
      let a = and_true (leb used (length index)) behind e in
      let b = and_true (leb noted (length report)) last a.1 in
      let c = and_true (is_index (take used index)) (every (record_below noted) (entries (take used index))) b.1 in
      record { within = leb-true used (length index) a.0; reported = leb-true noted (length report) b.0; ordered = c.0; numbered = c.1 }

below_all : (k : ℕ) (l : List ℕ) → every (record_below k) l ≡ true → Each (λ (x : ℕ). record_in x < k) l
below_all k [] e = tt
below_all k (x ∷ l) e = let a = and_true (record_below k x) (every (record_below k) l) e in (ltb-true (record_in x) k a.0, below_all k l a.1)

-- ---- the answer

module _ (plate name index : List ℕ) (used : ℕ) (report : List ℕ) (noted : ℕ) where
  -- the entries that stand, and all with the name's; the report with its byte
  abbrev olds : List ℕ
  olds = entries (take used index)

  abbrev all : List ℕ
  all = rising (olds ++ entries_of plate noted name)

  abbrev notes : List ℕ
  notes = take noted report ++ (refusal_of plate name ∷ [])

  -- `addAnswer`, by the outcomes of its tests
  abbrev judged : Bool → Bool → Bool → Indexed
  judged plated good fit = cond plated (cond good (cond fit (made all notes index report) (unmade 18 index report)) (unmade 18 index report)) (unmade 10 index report)

  pub no_plate : accepted plate ≡ false → unmade 10 index report ≡ add_answer plate name index used report noted
  unfolding add_answer
  no_plate a = ap (λ (t : Bool). judged t (good_index index used report noted) (fits all notes index report)) (sym a)

  module _ (a : accepted plate ≡ true) where
    by_tests : (good fit : Bool) → good_index index used report noted ≡ good → fits all notes index report ≡ fit → judged true good fit ≡ add_answer plate name index used report noted
    unfolding add_answer
    by_tests good fit e f =
        ap (λ (t : Bool). judged t good fit) (sym a) ∙ ap₂ (λ (t u : Bool). judged (accepted plate) t u) (sym e) (sym f)

    pub not_good : good_index index used report noted ≡ false → unmade 18 index report ≡ add_answer plate name index used report noted
    not_good e = by_tests false (fits all notes index report) e refl

    notes_long : noted ≤ length report → length notes ≡ noted + 1
    notes_long h = length-append (take noted report) (refusal_of plate name ∷ []) ∙ ap (λ (k : ℕ). k + 1) (length-take-le noted report h)

    -- A name too many, whatever else is wrong.
    pub many : most_records ≤ noted → unmade 18 index report ≡ add_answer plate name index used report noted
    many h = go (good_index index used report noted) refl
      where
        go : (t : Bool) → good_index index used report noted ≡ t → unmade 18 index report ≡ add_answer plate name index used report noted
        go true e =
            let n = notes_long (good_true index used report noted e).reported in
            by_tests true false e
            (and_left_false (leb (length notes) most_records) (leb (4 * length all) (length index) && leb (length notes) (length report)) (lt-leb (length notes) most_records (omega arith)))
        go false e = not_good e

    module _ (e : good_index index used report noted ≡ true) (h : noted < most_records) where
      good : Good index used report noted
      good = good_true index used report noted e

      pub no_note : length report ≤ noted → unmade 18 index report ≡ add_answer plate name index used report noted
      no_note g =
          let n = notes_long good.reported in
          by_tests true false e
          (and_right_false (leb (length notes) most_records) (leb (4 * length all) (length index) && leb (length notes) (length report))
          (and_right_false (leb (4 * length all) (length index)) (leb (length notes) (length report)) (lt-leb (length notes) (length report) (omega arith))))

      -- No entry stands twice.
      all_sorted : all ≡ sorted (olds ++ entries_of plate noted name)
      all_sorted =
          rising_added olds (entries_of plate noted name) noted (index_true (take used index) good.ordered).1 (name_distinct plate a noted name) (below_all noted olds good.numbered)
          (of_record noted h (codes_in plate name))

      module _ (line : List ℕ) (r : Result ℕ CodeError) (l : ListedIs plate name line r) where
        all_long : 4 * length all ≡ used + 4 * (count_in r)
        all_long =
            let n = ap length all_sorted ∙ length_sorted (olds ++ entries_of plate noted name) ∙ length-append olds (entries_of plate noted name) in
            let m = name_count plate noted name in
            let k = length_entries (take used index) in
            let i = length-take-le used index good.within in
            let w = (index_true (take used index) good.ordered).0 in
            let c = l.counted in
            omega arith

        pub no_room : length index - used < 4 * (count_in r) → unmade 18 index report ≡ add_answer plate name index used report noted
        no_room g =
            let n = all_long in
            let w = good.within in
            by_tests true false e
            (and_right_false (leb (length notes) most_records) (leb (4 * length all) (length index) && leb (length notes) (length report))
            (and_left_false (leb (4 * length all) (length index)) (leb (length notes) (length report)) (lt-leb (4 * length all) (length index) (omega arith))))

        module _ (g : noted < length report) (room : 4 * (count_in r) ≤ length index - used) where
          pub room_for : used + 4 * (count_in r) ≤ length index
          room_for = let w = good.within in omega arith

          fit : fits all notes index report ≡ true
          fit =
              let n = notes_long good.reported in
              let m = all_long in
              let w = room_for in
              both_true (le-leb (length notes) most_records (omega arith)) (both_true (le-leb (4 * length all) (length index) (omega arith)) (le-leb (length notes) (length report) (omega arith)))

          noted_set : set report noted (refusal_in r) ≡ notes ++ drop (length notes) report
          noted_set =
              let n : suc noted ≡ length notes = sym (notes_long good.reported ∙ omega arith) in
              set_split report noted (refusal_in r) g
              ∙ ap₂ (λ (b k : ℕ). take noted report ++ (b ∷ drop k report)) l.refused n
              ∙ sym (append_assoc (take noted report) (refusal_of plate name ∷ []) (drop (length notes) report))

          pub all_added : (out : List ℕ)
              → out ≡ entry_bytes (sorted (olds ++ map (entry_of noted) (map code_number (codes_from (count_in r) line)))) ++ drop (used + 4 * (count_in r)) index
              → record { number = 0; index_length = used + 4 * (count_in r); report_length = noted + 1; index = out; report = set report noted (refusal_in r) }
              ≡ add_answer plate name index used report noted
          all_added out q =
              let same : out ≡ entry_bytes all ++ drop (4 * length all) index =
              q
              ∙ ap (λ (cs : List ℕ). entry_bytes (sorted (olds ++ map (entry_of noted) cs)) ++ drop (used + 4 * (count_in r)) index) (listed_codes plate name line (count_in r) (refusal_in r) (place_in r) l)
              ∙ ap₂ (λ (es : List ℕ) (k : ℕ). entry_bytes es ++ drop k index) (sym all_sorted) (sym all_long) in
              (λ j. record { number = 0; index_length = sym all_long j; report_length = sym (notes_long good.reported) j; index = same j; report = noted_set j })
              ∙ by_tests true true e fit
