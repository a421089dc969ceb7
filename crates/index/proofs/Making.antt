-- Index and report of many names: what is counted, and what stands, of the names before a place. Assumes nothing.
use Prim.Native.Nat.{ℕ, ◌+◌, ◌-◌, ◌*◌, ◌<◌, ◌≤◌}
use mathlib.Core.Path.{◌≡◌, refl, sym, ap, subst, ◌∙◌}
use mathlib.Core.List.{List, [], ◌∷◌, ◌++◌, map, append_assoc, append-nil}
use native.Mathlib.Omega.{arith}
use native.Mathlib.Numerals.{add-one}
use lib.ListN.{length, take, drop, set, length-append, length-map}
use Rattle.ward.specs.Puts.{Puts}
use Rattle.ward.proofs.Putting.{as_long, puts_byte, puts_part}
use Rattle.entries.specs.Entries.{entry_bytes}
use Rattle.entries.proofs.Bytes.{length_bytes}
use Rattle.index.specs.Index.{full_list, codes_from, code_number, refusal_of, entry_of, entries_of, entries_from, report_of}
use Rattle.index.specs.Held.{count_in, refusal_in, ListedIs, PutsAll}
use Rattle.std.specs.Prelude.{Result}
use Rattle.coder.specs.declared.CodeError.{CodeError}
use Rattle.index.proofs.Entries.{codes_of_all, all_count, bytes_append}
use Rattle.index.proofs.Filling.{line_entries}

-- ---- counted

pub counted_next : (plate : List ℕ) (left more : List (List ℕ)) (n total c : ℕ) (name : List ℕ) → left ≡ name ∷ more → n + codes_of_all plate left ≡ total
    → c ≡ (full_list plate name).count → n + c + codes_of_all plate more ≡ total
counted_next plate left more n total c name e h g = let k = ap (codes_of_all plate) e in omega arith

pub counted_all : (plate : List ℕ) (all left : List (List ℕ)) (n : ℕ) → left ≡ [] → n + codes_of_all plate left ≡ codes_of_all plate all → n ≡ length (entries_from plate 0 all)
counted_all plate all left n e h = let k = ap (codes_of_all plate) e in let m = all_count plate 0 all in omega arith

-- ---- put

-- The names before those that are left have their entries in front of the index and their numbers in front of the report; k is the number of the next.
pub record Made (plate : List ℕ) (ns left : List (List ℕ)) (lentIndex lentReport : List ℕ) (k to : ℕ) (index report : List ℕ) : Type 0 where
  pub done : List ℕ
  pub notes : List ℕ
  pub entered : Puts (entry_bytes done) to lentIndex index
  pub reported : Puts notes k lentReport report
  pub all : done ++ entries_from plate k left ≡ entries_from plate 0 ns
  pub noted : notes ++ report_of plate left ≡ report_of plate ns

-- The entries of a name's line are the name's.
name_entries : (plate name line : List ℕ) (k : ℕ) (r : Result ℕ CodeError) → ListedIs plate name line r → line_entries line (count_in r) k ≡ entries_of plate k name
name_entries plate name line k r l =
    ap (λ (cs : List (List ℕ)). map (entry_of k) (map code_number cs)) (l.codes ∙ ap (λ (n : ℕ). codes_from n (full_list plate name).buffer) l.counted)

module _ (plate : List ℕ) (ns : List (List ℕ)) (lentIndex lentReport : List ℕ) where
  pub none_made : (left : List (List ℕ)) → left ≡ ns → Made plate ns left lentIndex lentReport 0 0 lentIndex lentReport
  none_made left e = rw e (record { done = []; notes = []; entered = record { count = refl; is = refl }; reported = record { count = refl; is = refl }; all = refl; noted = refl })

  module _ (left : List (List ℕ)) (k to : ℕ) (index report : List ℕ) (m : Made plate ns left lentIndex lentReport k to index report) where
    -- There is room for the entries of the names that are left.
    pub room_left : 4 * length (entries_from plate 0 ns) ≤ length lentIndex → to + 4 * codes_of_all plate left ≤ length lentIndex
    room_left h =
        let e = m.entered.count in
        let n = length_bytes m.done in
        let a = ap length m.all in
        let b = length-append m.done (entries_from plate k left) in
        let c = all_count plate k left in
        omega arith

    pub index_long : 4 * length (entries_from plate 0 ns) ≤ length lentIndex → length index ≡ length lentIndex
    index_long h = let r = room_left h in as_long (entry_bytes m.done) to lentIndex index m.entered (omega arith)

    pub numbered : k + length left ≡ length ns
    numbered =
        let e = m.reported.count in
        let a = ap length m.noted in
        let b = length-append m.notes (report_of plate left) in
        let c = length-map left (refusal_of plate) in
        let d = length-map ns (refusal_of plate) in
        omega arith

    pub report_long : length ns ≤ length lentReport → length report ≡ length lentReport
    report_long h = let n = numbered in as_long m.notes k lentReport report m.reported (omega arith)

    -- The next name.
    pub next_made : (name : List ℕ) (more : List (List ℕ)) → left ≡ name ∷ more → k < length lentReport → (line : List ℕ) (r : Result ℕ CodeError) → ListedIs plate name line r
        → (n : ℕ) (ys : List ℕ) → Puts (entry_bytes (line_entries line (count_in r) k)) n (take (length index - to) (drop to index)) ys
        → Made plate ns more lentIndex lentReport (k + 1) (to + n) (take to index ++ (ys ++ drop (length index - to) (drop to index))) (set report k (refusal_in r))
    next_made name more e h line r l n ys p =
        let es = entries_of plate k name in
        let is = name_entries plate name line k r l in
        record {
          done = m.done ++ es;
          notes = m.notes ++ ((refusal_in r) ∷ []);
          entered =
              subst (λ (b : List ℕ). Puts b (to + n) lentIndex (take to index ++ (ys ++ drop (length index - to) (drop to index)))) (sym (bytes_append m.done es))
              (puts_part (entry_bytes m.done) (entry_bytes es) to n lentIndex index ys m.entered
              (subst (λ (x : List ℕ). Puts (entry_bytes x) n (take (length index - to) (drop to index)) ys) is p));
          reported = puts_byte m.notes k lentReport report (refusal_in r) m.reported h;
          all =
              append_assoc m.done es (entries_from plate (k + 1) more)
              ∙ ap (λ (j : ℕ). m.done ++ (es ++ entries_from plate j more)) (add-one k)
              ∙ ap (λ (l : List (List ℕ)). m.done ++ entries_from plate k l) (sym e)
              ∙ m.all;
          noted =
              append_assoc m.notes ((refusal_in r) ∷ []) (report_of plate more)
              ∙ ap (λ (b : ℕ). m.notes ++ (b ∷ report_of plate more)) l.refused
              ∙ ap (λ (l : List (List ℕ)). m.notes ++ report_of plate l) (sym e)
              ∙ m.noted;
        }

    -- All names.
    pub all_made : left ≡ [] → PutsAll plate ns lentIndex index lentReport report
    all_made e =
        let whole : m.done ≡ entries_from plate 0 ns =
        sym (append-nil m.done) ∙ ap (λ (l : List (List ℕ)). m.done ++ entries_from plate k l) (sym e) ∙ m.all in
        let notes : m.notes ≡ report_of plate ns =
        sym (append-nil m.notes) ∙ ap (λ (l : List (List ℕ)). m.notes ++ report_of plate l) (sym e) ∙ m.noted in
        record {
          entered = m.entered.is ∙ ap (λ (es : List ℕ). entry_bytes es ++ drop (length (entry_bytes es)) lentIndex) whole;
          reported =
              m.reported.is ∙ ap (λ (l : List ℕ). l ++ drop (length l) lentReport) notes
              ∙ ap (λ (n : ℕ). report_of plate ns ++ drop n lentReport) (length-map ns (refusal_of plate));
        }
