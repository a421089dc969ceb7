-- M-108: "Adding [..] gives the same index and report as making them afresh." Proved of the definitions. Assumes nothing.
use Prim.Native.Nat.{ℕ, ◌+◌, ◌*◌, ◌/◌, ◌%◌, ◌<◌, ◌≤◌}
use mathlib.Core.Path.{◌≡◌, refl, sym, ap, ap₂, subst, ◌∙◌}
use mathlib.Core.Bool.{Bool, true, false, cond, ◌&&◌}
use mathlib.Core.List.{List, [], ◌∷◌, ◌++◌, append-nil}
use native.Mathlib.Omega.{arith}
use borrow.Author.Tests.{le-leb, lt-ltb}
use lib.Dec.{leb}
use lib.ListN.{length, take, drop, get_or, length-append, length-map, length-drop}
use lib.Seq.{take_at}
use Rattle.laws.specs.Lists.{In, every}
use Rattle.laws.specs.Arrays.{Each}
use Rattle.laws.proofs.Many.{map_snoc}
use Rattle.plate.specs.Read.{accepted}
use Rattle.ward.specs.Ward.{names}
use Rattle.entries.specs.Entries.{entries, entry_bytes, most_records, is_index, is_code, record_below}
use Rattle.laws.specs.Sort.{Sorted, rising}
use Rattle.laws.proofs.Holds.{each_in}
use Rattle.entries.proofs.Bytes.{entries_bytes, length_bytes}
use Rattle.entries.proofs.Index.{true_index}
use Rattle.laws.proofs.Rising.{rising_strict, rising_in}
use Rattle.index.specs.Index.{Indexed, unmade, made, fits, indexed, codes_in, entries_of, entries_from, index_of, refusal_of, report_of, make_answer, add_answer}
use Rattle.promises.specs.Index.{Lent, Afresh, AddsAfresh}
use Rattle.promises.proofs.IndexEntries.{EntryFrom, entry_from, entries_behind}
use Rattle.promises.proofs.IndexAnswers.{has_room, makes, make_plated}
use Rattle.promises.proofs.IndexAdds.{in_each, each_every, rising_again, codes_few, Sound, adds}

-- ---- what is made is sound

module _ (plate : List ℕ) (plated : accepted plate ≡ true) (ns : List (List ℕ)) (lent : Lent) (room : fits (index_of plate ns) (report_of plate ns) lent.index lent.report ≡ true) where
  abbrev es : List ℕ
  es = index_of plate ns

  abbrev notes : List ℕ
  notes = report_of plate ns

  abbrev after : Lent
  after = record { index = entry_bytes es ++ drop (4 * length es) lent.index; report = notes ++ drop (length notes) lent.report }

  -- The buffers are as long as they were.
  index_long : length after.index ≡ length lent.index
  index_long =
      let fit = (has_room es notes lent room).1 in
      length-append (entry_bytes es) (drop (4 * length es) lent.index) ∙ omega (arith, length_bytes es, length-drop (4 * length es) lent.index)

  report_long : length after.report ≡ length lent.report
  report_long =
      let fit = (has_room es notes lent room).2 in
      length-append notes (drop (length notes) lent.report) ∙ omega (arith, length-drop (length notes) lent.report)

  front : take (4 * length es) after.index ≡ entry_bytes es
  front = take_at (entry_bytes es) (drop (4 * length es) lent.index) (4 * length es) (length_bytes es)

  entered : (e : ℕ) → In e es → EntryFrom plate 0 ns e
  entered e i = entry_from plate 0 ns e (rising_in (entries_from plate 0 ns) e i)

  few : length ns ≤ 4096
  few = let n = length-map ns (refusal_of plate) in let h = (has_room es notes lent room).0 in omega arith

  -- Each entry has a code, under a number below the report's length.
  code_each : (e : ℕ) → In e es → is_code e ≡ true
  code_each e i =
      let w = entered e i in
      let h = w.below in
      let n = few in
      let is : e ≡ w.code * 4096 + (0 + w.place) = w.is in
      let c = each_in (λ c. c ≤ 999999) (codes_in plate (get_or ns w.place [])) w.code (codes_few plate (get_or ns w.place []) plated) w.listed in
      le-leb (e / 4096) 999999 (omega arith)

  record_each : (e : ℕ) → In e es → record_below (length notes) e ≡ true
  record_each e i =
      let w = entered e i in
      let h = w.below in
      let n = few in
      let m = length-map ns (refusal_of plate) in
      let is : e ≡ w.code * 4096 + (0 + w.place) = w.is in
      lt-ltb (e % 4096) (length notes) (omega arith)

  made_good : Sound after (4 * length es) (length notes)
  made_good =
      let n = index_long in
      let m = report_long in
      let fit = has_room es notes lent room in
      let fit1 = fit.1 in
      let fit2 = fit.2 in
      let back : entries (take (4 * length es) after.index) ≡ es = ap entries front ∙ entries_bytes es in
      record {
        within = omega arith;
        reported = omega arith;
        ordered =
            subst (λ (l : List ℕ). is_index l ≡ true) (sym front)
            (true_index (entry_bytes es) (omega (arith, length_bytes es)) (subst (Sorted ◌<◌) (sym (entries_bytes es)) (rising_strict (entries_from plate 0 ns)))
            (subst (Each (λ x. is_code x ≡ true)) (sym (entries_bytes es)) (in_each (λ x. is_code x ≡ true) es code_each)));
        numbered =
            subst (λ (l : List ℕ). every (record_below (length notes)) l ≡ true) (sym back)
            (each_every (record_below (length notes)) es (in_each (λ x. record_below (length notes) x ≡ true) es record_each));
      }

  -- The entries and the report with a name more are those of all names.
  all_entries : (name : List ℕ) → rising (entries (take (4 * length es) after.index) ++ entries_of plate (length notes) name) ≡ index_of plate (ns ++ (name ∷ []))
  all_entries name =
      let back : entries (take (4 * length es) after.index) ≡ es = ap entries front ∙ entries_bytes es in
      let m : length notes ≡ 0 + length ns = length-map ns (refusal_of plate) ∙ omega arith in
      ap (λ (l : List ℕ). rising (l ++ entries_of plate (length notes) name)) back
      ∙ rising_again (entries_from plate 0 ns) (entries_of plate (length notes) name)
      ∙ ap (λ (k : ℕ). rising (entries_from plate 0 ns ++ entries_of plate k name)) m
      ∙ ap (λ (l : List ℕ). rising (entries_from plate 0 ns ++ l)) (sym (append-nil (entries_of plate (0 + length ns) name)))
      ∙ ap rising (sym (entries_behind plate 0 ns (name ∷ [])))

  all_notes : (name : List ℕ) → take (length notes) after.report ++ (refusal_of plate name ∷ []) ≡ report_of plate (ns ++ (name ∷ []))
  all_notes name =
      ap (λ (l : List ℕ). l ++ (refusal_of plate name ∷ [])) (take_at notes (drop (length notes) lent.report) (length notes) refl)
      ∙ sym (map_snoc (refusal_of plate) ns name)

-- ---- the same in other buffers as long

alike : (es notes : List ℕ) (lent lent' : Lent) → length lent.index ≡ length lent'.index → length lent.report ≡ length lent'.report
    → Afresh (indexed es notes lent.index lent.report) (indexed es notes lent'.index lent'.report)
alike es notes lent lent' e f =
    subst (λ (t : Bool). Afresh (indexed es notes lent.index lent.report) (cond t (made es notes lent'.index lent'.report) (unmade 18 lent'.index lent'.report)))
    (ap₂ (λ (m n : ℕ). leb (length notes) most_records && (leb (4 * length es) m && leb (length notes) n)) e f) (go (fits es notes lent.index lent.report))
  where
    go : (t : Bool) → Afresh (cond t (made es notes lent.index lent.report) (unmade 18 lent.index lent.report))
        (cond t (made es notes lent'.index lent'.report) (unmade 18 lent'.index lent'.report))
    go false = record { number = refl; index_length = refl; report_length = refl; index = refl; report = refl }
    go true =
        let front : (l : List ℕ) → take (4 * length es) (entry_bytes es ++ drop (4 * length es) l) ≡ entry_bytes es =
        λ l. take_at (entry_bytes es) (drop (4 * length es) l) (4 * length es) (length_bytes es) in
        let noted : (l : List ℕ) → take (length notes) (notes ++ drop (length notes) l) ≡ notes = λ l. take_at notes (drop (length notes) l) (length notes) refl in
        record {
          number = refl;
          index_length = refl;
          report_length = refl;
          index = front lent.index ∙ sym (front lent'.index);
          report = noted lent.report ∙ sym (noted lent'.report);
        }

-- ---- a make, an add, and a make of all

pub adds_afresh : (plate buffer : List ℕ) (lent : Lent) (name : List ℕ) (wider : List ℕ) (lent' : Lent)
    → (a b c : Indexed) → a ≡ make_answer plate buffer lent.index lent.report → b ≡ add_answer plate name a.index a.index_length a.report a.report_length
    → c ≡ make_answer plate wider lent'.index lent'.report → AddsAfresh buffer lent a.number name b wider lent' c
adds_afresh plate buffer lent name wider lent' a b c t u v n same long long' =
    let ns = names buffer in
    let m = makes plate buffer lent (ap (λ (x : Indexed). x.number) (sym t) ∙ n) in
    let room = m.1 in
    let whole = made (index_of plate ns) (report_of plate ns) lent.index lent.report in
    let is : a ≡ whole = t ∙ m.2 in
    let held = after plate m.0 ns lent room in
    let es = index_of plate (ns ++ (name ∷ [])) in
    let notes = report_of plate (ns ++ (name ∷ [])) in
    let added : b ≡ indexed es notes held.index held.report =
    u
    ∙ ap (λ (x : Indexed). add_answer plate name x.index x.index_length x.report x.report_length) is
    ∙ adds plate name held (4 * length (index_of plate ns)) (length (report_of plate ns)) m.0 (made_good plate m.0 ns lent room)
    ∙ ap₂ (λ (x y : List ℕ). indexed x y held.index held.report) (all_entries plate m.0 ns lent room name) (all_notes plate m.0 ns lent room name) in
    let afresh : c ≡ indexed es notes lent'.index lent'.report =
    v
    ∙ make_plated plate wider lent' m.0
    ∙ ap (λ (l : List (List ℕ)). indexed (index_of plate l) (report_of plate l) lent'.index lent'.report) same in
    subst (λ (x : Indexed). Afresh x c) (sym added)
    (subst (Afresh (indexed es notes held.index held.report)) (sym afresh)
    (alike es notes held lent' (index_long plate m.0 ns lent room ∙ sym long) (report_long plate m.0 ns lent room ∙ sym long')))
