-- M-108: a record is found under a name exactly if its name shares a code with it, and more alternatives lose none. Assumes nothing.
use Prim.Native.Nat.{ℕ, zero, suc, ◌+◌, ◌*◌, ◌/◌, ◌%◌, ◌<◌, ◌≤◌}
use mathlib.Core.Path.{◌≡◌, refl, sym, ap, subst, ◌∙◌}
use mathlib.Core.Bool.{true}
use mathlib.Core.List.{List, [], ◌∷◌, ◌++◌, map}
use native.Mathlib.Omega.{arith}
use lib.ListN.{length, take, drop, get_or, replicate, length-map}
use Rattle.laws.specs.Lists.{In, cat}
use Rattle.plate.specs.Plate.{Plate}
use Rattle.plate.specs.Read.{accepted}
use Rattle.plate.proofs.Packed.{Bytes}
use Rattle.coder.specs.Answer.{list_answer}
use Rattle.ward.specs.Ward.{Written, written, names, list_bytes}
use Rattle.laws.proofs.Rising.{rising_in, in_rising}
use Rattle.index.specs.Index.{Indexed, made, full_list, codes_in, entries_from, index_of, refusal_of, report_of, make_answer}
use Rattle.index.specs.Find.{records_of, two_bytes, find_answer}
use Rattle.index.proofs.Found.{length_two}
use Rattle.promises.specs.Said.{IsPlate}
use Rattle.promises.specs.Demands.{WiderPlate, KeepsCodes}
use Rattle.promises.specs.Index.{Lent, entries_in, Share, record_at, Finds, Looks, FindsSharers, FolderFound, FoldersKept}
use Rattle.promises.proofs.Said.{in_some, some_in}
use Rattle.promises.proofs.Places.{in_place, place_in}
use Rattle.promises.proofs.IndexCodes.{share_number, number_share}
use Rattle.promises.proofs.IndexEntries.{entry_from, from_entry}
use Rattle.promises.proofs.Refusals.{list_refuses}
use Rattle.promises.proofs.Matches.{plates_keep}
use Rattle.promises.proofs.IndexAnswers.{has_room, made_entries, makes, finds}
use Rattle.promises.proofs.IndexRecords.{record_sharer, sharer_record, records_rise, record_placed, places_rise}

-- ---- the records of an index that is made of names

module _ (plate : List ℕ) (plated : accepted plate ≡ true) (ns : List (List ℕ)) (few : length ns ≤ 4096) (name : List ℕ) where
  abbrev records : List ℕ
  records = records_of (codes_in plate name) (index_of plate ns)

  found_share : (k : ℕ) → In k records → (k < length ns) × Share plate (get_or ns k []) name
  found_share k h =
      let s = record_sharer (codes_in plate name) (index_of plate ns) k h in
      let w = entry_from plate 0 ns s.entry (rising_in (entries_from plate 0 ns) s.entry s.stands) in
      let below = w.below in
      let is : s.entry ≡ w.code * 4096 + (0 + w.place) = w.is in
      let told : k ≡ s.entry % 4096 = s.is in
      let code : s.entry / 4096 ≡ w.code = omega arith in
      let place : w.place ≡ k = omega arith in
      let sharing = subst (λ (c : ℕ). In c (codes_in plate name)) code (some_in (s.entry / 4096) (codes_in plate name) s.sharing) in (
        omega arith,
        subst (λ (j : ℕ). Share plate (get_or ns j []) name) place (number_share plate (get_or ns w.place []) name plated w.code w.listed sharing),
      )

  share_found : (k : ℕ) → k < length ns → Share plate (get_or ns k []) name → In k records
  share_found k h s =
      let c = share_number plate (get_or ns k []) name s in
      let e : ℕ = c.0 * 4096 + (0 + k) in
      let code : c.0 ≡ e / 4096 = omega arith in
      let place : e % 4096 ≡ k = omega arith in
      let stands = in_rising (entries_from plate 0 ns) e (from_entry plate 0 ns k c.0 h c.1) in
      let sharing = in_some (e / 4096) (codes_in plate name) (subst (λ (d : ℕ). In d (codes_in plate name)) code c.2) in
      subst (λ (j : ℕ). In j records) place (sharer_record (codes_in plate name) (index_of plate ns) e stands sharing)

-- ---- records in bytes

module _ (rs lent : List ℕ) where
  abbrev all : Written
  all = written (cat two_bytes rs) lent

  at_place : (r : ℕ) → r < length rs → record_at all r ≡ get_or rs r 0
  at_place r h = record_placed rs (drop (length (cat two_bytes rs)) lent) r h

  finds_in : (k : ℕ) → Finds all k → In k rs
  finds_in k f =
      let n = length_two rs in
      let h = f.1 in
      let i : f.0 < length rs = omega arith in
      subst (λ (j : ℕ). In j rs) (sym (at_place f.0 i) ∙ f.2) (place_in 0 rs f.0 i)

  in_finds : (k : ℕ) → In k rs → Finds all k
  in_finds k i =
      let n = length_two rs in
      let r = in_place k 0 rs i in
      let h = r.1 in
      (r.0, omega arith, at_place r.0 h ∙ r.2)

finds_sharers : (plate : List ℕ) → accepted plate ≡ true → (ns : List (List ℕ)) → length ns ≤ 4096 → (name lent : List ℕ)
    → FindsSharers plate ns name (written (cat two_bytes (records_of (codes_in plate name) (index_of plate ns))) lent)
finds_sharers plate plated ns few name lent =
    let rs = records_of (codes_in plate name) (index_of plate ns) in
    let n = length_two rs in
    record {
      only = λ k f. found_share plate plated ns few name k (finds_in rs lent k f);
      every = λ k h s. in_finds rs lent k (share_found plate plated ns few name k h s);
      rising = λ r s g h.
          let i : s < length rs = omega arith in
          subst (λ (m : ℕ). m < record_at (written (cat two_bytes rs) lent) s) (sym (at_place rs lent r (omega arith)))
          (subst (λ (m : ℕ). get_or rs r 0 < m) (sym (at_place rs lent s i)) (places_rise rs (records_rise (codes_in plate name) (index_of plate ns)) r s g i));
    }

-- ---- a make, and a lookup in what was made

module _ (plate buffer : List ℕ) (lent : Lent) (name out : List ℕ) (a : Indexed) (b : Written) (l : Looks plate buffer lent name out a b) where
  -- By a plate, of no more names than there are numbers, all is made.
  pub record Made : Type 0 where
    pub plated : accepted plate ≡ true
    pub few : length (names buffer) ≤ 4096
    pub is : a ≡ made (index_of plate (names buffer)) (report_of plate (names buffer)) lent.index lent.report

  made_is : a.number ≡ 0 → Made
  made_is e =
      let ns = names buffer in
      let m = makes plate buffer lent (ap (λ (x : Indexed). x.number) (sym l.makes) ∙ e) in
      let n = length-map ns (refusal_of plate) in
      let h = (has_room (index_of plate ns) (report_of plate ns) lent m.1).0 in
      record { plated = m.0; few = omega arith; is = l.makes ∙ m.2 }

  folder_found : FolderFound plate buffer a.number name b
  folder_found e f =
      let ns = names buffer in
      let m = made_is e in
      let back : entries_in a ≡ index_of plate ns = ap entries_in m.is ∙ made_entries (index_of plate ns) (report_of plate ns) lent.index lent.report in
      let w = finds plate (take a.index_length a.index) name out (ap (λ (x : Written). x.number) (sym l.looks) ∙ f) in
      let is : b ≡ written (cat two_bytes (records_of (codes_in plate name) (index_of plate ns))) out =
      l.looks ∙ w.1 ∙ ap (λ (es : List ℕ). written (cat two_bytes (records_of (codes_in plate name) es)) out) back in
      subst (FindsSharers plate ns name) (sym is) (finds_sharers plate m.plated ns m.few name out)

  name_listed : b.number ≡ 0 → refusal_of plate name ≡ 0
  name_listed f = (finds plate (take a.index_length a.index) name out (ap (λ (x : Written). x.number) (sym l.looks) ∙ f)).0

  -- The report tells which names are refused.
  reported : a.number ≡ 0 → (k : ℕ) → k < length (names buffer) → get_or a.report k 0 ≡ refusal_of plate (get_or (names buffer) k [])
  reported e k h =
      let notes = report_of plate (names buffer) in
      ap (λ (x : Indexed). get_or x.report k 0) (made_is e).is ∙ at (names buffer) (drop (length notes) lent.report) k h
    where
      at : (ns : List (List ℕ)) (rest : List ℕ) (j : ℕ) → j < length ns → get_or (map (refusal_of plate) ns ++ rest) j 0 ≡ refusal_of plate (get_or ns j [])
      at [] rest j h = absurd (omega arith)
      at (n ∷ ns) rest zero h = refl
      at (n ∷ ns) rest (suc j) h = at ns rest j (omega arith)

pub makes_and_finds : (plate buffer : List ℕ) (lent : Lent) (name out : List ℕ) (a : Indexed) (b : Written)
    → a ≡ make_answer plate buffer lent.index lent.report → b ≡ find_answer plate (take a.index_length a.index) name out
    → FolderFound plate buffer a.number name b × Looks plate buffer lent name out a b
makes_and_finds plate buffer lent name out a b e f =
    let l : Looks plate buffer lent name out a b = record { makes = e; looks = f } in (folder_found plate buffer lent name out a b l, l)

-- ---- by a wider plate

-- A name with a code is not refused.
coded_listed : (plate name lent : List ℕ) → Bytes plate → (k : ℕ) → k < (list_answer plate name lent).count → (list_answer plate name lent).number ≡ 0
coded_listed plate name lent bytes k h = go (list_answer plate name lent).number refl
  where
    go : (n : ℕ) → (list_answer plate name lent).number ≡ n → n ≡ 0
    go zero e = refl
    go (suc n) e = let none = ((list_refuses plate name lent bytes).2 (λ z. omega arith)).0 in absurd (omega arith)

module _ (plate wide : List ℕ) (bytes : Bytes plate) (bytes' : Bytes wide) (p q : Plate) (is : IsPlate p plate) (is' : IsPlate q wide) (wider : WiderPlate p q) where
  -- Each code of a name that the wider plate does not refuse is kept.
  code_kept : (name : List ℕ) (k : ℕ) → k < (full_list plate name).count → refusal_of wide name ≡ 0 → KeepsCodes (full_list plate name) (full_list wide name)
  unfolding full_list
  code_kept name k h e =
      let zeros : List ℕ = replicate list_bytes 0 in
      plates_keep plate wide name zeros zeros bytes bytes' p q is is' wider (coded_listed plate name zeros bytes k h) e

  share_kept : (name other : List ℕ) → refusal_of wide name ≡ 0 → refusal_of wide other ≡ 0 → Share plate name other → Share wide name other
  share_kept name other e f s =
      let x = (code_kept name s.first s.within e).each s.first s.within in
      let y = (code_kept other s.second s.within' f).each s.second s.within' in
      record { first = x.0; second = y.0; within = x.1; within' = y.1; same = x.2 ∙ s.same ∙ sym y.2 }

pub folders_kept : (plate wide : List ℕ) → Bytes plate → Bytes wide → (buffer name : List ℕ) (lent lent' : Lent) (out out' : List ℕ) (a a' : Indexed) (b b' : Written)
    → Looks plate buffer lent name out a b → Looks wide buffer lent' name out' a' b' → FoldersKept plate wide a.number b a' b'
folders_kept plate wide bytes bytes' buffer name lent lent' out out' a a' b b' l l' p q is is' wider n m n' m' k found told =
    let s = (folder_found plate buffer lent name out a b l n m).only k found in
    let listed = sym (reported wide buffer lent' name out' a' b' l' n' k s.0) ∙ told in
    (folder_found wide buffer lent' name out' a' b' l' n' m').every k s.0
    (share_kept plate wide bytes bytes' p q is is' wider (get_or (names buffer) k []) name listed (name_listed wide buffer lent' name out' a' b' l' m') s.1)
