-- What find answers, by its tests in their order, and which numbers a name's refusal has. Assumes nothing.
use Prim.Native.Nat.{ℕ, ◌*◌, ◌/◌, ◌<◌, ◌≤◌}
use mathlib.Core.Path.{◌≡◌, refl, sym, ap, ap₂, subst, ◌∙◌}
use mathlib.Core.Bool.{Bool, true, false, cond}
use mathlib.Core.Option.{Option, none, some}
use mathlib.Core.List.{List, map}
use native.Mathlib.Omega.{arith}
use borrow.Author.Tests.{eq-eqb, ne_eqb, le-leb, lt-leb}
use lib.Dec.{eqb, ltb, leb}
use lib.ListN.{length, replicate}
use Rattle.laws.specs.Lists.{every, cat}
use Rattle.chars.specs.Utf8.{is_text, chars_of, bad_place, fail_place}
use Rattle.chars.specs.Letters.{allowed}
use Rattle.plate.specs.Plate.{Rule, Plate}
use Rattle.plate.specs.Read.{plate_in, read_plate, accepted}
use Rattle.branches.specs.Branches.{start, over, codes}
use Rattle.coder.specs.Name.{most_name, prepared}
use Rattle.coder.specs.Name.Named.{Refused, Chars}
use Rattle.coder.specs.Walk.{uses}
use Rattle.coder.specs.Answer.{no_codes, listing, room, listed, answered, plated, list_answer}
use Rattle.ward.specs.Ward.{list_bytes, Written, unwritten, written}
use Rattle.ward.specs.Puts.{Puts}
use Rattle.entries.specs.Entries.{entries, most_records, is_index}
use Rattle.index.specs.Index.{full_list, codes_from, code_number, codes_in, refusal_of}
use Rattle.index.specs.Find.{records_of, two_bytes, find_answer}
use Rattle.index.specs.Held.{Listed, NameIs, Marks, marked}
use Rattle.index.specs.Outcome.{told_found, name_number, is_named}
use Rattle.std.specs.Prelude.{Result, Ok, Err}
use Rattle.std.specs.Result.{IsErr, IsErrAnd}
use Rattle.coder.specs.Refused.{error_number, error_place}
use Rattle.coder.specs.declared.CodeError.{CodeError}
use Rattle.coder.specs.declared.CodeError.TheVariants.{NotAPlate, NameTooLong, NotUtf8, CharacterNotAllowed, RoomTooSmall}
use Rattle.index.specs.declared.FindError.{FindError}
use Rattle.index.specs.declared.FindError.TheVariants.{Name}
use Rattle.index.proofs.Found.{marked_records, length_two}

-- The codes of a name listed are the name's.
pub listed_codes : (plate name line : List ℕ) (n refusal place : ℕ) → Listed plate name line n refusal place → map code_number (codes_from n line) ≡ codes_in plate name
listed_codes plate name line n refusal place l =
    ap (map code_number) (l.codes ∙ ap (λ (k : ℕ). codes_from k (full_list plate name).buffer) l.counted)

-- ---- which numbers list has for a name

by_name : (rs : List Rule) (cs : List ℕ) (a b : ℕ) (lent : List ℕ) (long text fine : Bool)
    → let n = (answered listed rs (cond long (Refused 1 0) (cond text (cond fine (Chars cs) (Refused 11 a)) (Refused 2 b))) lent).number in (n ≡ 0 → ⊥) → name_number n ≡ true
by_name rs cs a b lent true text fine h = refl
by_name rs cs a b lent false false fine h = refl
by_name rs cs a b lent false true false h = refl
by_name rs cs a b lent false true true h = go (over (room lent) (uses rs cs) start) h
  where
    go : (t : Bool) → let n = (cond t (no_codes 12 lent) (listing (codes (uses rs cs)) lent)).number in (n ≡ 0 → ⊥) → name_number n ≡ true
    go true h = refl
    go false h = absurd (h refl)

refusal_named : (plate name : List ℕ) → accepted plate ≡ true → (refusal_of plate name ≡ 0 → ⊥) → name_number (refusal_of plate name) ≡ true
unfolding full_list list_answer
refusal_named plate name a =
    let p = plate_in plate in
    let lent : List ℕ = replicate list_bytes 0 in
    let read : read_plate plate ≡ some p = ap (λ (t : Bool). cond t (some p) none) a in
    subst (λ (o : Option Plate). ((plated listed o name lent).number ≡ 0 → ⊥) → name_number (plated listed o name lent).number ≡ true) (sym read)
    (by_name p.rules (prepared p name) (fail_place allowed name) (bad_place name) lent (ltb most_name (length name)) (is_text name) (every allowed (chars_of name)))

error_some : (e : CodeError) → error_number e ≡ 0 → ⊥
error_some NotAPlate h = omega arith
error_some NameTooLong h = omega arith
error_some (NotUtf8 place) h = omega arith
error_some (CharacterNotAllowed place) h = omega arith
error_some RoomTooSmall h = omega arith

-- ---- the answer

-- A name's error is handed on as one of find's.
pub handed_on : (r : Result ℕ FindError) (e : CodeError) → IsErr r → IsErrAnd r (λ x. x ≡ Name e) → r ≡ Err (Name e)
handed_on (Ok n) e h g = elim g [ ]
handed_on (Err x) e h g = ap Err g

module _ (plate index name lent : List ℕ) where
  -- the records that share a code with the name
  abbrev found : List ℕ
  found = records_of (codes_in plate name) (entries index)

  -- `findAnswer`, by the outcomes of its tests
  abbrev judged : Bool → Bool → Bool → Bool → Written
  judged plated ordered named fit =
      cond plated (cond ordered (cond named (cond fit (written (cat two_bytes found) lent) (unwritten 9 lent)) (unwritten (refusal_of plate name) lent)) (unwritten 18 lent)) (unwritten 10 lent)

  abbrev named : Bool
  named = eqb (refusal_of plate name) 0

  abbrev fit : Bool
  fit = leb (length (cat two_bytes found)) (length lent)

  pub no_plate : accepted plate ≡ false → unwritten 10 lent ≡ find_answer plate index name lent
  unfolding find_answer
  no_plate a = ap (λ (t : Bool). judged t (is_index index) named fit) (sym a)

  module _ (a : accepted plate ≡ true) where
    pub no_index : is_index index ≡ false → unwritten 18 lent ≡ find_answer plate index name lent
    unfolding find_answer
    no_index i = ap₂ (λ (t u : Bool). judged t u named fit) (sym a) (sym i)

    module _ (i : is_index index ≡ true) (line : List ℕ) where
      -- The name's error is told.
      pub no_name : (e : CodeError) → Listed plate name line 0 (error_number e) (error_place e)
          → (told_found (Err (Name e)) lent ≡ find_answer plate index name lent) × (is_named (Err (Name e)) ≡ true) × NameIs plate name (Err (Name e))
      unfolding find_answer
      no_name e l =
          let some : refusal_of plate name ≡ 0 → ⊥ = λ z. error_some e (l.refused ∙ z) in (
            ap (λ (n : ℕ). unwritten n lent) l.refused
                ∙ ap (λ (t : Bool). judged true true t fit) (sym (ne_eqb (refusal_of plate name) 0 some))
                ∙ ap₂ (λ (t u : Bool). judged t u named fit) (sym a) (sym i),
            ap name_number l.refused ∙ refusal_named plate name a some,
            (l.refused, l.placed),
          )

      module _ (count : ℕ) (l : Listed plate name line count 0 0) (marks : List Bool) (m : Marks (entries index) (map code_number (codes_from count line)) (replicate most_records false) marks) where
        is_found : marked 0 marks ≡ found
        is_found = marked_records (entries index) (map code_number (codes_from count line)) marks m ∙ ap (λ (cs : List ℕ). records_of cs (entries index)) (listed_codes plate name line count 0 0 l)

        how_long : length (cat two_bytes found) ≡ 2 * length (marked 0 marks)
        how_long = length_two found ∙ ap (λ (rs : List ℕ). 2 * length rs) (sym is_found)

        by_room : (t : Bool) → fit ≡ t → judged true true true t ≡ find_answer plate index name lent
        unfolding find_answer
        by_room t f =
            ap (λ (u : Bool). judged true true u t) (sym (eq-eqb (refusal_of plate name) 0 (sym l.refused)))
            ∙ ap₂ (λ (u v : Bool). judged u v named t) (sym a) (sym i)
            ∙ ap (λ (u : Bool). judged (accepted plate) (is_index index) named u) (sym f)

        pub short_buffer : (n : ℕ) → n ≡ length (marked 0 marks) → length lent / 2 < n → unwritten 9 lent ≡ find_answer plate index name lent
        short_buffer n e g = let k = how_long in by_room false (lt-leb (length (cat two_bytes found)) (length lent) (omega arith))

        pub all_found : (n : ℕ) → n ≡ length (marked 0 marks) → n ≤ length lent / 2 → (k : ℕ) (out : List ℕ) → Puts (cat two_bytes (marked 0 marks)) k lent out
            → record { number = 0; length = k; buffer = out } ≡ find_answer plate index name lent
        all_found n e g k out p =
            let long = how_long in
            let q = subst (λ (rs : List ℕ). Puts (cat two_bytes rs) k lent out) is_found p in
            (λ j. record { number = 0; length = q.count j; buffer = q.is j }) ∙ by_room true (le-leb (length (cat two_bytes found)) (length lent) (omega arith))
