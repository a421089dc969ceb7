-- M-108, proved of the definitions: when each number comes back of make and of find, and what is answered with 0. Assumes nothing.
use Prim.Native.Nat.{ℕ, ◌+◌, ◌*◌, ◌<◌, ◌≤◌}
use mathlib.Core.Path.{◌≡◌, refl, sym, ap, subst, ◌∙◌}
use mathlib.Core.Logic.{inl, inr}
use mathlib.Core.Bool.{Bool, true, false, cond, ◌&&◌, false≢true}
use mathlib.Core.List.{List}
use native.Mathlib.Omega.{arith}
use borrow.Author.Tests.{leb-true, leb-false, eqb-true, eqb-false}
use lib.Dec.{eqb, leb}
use lib.ListN.{length, drop, length-append, length-map}
use lib.Seq.{take_at, drop_at}
use Rattle.laws.specs.Lists.{In, cat}
use Rattle.laws.proofs.Tests.{and_true}
use Rattle.plate.specs.Read.{accepted}
use Rattle.plate.proofs.Packed.{Bytes}
use Rattle.ward.specs.Ward.{Written, unwritten, written, names}
use Rattle.entries.specs.Entries.{entries, entry_bytes, most_records, is_index}
use Rattle.laws.specs.Sort.{Sorted}
use Rattle.entries.proofs.Bytes.{entries_bytes, length_bytes}
use Rattle.laws.proofs.Rising.{rising_strict, rising_in, in_rising}
use Rattle.index.specs.Index.{Indexed, unmade, made, fits, indexed, codes_in, entries_from, index_of, refusal_of, report_of, make_answer}
use Rattle.index.specs.Find.{records_of, two_bytes, find_answer}
use Rattle.index.proofs.Found.{length_two}
use Rattle.promises.specs.Index.{Lent, TooMuch, MakeRefuses, entries_in, MakesIndex, MakeGives, FindRefuses, IndexExclusive}
use Rattle.promises.proofs.CodedWhen.{is_plate, no_plate}
use Rattle.promises.proofs.OnlyWhen.{check_only}
use Rattle.promises.proofs.IndexEntries.{entry_from, from_entry}

-- ---- room

module _ (es notes : List ℕ) (lent : Lent) where
  pub has_room : fits es notes lent.index lent.report ≡ true
      → (length notes ≤ 4096) × (4 * length es ≤ length lent.index) × (length notes ≤ length lent.report)
  has_room e =
      let entered = leb (4 * length es) (length lent.index) in
      let reported = leb (length notes) (length lent.report) in
      let a = and_true (leb (length notes) most_records) (entered && reported) e in
      let b = and_true entered reported a.1 in
      (leb-true (length notes) most_records a.0, leb-true (4 * length es) (length lent.index) b.0, leb-true (length notes) (length lent.report) b.1)

  pub not_much : fits es notes lent.index lent.report ≡ true → TooMuch (length notes) (length es) lent → ⊥
  not_much e (inl h) = let r = (has_room e).0 in omega arith
  not_much e (inr (inl h)) = let r = (has_room e).1 in omega arith
  not_much e (inr (inr h)) = let r = (has_room e).2 in omega arith

  pub too_much : fits es notes lent.index lent.report ≡ false → TooMuch (length notes) (length es) lent
  too_much e = go (leb (length notes) most_records) (leb (4 * length es) (length lent.index)) (leb (length notes) (length lent.report)) refl refl refl e
    where
      go : (a b c : Bool) → leb (length notes) most_records ≡ a → leb (4 * length es) (length lent.index) ≡ b → leb (length notes) (length lent.report) ≡ c
          → a && (b && c) ≡ false → TooMuch (length notes) (length es) lent
      go false b c f g h e = inl (leb-false (length notes) most_records f)
      go true false c f g h e = inr (inl (leb-false (4 * length es) (length lent.index) g))
      go true true false f g h e = inr (inr (leb-false (length notes) (length lent.report) h))
      go true true true f g h e = absurd (false≢true (sym e))

-- ---- make

-- What was made stands in front.
pub made_entries : (es notes index report : List ℕ) → entries_in (made es notes index report) ≡ es
made_entries es notes index report =
    ap entries (take_at (entry_bytes es) (drop (4 * length es) index) (4 * length es) (length_bytes es)) ∙ entries_bytes es

module _ (plate buffer : List ℕ) (lent : Lent) where
  abbrev ns : List (List ℕ)
  ns = names buffer

  abbrev es : List ℕ
  es = index_of plate ns

  abbrev notes : List ℕ
  notes = report_of plate ns

  abbrev whole : Indexed
  whole = made es notes lent.index lent.report

  abbrev answer : Indexed
  answer = make_answer plate buffer lent.index lent.report

  -- `makeAnswer`, by the outcomes of its tests
  abbrev judged : Bool → Bool → Indexed
  judged plated room = cond plated (cond room whole (unmade 18 lent.index lent.report)) (unmade 10 lent.index lent.report)

  -- What holds of each outcome holds of the answer.
  by_tests : (P : Indexed → Type 0) → ((t u : Bool) → accepted plate ≡ t → fits es notes lent.index lent.report ≡ u → P (judged t u)) → P answer
  unfolding make_answer
  by_tests P f = f (accepted plate) (fits es notes lent.index lent.report) refl refl

  make_refuses : Bytes plate → MakeRefuses plate buffer lent answer
  make_refuses bytes = by_tests (MakeRefuses plate buffer lent) go
    where
      counted : length notes ≡ length ns
      counted = length-map ns (refusal_of plate)

      go : (t u : Bool) → accepted plate ≡ t → fits es notes lent.index lent.report ≡ u → MakeRefuses plate buffer lent (judged t u)
      go false u a b = (inl (no_plate plate a, refl), λ h. (refl, refl, refl, refl))
      go true false a b =
          let much = subst (λ (n : ℕ). TooMuch n (length es) lent) counted (too_much es notes lent b) in
          (inr (is_plate plate bytes a, inl (much, refl)), λ h. (refl, refl, refl, refl))
      go true true a b = (
        inr (is_plate plate bytes a, inr ((λ m. not_much es notes lent b (subst (λ (n : ℕ). TooMuch n (length es) lent) (sym counted) m)), refl)),
        λ h. absurd (h refl),
      )

  -- An answer of 0: by a plate, with room, and all is made.
  pub makes : answer.number ≡ 0 → (accepted plate ≡ true) × (fits es notes lent.index lent.report ≡ true) × (answer ≡ whole)
  makes = by_tests (λ (a : Indexed). a.number ≡ 0 → (accepted plate ≡ true) × (fits es notes lent.index lent.report ≡ true) × (a ≡ whole)) go
    where
      go : (t u : Bool) → accepted plate ≡ t → fits es notes lent.index lent.report ≡ u → (judged t u).number ≡ 0
          → (accepted plate ≡ true) × (fits es notes lent.index lent.report ≡ true) × (judged t u ≡ whole)
      go false u a b e = absurd (omega arith)
      go true false a b e = absurd (omega arith)
      go true true a b e = (a, b, refl)

  -- By a plate, all is made that fits.
  pub make_plated : accepted plate ≡ true → answer ≡ indexed es notes lent.index lent.report
  make_plated = by_tests (λ (a : Indexed). accepted plate ≡ true → a ≡ indexed es notes lent.index lent.report) go
    where
      go : (t u : Bool) → accepted plate ≡ t → fits es notes lent.index lent.report ≡ u → accepted plate ≡ true
          → judged t u ≡ indexed es notes lent.index lent.report
      go false u a b e = absurd (false≢true (sym a ∙ e))
      go true u a b e = ap (λ (t : Bool). cond t whole (unmade 18 lent.index lent.report)) (sym b)

  -- What is made: entries that rise, of the codes of the names and no others, and the report.
  made_all : MakesIndex plate buffer lent whole
  made_all =
      let back = made_entries es notes lent.index lent.report in
      record {
        whole = ap (λ (l : List ℕ). 4 * length l) (sym back);
        rises = subst (Sorted ◌<◌) (sym back) (rising_strict (entries_from plate 0 ns));
        only = λ e i.
            let w = entry_from plate 0 ns e (rising_in (entries_from plate 0 ns) e (subst (In e) back i)) in
            let is : e ≡ w.code * 4096 + (0 + w.place) = w.is in
            record { number = w.place; code = w.code; below = w.below; listed = w.listed; is = omega arith };
        each = λ e w.
            let is : e ≡ w.code * 4096 + w.number = w.is in
            let same : w.code * 4096 + (0 + w.number) ≡ e = omega arith in
            subst (In e) (sym back)
            (in_rising (entries_from plate 0 ns) e (subst (λ (x : ℕ). In x (entries_from plate 0 ns)) same (from_entry plate 0 ns w.number w.code w.below w.listed)));
        reported = take_at notes (drop (length notes) lent.report) (length notes) refl;
        behind = drop_at (entry_bytes es) (drop (4 * length es) lent.index) (4 * length es) (length_bytes es);
        behind_report = drop_at notes (drop (length notes) lent.report) (length notes) refl;
      }

  make_gives : MakeGives plate buffer lent answer
  make_gives e = subst (MakesIndex plate buffer lent) (sym (makes e).2) made_all

  -- What is told of the index is no more than there is.
  answer_within : answer.index_length ≤ length answer.index
  answer_within = by_tests (λ (a : Indexed). a.index_length ≤ length a.index) go
    where
      go : (t u : Bool) → accepted plate ≡ t → fits es notes lent.index lent.report ≡ u → (judged t u).index_length ≤ length (judged t u).index
      go false u a b = omega arith
      go true false a b = omega arith
      go true true a b = omega (arith, length-append (entry_bytes es) (drop (4 * length es) lent.index), length_bytes es)

  pub makes_index : Bytes plate → (a : Indexed) → a ≡ answer → MakeRefuses plate buffer lent a × MakeGives plate buffer lent a
  makes_index bytes a e =
      subst (λ (x : Indexed). MakeRefuses plate buffer lent x × MakeGives plate buffer lent x) (sym e) (make_refuses bytes, make_gives)

  pub index_within : (a : Indexed) → a ≡ answer → a.index_length ≤ length a.index
  index_within a e = subst (λ (x : Indexed). x.index_length ≤ length x.index) (sym e) answer_within

-- ---- find

module _ (plate index name lent : List ℕ) where
  abbrev records : List ℕ
  records = records_of (codes_in plate name) (entries index)

  abbrev found : Written
  found = written (cat two_bytes records) lent

  -- `findAnswer`, by the outcomes of its tests
  abbrev looked : Bool → Bool → Bool → Bool → Written
  looked plated sound listed room =
      cond plated (cond sound (cond listed (cond room found (unwritten 9 lent)) (unwritten (refusal_of plate name) lent)) (unwritten 18 lent)) (unwritten 10 lent)

  -- the four tests have these outcomes
  pub record Tests (t u v w : Bool) : Type 0 where
    pub plated : accepted plate ≡ t
    pub sound : is_index index ≡ u
    pub listed : eqb (refusal_of plate name) 0 ≡ v
    pub room : leb (length (cat two_bytes records)) (length lent) ≡ w

  by_looking : (P : Written → Type 0) → ((t u v w : Bool) → Tests t u v w → P (looked t u v w)) → P (find_answer plate index name lent)
  unfolding find_answer
  by_looking P f =
      f (accepted plate) (is_index index) (eqb (refusal_of plate name) 0) (leb (length (cat two_bytes records)) (length lent))
      (record { plated = refl; sound = refl; listed = refl; room = refl })

  find_refuses : Bytes plate → FindRefuses plate index name lent (find_answer plate index name lent)
  find_refuses bytes = by_looking (FindRefuses plate index name lent) go
    where
      two : length (cat two_bytes records) ≡ 2 * length records
      two = length_two records

      go : (t u v w : Bool) → Tests t u v w → FindRefuses plate index name lent (looked t u v w)
      go false u v w r = (inl (no_plate plate r.plated, refl), λ h. (refl, refl))
      go true false v w r = (inr (is_plate plate bytes r.plated, inl (r.sound, refl)), λ h. (refl, refl))
      go true true false w r = (
        inr (is_plate plate bytes r.plated, inr ((λ b. false≢true (sym b ∙ r.sound)), inl (eqb-false (refusal_of plate name) 0 r.listed, refl))),
        λ h. (refl, refl),
      )
      go true true true false r =
          let none = eqb-true (refusal_of plate name) 0 r.listed in
          let short = leb-false (length (cat two_bytes records)) (length lent) r.room in
          let n = two in (
            inr (is_plate plate bytes r.plated, inr ((λ b. false≢true (sym b ∙ r.sound)), inr ((λ f. f none), inl (omega arith, refl)))),
            λ h. (refl, refl),
          )
      go true true true true r =
          let none = eqb-true (refusal_of plate name) 0 r.listed in
          let holds = leb-true (length (cat two_bytes records)) (length lent) r.room in
          let n = two in (
            inr (is_plate plate bytes r.plated, inr ((λ b. false≢true (sym b ∙ r.sound)), inr ((λ f. f none), inr ((λ h. omega arith), refl)))),
            λ h. absurd (h refl),
          )

  pub finds_records : Bytes plate → (a : Written) → a ≡ find_answer plate index name lent → FindRefuses plate index name lent a
  finds_records bytes a e = subst (FindRefuses plate index name lent) (sym e) (find_refuses bytes)

  -- An answer of 0: the name is not refused, and the records are written.
  pub finds : (find_answer plate index name lent).number ≡ 0 → (refusal_of plate name ≡ 0) × (find_answer plate index name lent ≡ found)
  finds = by_looking (λ (a : Written). a.number ≡ 0 → (refusal_of plate name ≡ 0) × (a ≡ found)) go
    where
      go : (t u v w : Bool) → Tests t u v w → (looked t u v w).number ≡ 0 → (refusal_of plate name ≡ 0) × (looked t u v w ≡ found)
      go false u v w r e = absurd (omega arith)
      go true false v w r e = absurd (omega arith)
      go true true false w r e = absurd (eqb-false (refusal_of plate name) 0 r.listed e)
      go true true true false r e = absurd (omega arith)
      go true true true true r e = (eqb-true (refusal_of plate name) 0 r.listed, refl)

-- ---- one number each

pub index_exclusive : IndexExclusive
index_exclusive = record {
  make = λ plate buffer lent n n'. check_only 10 (check_only 18 (λ a b. a ∙ sym b));
  add = λ plate name lent used noted n n'. check_only 10 (check_only 18 (λ a b. a ∙ sym b));
  find = λ plate index name lent n n'. check_only 10 (check_only 18 (check_only (refusal_of plate name) (check_only 9 (λ a b. a ∙ sym b))));
}
