-- The items of a text, one at a time: nothing left, an item that is recognised, one that is not; at a place of a text, as a loop reads it.
-- Assumes nothing.
use mathlib.Core.Path.{◌≡◌, refl, sym, ap, subst, ◌∙◌}
use mathlib.Core.List.{List, [], ◌∷◌}
use Prim.Native.Nat.{ℕ, zero, suc, ◌+◌, ◌-◌, ◌<◌, ◌≤◌}
use native.Mathlib.Omega.{arith}
use native.Mathlib.Numerals.{sub-one}
use lib.Dec.{eqb}
use lib.ListN.{length, drop, length-drop, drop_of_length-le}
use lib.Seq.{drop-drop}
use Rattle.laws.proofs.Lists.{rest}
use Rattle.laws.proofs.Parts.{lent}
use Rattle.laws.proofs.Tests.{by_test}
use Rattle.rule_text.specs.Forms.{newline, entry}
use Rattle.rule_text.specs.Items.{Item, through_newline, taken, item_of, followed, items_from, items_at}
use Rattle.rule_text.specs.Answers.{Lies}
use Rattle.rule_text.specs.declared.Entry.{Entry}
use Rattle.rule_text.specs.declared.Entry.TheVariants as E
use Rattle.rule_text.proofs.Bounds.{lies}

-- Bytes still to pass are bytes dropped.
pub skip : (place k : ℕ) (l : List ℕ) → items_from place k l ≡ items_from (place + k) 0 (drop k l)
unfolding items_from
skip place zero l = ap (λ (at : ℕ). items_from at 0 l) {x = place} {y = place + 0} (omega arith)
skip place (suc k) [] = refl
skip place (suc k) (x ∷ xs) =
    skip (suc place) k xs ∙ ap (λ (at : ℕ). items_from at 0 (drop k xs)) {x = suc place + k} {y = place + suc k} (omega arith)

-- What is left through the next newline is a byte at least and lies within, where there is a byte.
through_some : (l : List ℕ) → 0 < length l → 0 < through_newline l
unfolding through_newline
through_some [] h = absurd (omega arith)
through_some (x ∷ xs) h = by_test (λ (n : ℕ). 0 < n) (eqb x newline) 1 (suc (through_newline xs)) (λ e. omega arith) (λ e. omega arith)

through_most : (l : List ℕ) → through_newline l ≤ length l
unfolding through_newline
through_most [] = omega arith
through_most (x ∷ xs) =
    let more = through_most xs in
    by_test (λ (n : ℕ). n ≤ suc (length xs)) (eqb x newline) 1 (suc (through_newline xs)) (λ e. omega arith) (λ e. omega arith)

-- An item takes a byte at least and lies within, where there is a byte.
pub takes : (l : List ℕ) (e : Entry) → entry l ≡ e → 0 < length l → (0 < taken l e) × (taken l e ≤ length l)
takes l e f h = go e (subst (Lies (length l)) f (lies l))
  where
    go : (e : Entry) → Lies (length l) e → (0 < taken l e) × (taken l e ≤ length l)
    go (E.Rule four) b = (b.some, b.within)
    go (E.Folding key target next) b = (b.some, b.within)
    go (E.LineEnd next) b = (b.1 h, b.0)
    go (E.Comment next) b =
        let x = b.0 in (omega arith, b.1)
    go E.Unknown b = (through_some l h, through_most l)

unroll : (place : ℕ) (l : List ℕ) (e : Entry) → entry l ≡ e → 0 < length l
    → items_from place 0 l ≡ item_of place l e ∷ followed e (items_from (place + taken l e) 0 (drop (taken l e) l))
unfolding items_from
unroll place [] e f h = absurd (omega arith)
unroll place (x ∷ xs) e f h =
    rw f (ap (λ (more : List Item). item_of place (x ∷ xs) e ∷ followed e more) (behind (taken (x ∷ xs) e) (takes (x ∷ xs) e f h).0))
  where
    behind : (k : ℕ) → 0 < k → items_from (suc place) (k - 1) xs ≡ items_from (place + k) 0 (drop k (x ∷ xs))
    behind zero t = absurd (omega arith)
    behind (suc k) t =
        rw sub-one (skip (suc place) k xs ∙ ap (λ (at : ℕ). items_from at 0 (drop k xs)) {x = suc place + k} {y = place + suc k} (omega arith))

abbrev pub Recognised : Entry → Type 0
Recognised (E.Rule four) = Unit
Recognised (E.Folding key target next) = Unit
Recognised (E.LineEnd next) = Unit
Recognised (E.Comment next) = Unit
Recognised E.Unknown = ⊥

-- Behind an item that is recognised the reading goes on.
goes_on : (e : Entry) → Recognised e → (more : List Item) → followed e more ≡ more
goes_on (E.Rule four) k more = refl
goes_on (E.Folding key target next) k more = refl
goes_on (E.LineEnd next) k more = refl
goes_on (E.Comment next) k more = refl
goes_on E.Unknown k more = absurd k

-- ---- at a place

-- Nothing left, no items.
pub done : (text : List ℕ) (at : ℕ) → length text ≤ at → items_at text at ≡ []
unfolding items_from
done text at h = ap (items_from at 0) (drop_of_length-le text h)

-- The item at a place, and those behind it if it is recognised.
module _ (text : List ℕ) (at : ℕ) (e : Entry) (is : entry (drop at text) ≡ e) (h : at < length text) where
  some : 0 < length (drop at text)
  some = let n = length-drop at text in omega arith

  abbrev length_of : ℕ
  length_of = taken (drop at text) e

  -- The next place lies further on, and within.
  pub within : (at < at + length_of) × (at + length_of ≤ length text)
  within =
      let b = takes (drop at text) e is some in
      let n = length-drop at text in
      let x = b.0 in
      let y = b.1 in (omega arith, omega arith)

  pub front : items_at text at ≡ item_of at (drop at text) e ∷ followed e (items_at text (at + length_of))
  front =
      unroll at (drop at text) e is some
      ∙ ap (λ (l : List ℕ). item_of at (drop at text) e ∷ followed e (items_from (at + length_of) 0 l)) (drop-drop length_of at text)

  pub turn : Recognised e → items_at text at ≡ item_of at (drop at text) e ∷ items_at text (at + length_of)
  turn k = front ∙ ap (λ (more : List Item). item_of at (drop at text) e ∷ more) (goes_on e k (items_at text (at + length_of)))

-- An item that is not recognised is the last.
pub stop : (text : List ℕ) (at : ℕ) → entry (drop at text) ≡ E.Unknown → at < length text → items_at text at ≡ item_of at (drop at text) E.Unknown ∷ []
stop text at is h = front text at E.Unknown is h

-- As `item` answers it on what is left from a place on, in an arm that says which entry it is.
pub there : (text : List ℕ) (at : ℕ) {r : Entry} (e : Entry) → r ≡ entry (lent at text) → r ≡ e → entry (drop at text) ≡ e
there text at e says is = ap entry (sym (rest at text)) ∙ (sym says ∙ is)
