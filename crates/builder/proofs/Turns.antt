-- The first pass, item by item: what is noted stays what the items so far have said, and the verdict on the others stays the verdict on all.
-- Assumes nothing.
use Prim.Native.Nat.{ℕ, zero, suc, ◌+◌, ◌<◌, ◌≤◌}
use mathlib.Core.Path.{◌≡◌, refl, sym, ◌∙◌, ap, ap₂, subst}
use mathlib.Core.Bool.{Bool, true, false}
use mathlib.Core.List.{List, [], ◌∷◌, ◌++◌}
use native.Mathlib.Omega.{arith}
use lib.ListN.{length, take, drop}
use Rattle.laws.specs.Lists.{some}
use Rattle.laws.proofs.Lists.{rest}
use Rattle.laws.proofs.Parts.{lent, known}
use Rattle.rule_text.specs.Forms.{entry}
use Rattle.rule_text.specs.Items.{Item, said, taken, item_of, items_at}
use Rattle.rule_text.specs.Answers.{Lies}
use Rattle.rule_text.specs.declared.Four.{Four}
use Rattle.rule_text.specs.declared.Entry.{Entry}
use Rattle.rule_text.specs.declared.Entry.TheVariants as E
use Rattle.rule_text.proofs.Walk as Walk
use Rattle.plate.specs.Plate.{Rule, of_pattern}
use Rattle.book.specs.Book.{Book}
use Rattle.laws.specs.Sort.{sorted}
use Rattle.std.specs.Prelude.{Result, Ok, Err}
use Rattle.std.specs.Result.{IsErrAnd}
use Rattle.book.specs.Note.{places, place_in, rules_in, book_of, AllMarked, Kept, InOrder, FoldingNoted}
use Rattle.book.specs.Notes.{SameRules, SameFoldings}
use Rattle.book.specs.declared.Tally.{Tally}
use Rattle.book.specs.declared.Flaw.{Flaw}
use Rattle.book.specs.declared.note.Notes.{Notes}
use Rattle.book.proofs.Ways as Ways
use Rattle.laws.proofs.Sorting.{some_sorted}
use Rattle.book.proofs.Noting.{kept_later, double_kept, double_noted, rule_kept, rule_noted, rule_met, folding_fault_lem, folding_fine, folding_kept, folding_noted}
use Rattle.book.proofs.Noting.{order_kept, order_made, order_noted}
use Rattle.builder.specs.Build.{fault, enter, Verdict, unless, verdict}
use Rattle.builder.specs.Build.Verdict.{Faulty, Fine}
use Rattle.builder.specs.Survey.{fault_number, rule_in, rule_said, view, Met, SoFar, Held, onward, NotedAs, FourNoted, TurnIs, SurveyIs}
use Rattle.builder.specs.declared.Fault.{Fault}
use Rattle.builder.specs.declared.Fault.TheVariants.{NotRecognised, Flawed}

-- ---- the verdict, one item at a time

-- Each fault has a number that is not 0.
numbered : (w : Fault) → fault_number w ≡ 0 → ⊥
numbered NotRecognised e = omega arith
numbered (Flawed flaw) e = Ways.numbered flaw e

stopped : (n place : ℕ) (v : Verdict) (w : Fault) → n ≡ fault_number w → unless n place v ≡ Faulty (fault_number w) place
stopped zero place v w e = absurd (numbered w (sym e))
stopped (suc n) place v w e = ap (λ (m : ℕ). Faulty m place) e

unstopped : (n place : ℕ) (v : Verdict) → n ≡ 0 → unless n place v ≡ v
unstopped zero place v e = refl
unstopped (suc n) place v e = absurd (omega arith)

module _ (b : Book) (i : Item) (more is : List Item) (e : is ≡ i ∷ more) where
  verdict_stop : (w : Fault) → fault i.saying b ≡ fault_number w → verdict b is ≡ Faulty (fault_number w) i.place
  unfolding verdict
  verdict_stop w f = ap (verdict b) e ∙ stopped (fault i.saying b) i.place (verdict (enter i.saying b) more) w f

  verdict_on : fault i.saying b ≡ 0 → verdict (enter i.saying b) more ≡ verdict b is
  unfolding verdict
  verdict_on f = sym (ap (verdict b) e ∙ unstopped (fault i.saying b) i.place (verdict (enter i.saying b) more) f)

-- A fault that comes through a refusal of the book is the item's.
pub stopped_so : (text : List ℕ) (at : ℕ) (n n' : Notes) (w : Flaw) (r : Result ℕ Fault) → IsErrAnd r (λ f. f ≡ Flawed w) → onward text at n ≡ Faulty (fault_number (Flawed w)) at → TurnIs text at n n' r
stopped_so text at n n' w (Ok next) h s = absurd h
stopped_so text at n n' w (Err f) h s = s ∙ ap (λ (f : Fault). Faulty (fault_number f) at) (sym h)

-- ---- the end

module _ (text : List ℕ) (at : ℕ) (n : Notes) (k : SoFar text at n) where
  abbrev tally : Tally
  tally = n.tally

  abbrev keys : List ℕ
  keys = n.keys.now

  abbrev seen : List ℕ
  seen = n.seen.now

  abbrev foldings : List ℕ
  foldings = n.foldings.now

  pub held : Held text at n
  held = record { within = k.within; sure = k.noted.sure; met = k.met }

  -- All items are noted, and the numbers of the rules put in order.
  module _ (h : length text ≤ at) (n' : Notes) (e : n'.keys.now ≡ sorted (take n.tally.rules n.keys.now) ++ drop n.tally.rules n.keys.now) (f : n'.tally ≡ n.tally) (g : n'.foldings.now ≡ n.foldings.now) where
    all_noted : Kept (view text) (length text) tally keys foldings
    all_noted = kept_later (view text) at tally keys foldings k.noted (length text) k.within

    -- what the survey says at its end
    abbrev End : Tally → List ℕ → Type 0
    End t fs =
        Kept (view text) (length text) t n'.keys.now fs × InOrder t n'.keys.now × (onward text at n ≡ Fine (book_of (view text) t n'.keys.now fs))

    ended : End tally foldings
    unfolding verdict
    ended = (
      order_kept (view text) (length text) tally keys foldings all_noted n'.keys.now e,
      order_made (view text) (length text) tally keys foldings all_noted n'.keys.now e,
      ap (verdict (book_of (view text) tally keys foldings)) (Walk.done text at h)
          ∙ ap Fine (sym (order_noted (view text) (length text) tally keys foldings all_noted n'.keys.now e)),
    )

    pub survey_end : SurveyIs text n' (onward text at n) (Ok tt)
    survey_end = subst (λ (t : Tally). End t n'.foldings.now) (sym f) (subst (End tally) (sym g) ended)

  -- ---- the item at the place

  module _ (h : at < length text) where
    abbrev book : Book
    book = book_of (view text) tally keys foldings

    abbrev left : List ℕ
    left = drop at text

    pub low : at < places
    low = let a = k.short in omega arith

    -- As `item` answers it on what is left.
    abbrev Says : Entry → Type 0
    Says r = (r ≡ entry (lent at text)) × Lies (length (lent at text)) r

    module _ {r : Entry} (e : Entry) (says : Says r) (is : r ≡ e) where
      there : entry left ≡ e
      there = Walk.there text at e says.0 is

      near : (at < at + taken left e) × (at + taken left e ≤ length text)
      near = Walk.within text at e there h

      -- A recognised item that has no fault: what is noted with it goes on.
      on : Walk.Recognised e → (n' : Notes) → Kept (view text) (at + 1) n'.tally n'.keys.now n'.foldings.now → Met n'
          → book_of (view text) n'.tally n'.keys.now n'.foldings.now ≡ enter (said left e) book → fault (said left e) book ≡ 0 → TurnIs text at n n' (Ok (at + taken left e))
      on known n' kept met b f =
          let w = near.0 in
          let next = at + taken left e in (
            record { short = k.short; within = near.1; noted = kept_later (view text) (at + 1) n'.tally n'.keys.now n'.foldings.now kept next (omega arith); met = met },
            w,
            ap (λ (c : Book). verdict c (items_at text next)) b
                ∙ verdict_on book (item_of at left e) (items_at text next) (items_at text at) (Walk.turn text at e there h known) f,
          )

      stop : Walk.Recognised e → (w : Fault) → fault (said left e) book ≡ fault_number w → onward text at n ≡ Faulty (fault_number w) at
      stop known w f = verdict_stop book (item_of at left e) (items_at text (at + taken left e)) (items_at text at) (Walk.turn text at e there h known) w f

      later : Kept (view text) (at + 1) tally keys foldings
      later = kept_later (view text) at tally keys foldings k.noted (at + 1) (omega arith)

      -- The place behind it is no large number.
      pub behind_low : at + taken left e ≤ 65536
      behind_low = let a = k.short in let w = near.1 in omega arith

    pub line_end_turn : (next : ℕ) {r : Entry} → (r ≡ entry (lent at text)) × Lies (length (lent at text)) r → r ≡ E.LineEnd next → TurnIs text at n n (Ok (at + next))
    line_end_turn next says is = on (E.LineEnd next) says is tt n (later (E.LineEnd next) says is) k.met refl refl

    pub comment_turn : (next : ℕ) {r : Entry} → (r ≡ entry (lent at text)) × Lies (length (lent at text)) r → r ≡ E.Comment next → TurnIs text at n n (Ok (at + next))
    comment_turn next says is = on (E.Comment next) says is tt n (later (E.Comment next) says is) k.met refl refl

    pub unknown_turn : {r : Entry} → (r ≡ entry (lent at text)) × Lies (length (lent at text)) r → r ≡ E.Unknown → onward text at n ≡ Faulty 3 at
    unknown_turn says is =
        verdict_stop book (item_of at left E.Unknown) [] (items_at text at) (Walk.stop text at (there E.Unknown says is) h) NotRecognised refl

    -- A folding.
    module _ (c target next : ℕ) {r : Entry} (says : (r ≡ entry (lent at text)) × Lies (length (lent at text)) r) (is : r ≡ E.Folding c target next) (foldings' : List ℕ) where
      small : (c < 2097152) × (target < 2097152)
      small =
          let b = (known (Lies (length (lent at text))) says is).1 in
          let x = b.key_small in
          let y = b.target_small in (omega arith, omega arith)

      pub folding_stop : (w : Flaw) → FoldingNoted c target n.tally n.foldings.now foldings' (Err w) → onward text at n ≡ Faulty (fault_number (Flawed w)) at
      folding_stop w p =
          stop (E.Folding c target next) says is tt (Flawed w)
          (folding_fault_lem (view text) at tally keys foldings k.noted c target small.0 small.1 w foldings' p)

    module _ (c target next : ℕ) {r : Entry} (says : (r ≡ entry (lent at text)) × Lies (length (lent at text)) r) (is : r ≡ E.Folding c target next) (n' : Notes) where
      pub folding_turn : FoldingNoted c target n.tally n.foldings.now n'.foldings.now (Ok n'.tally) → SameRules n n' → TurnIs text at n n' (Ok (at + next))
      folding_turn p q =
          let s = small c target next says is n'.foldings.now in
          let t = n'.tally in
          let f = n'.foldings.now in
          let kept = kept_later (view text) at t keys f (folding_kept (view text) at tally keys foldings k.noted c target s.0 s.1 f t p) (at + 1) (omega arith) in
          let met : AllMarked seen (take t.rules keys) = subst (λ (t : Tally). AllMarked seen (take t.rules keys)) (sym p.2) k.met in
          on (E.Folding c target next) says is tt n'
          (subst (λ (ks : List ℕ). Kept (view text) (at + 1) t ks f) (sym q.0) kept)
          (subst (λ (ks : List ℕ). AllMarked n'.seen.now (take t.rules ks)) (sym q.0) (subst (λ (s : List ℕ). AllMarked s (take t.rules keys)) (sym q.1) met))
          (ap (λ (ks : List ℕ). book_of (view text) t ks f) q.0 ∙ folding_noted (view text) at tally keys foldings k.noted c target s.0 s.1 f t p)
          (folding_fine (view text) at tally keys foldings k.noted c target s.0 s.1 f t p)

    -- A rule.
    module _ (four : Four) {r : Entry} (says : (r ≡ entry (lent at text)) × Lies (length (lent at text)) r) (is : r ≡ E.Rule four) where
      abbrev R : Rule
      R = rule_in left four

      viewed : view text at ≡ R
      unfolding view
      viewed = ap (λ (e : Entry). rule_said (said left e)) (there (E.Rule four) says is)

      -- one of those noted has its pattern
      abbrev double : Bool
      double = some (of_pattern R.pattern) (rules_in (view text) (take tally.rules keys))

      in-book : some (of_pattern R.pattern) book.rules ≡ double
      in-book = some_sorted (λ i. view text (place_in i)) (of_pattern R.pattern) (take tally.rules keys)

      wrong : (b : Bool) (n' : Notes) (w : Flaw) → NotedAs b R at n n' (Err w) → onward text at n ≡ Faulty (fault_number (Flawed w)) at
      wrong true n' w p = stop (E.Rule four) says is tt (Flawed w) p.0
      wrong false n' w p = stop (E.Rule four) says is tt (Flawed w) p.0

      entered : (b : Bool) → double ≡ b → (n' : Notes) → NotedAs b R at n n' (Ok tt) → SameFoldings n n' → TurnIs text at n n' (Ok (at + four.next))
      entered true e n' p q =
          let t = n'.tally in
          let kept = kept_later (view text) at t keys foldings (double_kept (view text) at tally keys foldings k.noted R t p.0) (at + 1) (omega arith) in
          let met : AllMarked seen (take t.rules keys) = subst (λ (t : Tally). AllMarked seen (take t.rules keys)) (sym p.0.1) k.met in
          on (E.Rule four) says is tt n'
          (subst (λ (ks : List ℕ). Kept (view text) (at + 1) t ks n'.foldings.now) (sym p.1.0) (subst (Kept (view text) (at + 1) t keys) (sym q) kept))
          (subst (λ (ks : List ℕ). AllMarked n'.seen.now (take t.rules ks)) (sym p.1.0) (subst (λ (s : List ℕ). AllMarked s (take t.rules keys)) (sym p.1.1) met))
          (ap₂ (λ (ks fs : List ℕ). book_of (view text) t ks fs) p.1.0 q ∙ double_noted (view text) at tally keys foldings k.noted R t p.0 (in-book ∙ e))
          p.0.0
      entered false e n' p q =
          let t = n'.tally in
          let ks = n'.keys.now in
          let ss = n'.seen.now in
          on (E.Rule four) says is tt n'
          (subst (Kept (view text) (at + 1) t ks) (sym q) (rule_kept (view text) at tally keys foldings k.noted R viewed low seen ks ss t p))
          (rule_met (view text) at tally keys foldings k.noted R viewed low seen ks ss t p n.slotted k.met).1
          (ap (book_of (view text) t ks) q ∙ rule_noted (view text) at tally keys foldings k.noted R viewed low seen ks ss t p (in-book ∙ e))
          p.fine

      -- As the rest is lent.
      pub rule_turn : (n' : Notes) → FourNoted text (rule_in (lent at text) four) at n n' (Ok tt) → TurnIs text at n n' (Ok (at + four.next))
      rule_turn n' p =
          let q : FourNoted text R at n n' (Ok tt) = subst (λ (l : List ℕ). FourNoted text (rule_in l four) at n n' (Ok tt)) (rest at text) p in entered double refl n' q.0 q.1

      pub rule_stop : (n' : Notes) (w : Flaw) → FourNoted text (rule_in (lent at text) four) at n n' (Err w) → onward text at n ≡ Faulty (fault_number (Flawed w)) at
      rule_stop n' w p =
          let q : FourNoted text R at n n' (Err w) = subst (λ (l : List ℕ). FourNoted text (rule_in l four) at n n' (Err w)) (rest at text) p in wrong double n' w q.0
