-- Only one answer, and one array or buffer, satisfies each promise of this crate that says an answer. What a pen has written is not told by its own promise
-- alone (bits not yet a byte are in the pen); that of `finish` tells every byte, and where the pen stands. Assumes nothing.
use Prim.Native.Nat.{ℕ, ◌^◌, ◌<◌}
use mathlib.Core.Path.{◌≡◌, refl, sym, ap, ◌∙◌}
use mathlib.Core.HLevel.{is_prop→PathP}
use mathlib.Core.Bool.{Bool, cond}
use mathlib.Core.List.{List, ◌++◌}
use native.Mathlib.Bridge.{le_prop}
use native.Mathlib.Omega.{arith}
use lib.Dec.{eqb}
use lib.ListN.{take, drop}
use Rattle.laws.specs.Lists.{split_at}
use Rattle.laws.proofs.Only.{only}
use Rattle.plate.specs.Bits.{pack}
use Rattle.plate.specs.Plate.{Rule}
use Rattle.book.specs.Field.{parsed, Says}
use Rattle.book.specs.Pen.{Stands, Begins, bits_in, Finished}
use Rattle.book.specs.Seen.{hashes, hash_of, may_hold}
use Rattle.laws.specs.Sort.{sorted}
use Rattle.std.specs.Prelude.{Result, Ok, Err}
use Rattle.book.specs.Field.{flaw_number}
use Rattle.book.specs.Note.{RuleNoted, DoubleNoted, FoldingNoted, none_noted}
use Rattle.book.specs.declared.Flaw.{Flaw}
use Rattle.book.specs.declared.Flaw.TheVariants.{EmptyPattern, LongPattern, ManyAlternatives, NotDigits, TooMany}
use Rattle.book.specs.declared.Tally.{Tally}
use Rattle.book.specs.declared.note.Notes.{Notes}
use Rattle.book.specs.declared.pen.Pen.{Pen}
use Rattle.book.specs.declared.pen.Sheet.{Sheet}
use Rattle.book.proofs.Ways.{numbered}

pub parse_branch : (sep : ℕ) (l : List ℕ) (r r' : Result ℕ Flaw) → (r ≡ parsed (split_at sep l)) × Says (split_at sep l) r
    → (r' ≡ parsed (split_at sep l)) × Says (split_at sep l) r' → r ≡ r'
parse_branch sep l r r' e f = only e.0 f.0

-- One pen stands behind so many whole bytes.
one_pen : (n n' : ℕ) → n ≡ n' → (p p' : Pen) → Stands p n → Stands p' n' → p ≡ p'
one_pen n n' e p p' s s' =
    let bytes : p.bytes ≡ p'.bytes = s.0 ∙ e ∙ sym s'.0 in
    let begun : p.begun ≡ p'.begun = only s.1 s'.1 in
    let count : p.count ≡ p'.count = only s.2 s'.2 in
    λ i. record {
      bytes = bytes i;
      begun = begun i;
      count = count i;
      part = is_prop→PathP (λ j. count j < 8) (λ j x y. le_prop x y) p.part p'.part i;
      held = is_prop→PathP (λ j. begun j < 2 ^ count j) (λ j x y. le_prop x y) p.held p'.held i;
    }

-- Two sheets hold the same bytes, and their pens are one.
abbrev Alike : Sheet → Sheet → Type 0
Alike s s' = (s.out.now ≡ s'.out.now) × (s.pen ≡ s'.pen)

-- A sheet that begins is the buffer as lent, and its pen has written nothing.
pub new : (out : List ℕ) (r r' : Sheet) → Begins out r → Begins out r' → Alike r r'
new out r r' e f = (only e.lent f.lent, one_pen 0 0 refl r.pen r'.pen (e.bytes, e.begun, e.count) (f.bytes, f.begun, f.count))

pub finish : (s s' s'' : Sheet) (r r' : ℕ) → Finished s s' r → Finished s s'' r' → (r ≡ r') × Alike s' s''
finish s s' s'' r r' e f =
    let same = only e.0.1 f.0.1 in
    (same, (e.0.0 ∙ ap (λ (n : ℕ). pack (bits_in s) ++ drop n s.out.now) same ∙ sym f.0.0, one_pen r r' same s'.pen s''.pen e.3 f.3))

-- ---- a rule or folding noted

pub number : (w : Flaw) (r r' : ℕ) → r ≡ flaw_number w → r' ≡ flaw_number w → r ≡ r'
number w r r' e f = only e f

-- Notes that begin are the arrays as lent, and nothing is noted.
pub begun : (keys seen foldings : List ℕ) (n n' : Notes)
    → (n.tally ≡ none_noted) × (n.keys.now ≡ keys) × (n.seen.now ≡ seen) × (n.foldings.now ≡ foldings)
    → (n'.tally ≡ none_noted) × (n'.keys.now ≡ keys) × (n'.seen.now ≡ seen) × (n'.foldings.now ≡ foldings)
    → (n.tally ≡ n'.tally) × (n.keys.now ≡ n'.keys.now) × (n.seen.now ≡ n'.seen.now) × (n.foldings.now ≡ n'.foldings.now)
begun keys seen foldings n n' e f = (only e.0 f.0, only e.1 f.1, only e.2 f.2, only e.3 f.3)

abbrev flaw_of : ℕ → Flaw
flaw_of n = cond (eqb n 4) EmptyPattern (cond (eqb n 5) LongPattern (cond (eqb n 6) ManyAlternatives (cond (eqb n 7) NotDigits TooMany)))

back : (w : Flaw) → flaw_of (flaw_number w) ≡ w
back EmptyPattern = refl
back LongPattern = refl
back ManyAlternatives = refl
back NotDigits = refl
back TooMany = refl

pub same_flaw : (w w' : Flaw) → flaw_number w ≡ flaw_number w' → w ≡ w'
same_flaw w w' e = sym (back w) ∙ ap flaw_of e ∙ back w'

abbrev answered : Tally → Result Tally Flaw
answered t = Ok t

abbrev refused : Flaw → Result Tally Flaw
refused w = Err w

module _ (q : Rule) (at : ℕ) (tally : Tally) (keys seen keys' seen' keys'' seen'' : List ℕ) where
  pub note_rule : (r r' : Result Tally Flaw) → RuleNoted q at tally keys seen keys' seen' r → RuleNoted q at tally keys seen keys'' seen'' r'
      → (r ≡ r') × (keys' ≡ keys'') × (seen' ≡ seen'')
  note_rule (Ok t) (Ok u) e f = (ap answered (only e.told f.told), only e.keyed f.keyed, only e.met f.met)
  note_rule (Ok t) (Err w) e f = absurd (numbered w (sym f.0 ∙ e.fine))
  note_rule (Err w) (Ok t) e f = absurd (numbered w (sym e.0 ∙ f.fine))
  note_rule (Err w) (Err x) e f = (ap refused (same_flaw w x (sym e.0 ∙ f.0)), only e.1 f.1, only e.2 f.2)

pub note_double : (q : Rule) (tally : Tally) (r r' : Result Tally Flaw) → DoubleNoted q tally r → DoubleNoted q tally r' → r ≡ r'
note_double q tally (Ok t) (Ok u) e f = ap answered (only e.1 f.1)
note_double q tally (Ok t) (Err w) e f = absurd (numbered w (sym f ∙ e.0))
note_double q tally (Err w) (Ok t) e f = absurd (numbered w (sym e ∙ f.0))
note_double q tally (Err w) (Err x) e f = ap refused (same_flaw w x (sym e ∙ f))

pub sort : (n : ℕ) (keys keys' keys'' : List ℕ) → keys' ≡ sorted (take n keys) ++ drop n keys → keys'' ≡ sorted (take n keys) ++ drop n keys → keys' ≡ keys''
sort n keys keys' keys'' e f = only e f

pub sort_keys : (n : ℕ) (keys keys' keys'' : List ℕ) → keys' ≡ sorted (take n keys) ++ drop n keys → keys'' ≡ sorted (take n keys) ++ drop n keys → keys' ≡ keys''
sort_keys = sort

-- ---- the hash of a pattern

pub hash_of_lem : (l : List ℕ) (r r' : ℕ) → (r ≡ hash_of l) × (r < hashes) → (r' ≡ hash_of l) × (r' < hashes) → r ≡ r'
hash_of_lem l r r' e f = only e.0 f.0

pub may_hold_lem : (seen : List ℕ) (h : ℕ) (r r' : Bool) → r ≡ may_hold seen h → r' ≡ may_hold seen h → r ≡ r'
may_hold_lem seen h r r' e f = only e f

pub note_folding : (c target : ℕ) (tally : Tally) (a a' a'' : List ℕ) (r r' : Result Tally Flaw) → FoldingNoted c target tally a a' r → FoldingNoted c target tally a a'' r'
    → (r ≡ r') × (a' ≡ a'')
note_folding c target tally a a' a'' (Ok t) (Ok u) e f = (ap answered (only e.2 f.2), only e.1 f.1)
note_folding c target tally a a' a'' (Ok t) (Err w) e f = absurd (omega (arith, e.0, f.0))
note_folding c target tally a a' a'' (Err w) (Ok t) e f = absurd (omega (arith, e.0, f.0))
note_folding c target tally a a' a'' (Err w) (Err x) e f = (ap refused (same_flaw w x (e.1 ∙ sym f.1)), only e.2 f.2)
