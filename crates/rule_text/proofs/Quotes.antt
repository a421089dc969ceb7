-- A quoted part: the first quote that `position` answers, the bounds from a place on, and those of four of them. Assumes nothing.
use mathlib.Core.Path.{◌≡◌, refl, sym, ap, ◌∙◌}
use mathlib.Core.Bool.{Bool, true, false, cond}
use mathlib.Core.List.{List}
use Prim.Native.Nat.{ℕ, ◌+◌, ◌<◌, ◌≤◌}
use native.Mathlib.Omega.{arith}
use borrow.Author.Tests.{lt-ltb, le-ltb, ltb-true, ltb-false}
use lib.Dec.{eqb, ltb}
use lib.ListN.{length, drop}
use Rattle.std.specs.Prelude.{Option, Some, None}
use Rattle.std.specs.List.{position_or_len}
use Rattle.laws.specs.Lists.{until}
use Rattle.laws.proofs.Lists.{rest}
use Rattle.laws.proofs.Parts.{lent, lent_length}
use Rattle.chars.proofs.Counted.{until_is}
use Rattle.rule_text.specs.Forms.{quote, held, plain}
use Rattle.rule_text.specs.Answers.{From, Holds, FourIn}
use Rattle.rule_text.specs.declared.Quoted.{Quoted}

module _ (l : List ℕ) where
  -- Behind the quote in front `position` answers the first.
  module _ (h : 1 ≤ length l) {r : Option ℕ} (e : let p = position_or_len (λ x. eqb x quote) (lent 1 l) in r ≡ cond (ltb p (length (lent 1 l))) (Some p) None) where
    abbrev p : ℕ
    p = position_or_len (λ x. eqb x quote) (lent 1 l)

    is : until quote (drop 1 l) ≡ p
    is = ap (until quote) (sym (rest 1 l)) ∙ until_is quote (lent 1 l)

    pub plain_found : (k : ℕ) → r ≡ Some k → (Some (held 1 (1 + k) (1 + k + 1)) ≡ plain l) × (1 + k < length l)
    unfolding plain
    plain_found k f = go (ltb p (length (lent 1 l))) (ltb-true p (length (lent 1 l))) (sym f ∙ e)
      where
        go : (t : Bool) → (t ≡ true → p < length (lent 1 l)) → Some k ≡ cond t (Some p) None → (Some (held 1 (1 + k) (1 + k + 1)) ≡ plain l) × (1 + k < length l)
        go true lt g = let x = lent_length 1 l in let q : k ≡ p = cc in let i = lt refl in let b : 1 + k < length l = omega arith in (rw (is, sym q, lt-ltb _ _ b), b)
        go false lt g = absurd cc

    pub plain_none : r ≡ None → None ≡ plain l
    unfolding plain
    plain_none f = go (ltb p (length (lent 1 l))) (ltb-false p (length (lent 1 l))) (sym f ∙ e)
      where
        go : (t : Bool) → (t ≡ false → length (lent 1 l) ≤ p) → None ≡ cond t (Some p) None → None ≡ plain l
        go true le g = absurd cc
        go false le g = let x = lent_length 1 l in let i = le refl in rw (is, le-ltb (1 + p) (length l) (omega arith))

  pub at_holds : (at n : ℕ) (q : Quoted) → at ≤ length l → n ≤ length (lent at l) → Holds 0 (length (lent (at + n) l)) (Some q)
      → Holds at (length l) (Some (held (at + n + q.content.start) (at + n + q.content.end) (at + n + q.next)))
  at_holds at n q h i r =
      let x = lent_length at l in
      let y = lent_length (at + n) l in
      let a = r.ordered in
      let b = r.closed in
      let c = r.within in
      let d = r.some in record { after = omega arith; ordered = omega arith; closed = omega arith; within = omega arith; some = omega arith }

-- Each part lies behind the one before, and the line end behind them all.
pub four_holds : {n next : ℕ} {p s v o : Quoted} → Holds 0 n (Some p) → Holds p.next n (Some s) → Holds s.next n (Some v) → Holds v.next n (Some o) → From o.next n (Some next)
    → FourIn n (record { pattern = p.content; start = s.content; vowel = v.content; other = o.content; next = next })
four_holds x y z w e =
    let x2 = x.closed in
    let y2 = y.closed in
    let y4 = y.some in
    let z2 = z.closed in
    let z4 = z.some in
    let w2 = w.closed in
    let w4 = w.some in
    let e0 = e.0 in
    record {
      pattern = (x.ordered, omega arith);
      start = (y.ordered, omega arith);
      vowel = (z.ordered, omega arith);
      other = (w.ordered, omega arith);
      within = e.1;
      some = omega arith;
    }
