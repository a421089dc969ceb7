-- How far each form reaches, of the definitions themselves: every place lies within the bytes, and an item takes one at least where there is one.
-- Assumes nothing.
use mathlib.Core.Path.{◌≡◌, refl, sym, subst}
use mathlib.Core.Bool.{◌&&◌, ◌||◌}
use mathlib.Core.List.{List, [], ◌∷◌}
use Prim.Native.Nat.{ℕ, suc, ◌+◌, ◌≤◌}
use native.Mathlib.Omega.{arith}
use borrow.Author.Tests.{eqb-true, ltb-true}
use lib.Dec.{eqb, ltb}
use lib.ListN.{length, get_or, drop}
use Rattle.std.specs.Prelude.{Option, Some, None}
use Rattle.laws.specs.Lists.{until}
use Rattle.laws.proofs.Lists.{rest}
use Rattle.laws.proofs.Tests.{by_test, and_true}
use Rattle.laws.proofs.Parts.{lent, within}
use Rattle.chars.specs.Utf8.{char_of}
use Rattle.chars.specs.Answers.{Reaches}
use Rattle.chars.specs.declared.Char.{Char}
use Rattle.chars.specs.declared.Char.TheVariants.{One, Bad, End}
use Rattle.chars.proofs.Places.{reaches}
use Rattle.rule_text.specs.Forms.{space, tab, newline, return, slash, star, quote, equals, backslash, pair_at, blanks, comment, ending, later, end_of_line}
use Rattle.rule_text.specs.Forms.{line_at, plain, escaped, part, later_quoted, part_at, onward, onward_quoted, onward_letter, quadruplet, letter, letter_at}
use Rattle.rule_text.specs.Forms.{folding, closing, multiline_comment, or_rule, or_folding, or_line_end, or_comment, entry}
use Rattle.rule_text.specs.Answers.{EndsLine, From, Closes, Holds, HoldsFour, Reads, Pairs, Comments, Lies}
use Rattle.rule_text.specs.declared.Span.{Span}
use Rattle.rule_text.specs.declared.Quoted.{Quoted}
use Rattle.rule_text.specs.declared.Symbol.{Symbol}
use Rattle.rule_text.specs.declared.Four.{Four}
use Rattle.rule_text.specs.declared.Pair.{Pair}
use Rattle.rule_text.proofs.Counts.{pair_within}
use Rattle.rule_text.proofs.Ends.{line_ends, at_from}
use Rattle.rule_text.proofs.Quotes.{at_holds, four_holds}
use Rattle.rule_text.proofs.Folds.{letter_reads, folds_pairs}
use Rattle.rule_text.proofs.Blocks.{closes, comments}

-- ---- counts

blanks_most : (l : List ℕ) → blanks l ≤ length l
unfolding blanks
blanks_most [] = omega arith
blanks_most (x ∷ xs) =
    let n = blanks_most xs in by_test (λ (k : ℕ). k ≤ suc (length xs)) (eqb x space || eqb x tab) (suc (blanks xs)) 0 (λ t. omega arith) (λ t. omega arith)

until_most : (b : ℕ) (l : List ℕ) → until b l ≤ length l
unfolding until
until_most b [] = omega arith
until_most b (x ∷ xs) =
    let n = until_most b xs in by_test (λ (k : ℕ). k ≤ suc (length xs)) (eqb x b) 0 (suc (until b xs)) (λ t. omega arith) (λ t. omega arith)

comment_most : (l : List ℕ) → comment l ≤ length l
unfolding comment
comment_most l = by_test (λ (k : ℕ). k ≤ length l) (pair_at l 0 slash slash) (until newline l) 0 (λ t. until_most newline l) (λ t. omega arith)

-- ---- the line end

to : (at k : ℕ) → later at (Some k) ≡ Some (at + k)
unfolding later
to at k = refl

no : (at : ℕ) → later at None ≡ None
unfolding later
no at = refl

ending_ends : (l : List ℕ) → EndsLine (length l) (ending l)
unfolding ending
ending_ends l =
    by_test (EndsLine (length l)) (eqb (length l) 0) _ _
    (λ t. let e = eqb-true (length l) 0 t in (omega arith, λ h. omega arith)) λ t.
    by_test (EndsLine (length l)) (eqb (get_or l 0 0) newline) _ _
    (λ u. let n = within l 0 newline (omega arith) (eqb-true (get_or l 0 0) newline u) in (omega arith, λ h. omega arith)) λ u.
    by_test (EndsLine (length l)) (pair_at l 0 return newline) _ _
    (λ w. let n = pair_within l 0 return newline (omega arith) w in (omega arith, λ h. omega arith)) (λ w. tt)

line : (l : List ℕ) (n m : ℕ) (r : Option ℕ) → n ≤ length l → m ≤ length (lent n l)
    → EndsLine (length (lent m (lent n l))) r → EndsLine (length l) (later n (later m r))
unfolding later
line l n m (Some k) h i e = line_ends l n m k h i e
line l n m None h i e = tt

ends_line : (l : List ℕ) → EndsLine (length l) (end_of_line l)
unfolding end_of_line
ends_line l =
    let n = blanks l in
    let m = comment (drop n l) in
    line l n m (ending (drop m (drop n l))) (blanks_most l) (subst (λ (s : List ℕ). m ≤ length s) (sym (rest n l)) (comment_most (drop n l)))
    (subst (λ (s : List ℕ). EndsLine (length (lent m s)) (ending (drop m (drop n l)))) (sym (rest n l))
    (subst (λ (s : List ℕ). EndsLine (length s) (ending (drop m (drop n l)))) (sym (rest m (drop n l))) (ending_ends (drop m (drop n l)))))

from_line : (l : List ℕ) (at : ℕ) → at ≤ length l → From at (length l) (line_at l at)
unfolding line_at
from_line l at h = go (end_of_line (drop at l)) (subst (λ (s : List ℕ). EndsLine (length s) (end_of_line (drop at l))) (sym (rest at l)) (ends_line (drop at l)))
  where
    go : (r : Option ℕ) → EndsLine (length (lent at l)) r → From at (length l) (later at r)
    go (Some k) e = subst (From at (length l)) (sym (to at k)) (at_from l at k h e)
    go None e = subst (From at (length l)) (sym (no at)) tt

-- ---- a rule

part_holds : (l : List ℕ) → Holds 0 (length l) (part l)
unfolding part escaped plain
part_holds l =
    by_test (Holds 0 (length l)) (eqb (get_or l 0 0) quote) _ _ (λ t.
    by_test (Holds 0 (length l)) (pair_at l 1 backslash quote) _ _ (λ u.
    by_test (Holds 0 (length l)) (eqb (get_or l 3 0) quote) _ _
    (λ w.
    let n = within l 3 quote (omega arith) (eqb-true (get_or l 3 0) quote w) in
    record { after = omega arith; ordered = omega arith; closed = omega arith; within = omega arith; some = omega arith }) (λ w. tt)) λ u.
    by_test (Holds 0 (length l)) (ltb (1 + until quote (drop 1 l)) (length l)) _ _
    (λ w.
    let n = ltb-true (1 + until quote (drop 1 l)) (length l) w in
    record { after = omega arith; ordered = omega arith; closed = omega arith; within = omega arith; some = omega arith }) (λ w. tt)) (λ t. tt)

part_at_holds : (l : List ℕ) (at : ℕ) → at ≤ length l → Holds at (length l) (part_at l at)
unfolding part_at
part_at_holds l at h =
    let n = blanks (drop at l) in
    let i = subst (λ (s : List ℕ). n ≤ length s) (sym (rest at l)) (blanks_most (drop at l)) in
    let r = part (drop (at + n) l) in
    let b = subst (λ (s : List ℕ). Holds 0 (length s) r) (sym (rest (at + n) l)) (part_holds (drop (at + n) l)) in
    by_test (Holds at (length l)) (eqb n 0) _ _ (λ t. tt) (λ t. go n i r b)
  where
    go : (n : ℕ) → n ≤ length (lent at l) → (r : Option Quoted) → Holds 0 (length (lent (at + n) l)) r → Holds at (length l) (later_quoted (at + n) r)
    go n i (Some q) b = at_holds l at n q h i b
    go n i None b = tt

-- Going on behind a part, a letter or a line end keeps what is wanted of the form above.
quoted : {A : Type 0} (W : A → Type 0) (r : Option Quoted) (none : A) (go : Span → ℕ → A) (at n : ℕ) → Holds at n r → W none
    → ((q : Quoted) → Holds at n (Some q) → W (go q.content q.next)) → W (onward_quoted r none go)
quoted W (Some q) none go at n b w f = f q b
quoted W None none go at n b w f = w

lettered : {A : Type 0} (W : A → Type 0) (r : Option Symbol) (none : A) (go : ℕ → ℕ → A) (at n : ℕ) → Reads at n r → W none
    → ((s : Symbol) → Reads at n (Some s) → W (go s.code s.next)) → W (onward_letter r none go)
lettered W (Some s) none go at n b w f = f s b
lettered W None none go at n b w f = w

lined : {A : Type 0} (W : A → Type 0) (r : Option ℕ) (none : A) (go : ℕ → A) (X : Option ℕ → Type 0) → X r → W none
    → ((next : ℕ) → X (Some next) → W (go next)) → W (onward r none go)
lined W (Some next) none go X b w f = f next b
lined W None none go X b w f = w

holds_four : (l : List ℕ) → HoldsFour (length l) (quadruplet l)
unfolding quadruplet
holds_four l =
    quoted (HoldsFour (length l)) (part l) None _ 0 (length l) (part_holds l) tt λ p x.
    quoted (HoldsFour (length l)) (part_at l p.next) None _ p.next (length l) (part_at_holds l p.next x.within) tt λ s y.
    quoted (HoldsFour (length l)) (part_at l s.next) None _ s.next (length l) (part_at_holds l s.next y.within) tt λ v z.
    quoted (HoldsFour (length l)) (part_at l v.next) None _ v.next (length l) (part_at_holds l v.next z.within) tt λ o w.
    lined (HoldsFour (length l)) (line_at l o.next) None _ (From o.next (length l)) (from_line l o.next w.within) tt (λ next e. four_holds x y z w e)

-- ---- a folding

letter_at_reads : (l : List ℕ) (at : ℕ) → at ≤ length l → Reads at (length l) (letter_at l at)
unfolding letter_at
letter_at_reads l at h = go (char_of (drop at l)) (reaches l at h)
  where
    go : (c : Char) → Reaches at (length l) c → Reads at (length l) (letter at c)
    go (One c w) b = letter_reads at (length l) c w b
    go Bad b = tt
    go End b = tt

folding_pairs : (l : List ℕ) → Pairs (length l) (folding l)
unfolding folding
folding_pairs l =
    lettered (Pairs (length l)) (letter_at l 0) None _ 0 (length l) (letter_at_reads l 0 (omega arith)) tt λ k x.
    by_test (Pairs (length l)) (eqb (get_or l k.next 0) equals) _ _ (λ t.
    let i : k.next + 1 ≤ length l = let w = within l k.next equals (omega arith) (eqb-true (get_or l k.next 0) equals t) in omega arith in
    lettered (Pairs (length l)) (letter_at l (k.next + 1)) None _ (k.next + 1) (length l) (letter_at_reads l (k.next + 1) i) tt λ t y.
    lined (Pairs (length l)) (line_at l t.next) None _ (From t.next (length l)) (from_line l t.next y.within) tt (λ next e. folds_pairs x y e)) (λ t. tt)

-- ---- a block comment

closing_closes : (l : List ℕ) → Closes (length l) (closing l)
unfolding closing
closing_closes [] = tt
closing_closes (x ∷ xs) =
    by_test (Closes (suc (length xs))) (eqb x star && eqb (get_or xs 0 0) slash) _ _
    (λ t. let n = within xs 0 slash (omega arith) (eqb-true (get_or xs 0 0) slash (and_true (eqb x star) (eqb (get_or xs 0 0) slash) t).1) in omega arith)
    (λ t. go (closing xs) (closing_closes xs))
  where
    go : (r : Option ℕ) → Closes (length xs) r → Closes (suc (length xs)) (later 1 r)
    go (Some k) b = subst (Closes (suc (length xs))) (sym (to 1 k)) (let c : k + 2 ≤ length xs = b in omega arith)
    go None b = subst (Closes (suc (length xs))) (sym (no 1)) tt

comment_reaches : (l : List ℕ) → Comments (length l) (multiline_comment l)
unfolding multiline_comment
comment_reaches l =
    by_test (Comments (length l)) (pair_at l 0 slash star) _ _ (λ t.
    let two : 2 ≤ length l = let w = pair_within l 0 slash star (omega arith) t in omega arith in
    let c = subst (λ (s : List ℕ). Closes (length s) (closing (drop 2 l))) (sym (rest 2 l)) (closing_closes (drop 2 l)) in
    lined (Comments (length l)) (closing (drop 2 l)) None _ (Closes (length (lent 2 l))) c tt λ n b.
    comments n (length l) (line_at l (n + 4)) (from_line l (n + 4) (closes l n two b))) (λ t. tt)

-- ---- an item

pub lies : (l : List ℕ) → Lies (length l) (entry l)
unfolding entry
lies l = rule (quadruplet l) (holds_four l)
  where
    block : (r : Option ℕ) → Comments (length l) r → Lies (length l) (or_comment r)
    block (Some next) h = h
    block None h = tt

    line_end : (r : Option ℕ) → EndsLine (length l) r → Lies (length l) (or_line_end r (or_comment (multiline_comment l)))
    line_end (Some next) h = h
    line_end None h = block (multiline_comment l) (comment_reaches l)

    pair : (p : Option Pair) → Pairs (length l) p → Lies (length l) (or_folding p (or_line_end (end_of_line l) (or_comment (multiline_comment l))))
    pair (Some p) h = h
    pair None h = line_end (end_of_line l) (ends_line l)

    rule : (p : Option Four) → HoldsFour (length l) p → Lies (length l) (or_rule p (or_folding (folding l) (or_line_end (end_of_line l) (or_comment (multiline_comment l)))))
    rule (Some four) h = h
    rule None h = pair (folding l) (folding_pairs l)
