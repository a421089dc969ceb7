-- The items of a text are clean. An item ends behind a newline or where the text ends, and a pattern stands between two quotes; both are ASCII bytes, and an
-- ASCII byte splits a text: so a pattern is a text, and behind an item the text goes on. The bytes pass a test that zero fails: so no character is U+0000.
-- Assumes nothing.
use Prim.Native.Nat.{ℕ, zero, suc, ◌+◌, ◌-◌, ◌<◌}
use mathlib.Core.Path.{◌≡◌, refl, sym, ap, subst, ◌∙◌}
use mathlib.Core.Logic.{◌⊎◌, inl, inr}
use mathlib.Core.Bool.{Bool, true, false, cond, ◌&&◌}
use mathlib.Core.List.{List, [], ◌∷◌, ◌++◌}
use native.Mathlib.Omega.{arith}
use native.Mathlib.Numerals.{sub-one}
use borrow.Author.Tests.{eqb-true, ltb-true}
use lib.Dec.{eqb, ltb, lit<}
use lib.ListN.{length, get_or, take, drop, length-drop, take-append-drop, get_or-eq_default}
use lib.Seq.{drop-drop, split_at}
use Rattle.std.specs.Prelude.{Option, Some, None}
use Rattle.laws.specs.Lists.{every, cut, until}
use Rattle.laws.proofs.Tests.{and_true, by_test}
use Rattle.laws.proofs.Bits.{by_order}
use Rattle.laws.proofs.Cuts.{every_drop, every_cut}
use Rattle.chars.specs.Utf8.{scalar, char_of, text_from, is_text}
use Rattle.chars.specs.declared.Char.{Char}
use Rattle.chars.specs.declared.Char.TheVariants.{One, Bad, End}
use Rattle.chars.proofs.Exact.{decoded_one}
use Rattle.chars.proofs.Splits.{ascii_behind, ascii_splits, char_above}
use Rattle.rule_text.specs.Forms.{
  newline,
  quote,
  backslash,
  equals,
  slash,
  star,
  pair_at,
  onward,
  onward_quoted,
  onward_letter,
  later,
  held,
  blanks,
  comment,
  ending,
  end_of_line,
  line_at,
  plain,
  escaped,
  part,
  part_at,
  inside,
  quadruplet,
  letter,
  letter_at,
  folding,
  closing,
  multiline_comment,
  or_comment,
  or_line_end,
  or_folding,
  or_rule,
  entry,
}
use Rattle.rule_text.specs.Items.{Saying, Item, taken, item_of, followed, items_from, items}
use Rattle.rule_text.specs.Items.Saying.{RuleItem, FoldingItem, LineEndItem, CommentItem, UnknownItem}
use Rattle.rule_text.specs.declared.Span.{Span}
use Rattle.rule_text.specs.declared.Quoted.{Quoted}
use Rattle.rule_text.specs.declared.Symbol.{Symbol}
use Rattle.rule_text.specs.declared.Four.{Four}
use Rattle.rule_text.specs.declared.Pair.{Pair}
use Rattle.rule_text.specs.declared.Entry.{Entry}
use Rattle.rule_text.specs.declared.Entry.TheVariants as E

-- ---- where an item ends

-- The place is behind a newline, or nothing stands from it on.
abbrev Stop : List ℕ → ℕ → Type 0
Stop l n = (drop n l ≡ []) ⊎ ((m : ℕ) × (drop m l ≡ newline ∷ drop n l))

stop_text : (l : List ℕ) (n : ℕ) → is_text l ≡ true → Stop l n → is_text (drop n l) ≡ true
unfolding text_from
stop_text l n h (inl e) = ap is_text e
stop_text l n h (inr s) =
    ascii_behind newline (lit< tt) (drop n l)
    (ascii_splits newline (lit< tt) (drop n l) (take s.0 l)
    (ap is_text (ap (λ (r : List ℕ). take s.0 l ++ r) (sym s.1) ∙ take-append-drop s.0 l) ∙ h)).1

stop_passes : (x : ℕ) (xs : List ℕ) (n : ℕ) → Stop (x ∷ xs) n → 0 < n
stop_passes x xs zero (inl e) = absurd (omega (arith, ap length e))
stop_passes x xs zero (inr s) = absurd (omega (arith, sym (length-drop s.0 (x ∷ xs)) ∙ ap length s.1))
stop_passes x xs (suc n) s = omega arith

abbrev Ended : List ℕ → Option ℕ → Type 0
Ended l (Some n) = Stop l n
Ended l None = Unit {0}

later_ended : (a : ℕ) (l : List ℕ) (r : Option ℕ) → Ended (drop a l) r → Ended l (later a r)
unfolding later
later_ended a l (Some n) (inl e) = inl (sym (drop-drop n a l) ∙ e)
later_ended a l (Some n) (inr s) = inr (a + s.0, sym (drop-drop s.0 a l) ∙ s.1 ∙ ap (λ (r : List ℕ). newline ∷ r) (drop-drop n a l))
later_ended a l None s = tt

ending_ended : (l : List ℕ) → Ended l (ending l)
unfolding ending pair_at
ending_ended [] = inl refl
ending_ended (x ∷ xs) =
    by_test (Ended (x ∷ xs)) (eqb (length (x ∷ xs)) 0) (Some 0) _ (λ e. absurd (omega (arith, eqb-true (length (x ∷ xs)) 0 e))) λ e.
    by_test (Ended (x ∷ xs)) (eqb x newline) (Some 1) _ (λ f. inr (0, ap (λ (c : ℕ). c ∷ xs) (eqb-true x newline f))) λ f.
    by_test (Ended (x ∷ xs)) (eqb x 13 && eqb (get_or xs 0 0) newline) (Some 2) None
    (λ g. second xs (eqb-true (get_or xs 0 0) newline (and_true (eqb x 13) (eqb (get_or xs 0 0) newline) g).1)) (λ g. tt)
  where
    second : (l : List ℕ) → get_or l 0 0 ≡ newline → Stop (x ∷ l) 2
    second [] e = absurd (omega arith)
    second (y ∷ l) e = inr (1, ap (λ (c : ℕ). c ∷ l) e)

end_of_line_lem : (l : List ℕ) → Ended l (end_of_line l)
unfolding end_of_line
end_of_line_lem l =
    let behind = drop (blanks l) l in
    later_ended (blanks l) l (later (comment behind) (ending (drop (comment behind) behind)))
    (later_ended (comment behind) behind (ending (drop (comment behind) behind)) (ending_ended (drop (comment behind) behind)))

line_at_lem : (l : List ℕ) (at : ℕ) → Ended l (line_at l at)
unfolding line_at
line_at_lem l at = later_ended at l (end_of_line (drop at l)) (end_of_line_lem (drop at l))

-- ---- going on behind a form: what holds where it does not fit, and of whatever is found behind it, holds

module _ {A : Type 0} (K : A → Type 0) (none : A) where
  onward_keeps : (r : Option ℕ) (go : ℕ → A) → K none → ((n : ℕ) → r ≡ Some n → K (go n)) → K (onward r none go)
  onward_keeps (Some n) go h f = f n refl
  onward_keeps None go h f = h

  quoted_keeps : (r : Option Quoted) (go : Span → ℕ → A) → K none → ((q : Quoted) → r ≡ Some q → K (go q.content q.next)) → K (onward_quoted r none go)
  quoted_keeps (Some q) go h f = f q refl
  quoted_keeps None go h f = h

  letter_keeps : (r : Option Symbol) (go : ℕ → ℕ → A) → K none → ((s : Symbol) → r ≡ Some s → K (go s.code s.next)) → K (onward_letter r none go)
  letter_keeps (Some s) go h f = f s refl
  letter_keeps None go h f = h

-- ---- a pattern is a text

-- A byte that is not zero stands within the bytes.
within : (l : List ℕ) (at b : ℕ) → get_or l at 0 ≡ b → 0 < b → at < length l
within l at b e h = by_order (at < length l) at (length l) (λ i. i) (λ i. absurd (omega (arith, sym e ∙ get_or-eq_default l 0 i)))

before_quote : (l : List ℕ) (at : ℕ) → get_or l at 0 ≡ quote → is_text l ≡ true → is_text (take at l) ≡ true
before_quote l at e h =
    (ascii_splits quote (lit< tt) (drop (suc at) l) (take at l)
    (ap is_text (ap (λ (b : ℕ). take at l ++ (b ∷ drop (suc at) l)) (sym e) ∙ sym (split_at l at 0 (within l at quote e (lit< tt)))) ∙ h)).0

until_is : (b : ℕ) (l : List ℕ) → until b l < length l → get_or l (until b l) 0 ≡ b
unfolding until
until_is b [] h = absurd (omega arith)
until_is b (x ∷ xs) h = go (eqb x b) (eqb-true x b) h (until_is b xs)
  where
    go : (t : Bool) → (t ≡ true → x ≡ b) → cond t 0 (suc (until b xs)) < suc (length xs) → (until b xs < length xs → get_or xs (until b xs) 0 ≡ b)
        → get_or (x ∷ xs) (cond t 0 (suc (until b xs))) 0 ≡ b
    go true e i below = e refl
    go false e i below = below (omega arith)

abbrev Inside : List ℕ → Option Quoted → Type 0
Inside l (Some q) = is_text (cut l q.content.start q.content.end) ≡ true
Inside l None = Unit {0}

escaped_inside : (x : ℕ) (xs : List ℕ) → is_text xs ≡ true → Inside (x ∷ xs) (escaped (x ∷ xs))
unfolding escaped
escaped_inside x xs h =
    by_test (Inside (x ∷ xs)) (eqb (get_or xs 2 0) quote) (Some (held 1 3 4)) None (λ e. before_quote xs 2 (eqb-true (get_or xs 2 0) quote e) h) (λ e. tt)

plain_inside : (x : ℕ) (xs : List ℕ) → is_text xs ≡ true → Inside (x ∷ xs) (plain (x ∷ xs))
unfolding plain
plain_inside x xs h =
    let n = until quote xs in
    by_test (Inside (x ∷ xs)) (ltb (1 + n) (length (x ∷ xs))) (Some (held 1 (1 + n) (1 + n + 1))) None
    (λ e.
    let i = ltb-true (1 + n) (length (x ∷ xs)) e in
    let same : 1 + n - 1 ≡ n = omega arith in
    ap (λ (k : ℕ). is_text (take k xs)) same ∙ before_quote xs n (until_is quote xs (omega arith)) h)
    (λ e. tt)

part_inside : (l : List ℕ) → is_text l ≡ true → Inside l (part l)
unfolding part
part_inside [] h = tt
part_inside (x ∷ xs) h =
    by_test (Inside (x ∷ xs)) (eqb x quote) _ None
    (λ e.
    let rest = ascii_behind quote (lit< tt) xs (ap (λ (c : ℕ). is_text (c ∷ xs)) (sym (eqb-true x quote e)) ∙ h) in
    by_test (Inside (x ∷ xs)) (pair_at (x ∷ xs) 1 backslash quote) _ _ (λ f. escaped_inside x xs rest) (λ f. plain_inside x xs rest))
    (λ e. tt)

-- ---- the items, where each byte passes a test that zero fails

module _ (t : ℕ → Bool) where
  -- A pattern is a text whose bytes pass; a key and a target are scalar values and not U+0000.
  abbrev pub Clean : Saying → Type 0
  Clean (RuleItem p s v o) = (is_text p ≡ true) × (every t p ≡ true)
  Clean (FoldingItem key target) = (scalar key ≡ true) × (0 < key) × (scalar target ≡ true) × (0 < target)
  Clean LineEndItem = Unit {0}
  Clean CommentItem = Unit {0}
  Clean UnknownItem = Unit {0}

  -- Each item is clean.
  abbrev pub AllClean : List Item → Type 0
  AllClean [] = Unit {0}
  AllClean (i ∷ more) = Clean i.saying × AllClean more

  -- What an entry of l says is clean, and it stops.
  abbrev Sound : List ℕ → Entry → Type 0
  Sound l (E.Rule four) = Clean (RuleItem (inside l four.pattern) [] [] []) × Stop l four.next
  Sound l (E.Folding key target next) = Clean (FoldingItem key target) × Stop l next
  Sound l (E.LineEnd next) = Stop l next
  Sound l (E.Comment next) = Stop l next
  Sound l E.Unknown = Unit {0}

  abbrev SoundRule : List ℕ → Option Four → Type 0
  SoundRule l (Some four) = Clean (RuleItem (inside l four.pattern) [] [] []) × Stop l four.next
  SoundRule l None = Unit {0}

  abbrev SoundFolding : List ℕ → Option Pair → Type 0
  SoundFolding l (Some p) = Clean (FoldingItem p.key p.target) × Stop l p.next
  SoundFolding l None = Unit {0}

  abbrev SoundLetter : Option Symbol → Type 0
  SoundLetter (Some s) = (scalar s.code ≡ true) × (0 < s.code)
  SoundLetter None = Unit {0}

  module _ (z : t 0 ≡ false) (l : List ℕ) (h : is_text l ≡ true) (passes : every t l ≡ true) where
    rule_sound : SoundRule l (quadruplet l)
    unfolding quadruplet
    rule_sound =
        quoted_keeps (SoundRule l) None (part l) _ tt λ p e.
        quoted_keeps (SoundRule l) None (part_at l p.next) _ tt λ s _.
        quoted_keeps (SoundRule l) None (part_at l s.next) _ tt λ v _.
        quoted_keeps (SoundRule l) None (part_at l v.next) _ tt λ o _.
        onward_keeps (SoundRule l) None (line_at l o.next) _ tt λ next f.
        ((subst (Inside l) e (part_inside l h), every_cut t l p.content.start p.content.end passes), subst (Ended l) f (line_at_lem l o.next))

    letter_sound : (at : ℕ) → SoundLetter (letter_at l at)
    unfolding letter_at
    letter_sound at = go (char_of (drop at l)) refl
      where
        go : (r : Char) → char_of (drop at l) ≡ r → SoundLetter (letter at r)
        go (One c w) e = ((decoded_one (drop at l) c w e).0, char_above t z (drop at l) c w e (every_drop t at l passes))
        go Bad e = tt
        go End e = tt

    folding_sound : SoundFolding l (folding l)
    unfolding folding
    folding_sound =
        letter_keeps (SoundFolding l) None (letter_at l 0) _ tt λ k e.
        by_test (SoundFolding l) (eqb (get_or l k.next 0) equals) _ None
        (λ q.
        letter_keeps (SoundFolding l) None (letter_at l (k.next + 1)) _ tt λ x f.
        onward_keeps (SoundFolding l) None (line_at l x.next) _ tt λ next g.
        let y = subst SoundLetter e (letter_sound 0) in
        let z = subst SoundLetter f (letter_sound (k.next + 1)) in ((y.0, y.1, z.0, z.1), subst (Ended l) g (line_at_lem l x.next)))
        (λ q. tt)

    comment_sound : Ended l (multiline_comment l)
    unfolding multiline_comment
    comment_sound =
        by_test (Ended l) (pair_at l 0 slash star) _ None
        (λ q. onward_keeps (Ended l) None (closing (drop 2 l)) (λ n. line_at l (n + 4)) tt λ n _. line_at_lem l (n + 4))
        (λ q. tt)

    entry_sound : Sound l (entry l)
    unfolding entry
    entry_sound = rule (quadruplet l) _ rule_sound (pair (folding l) _ folding_sound (line (end_of_line l) _ (end_of_line_lem l) (block (multiline_comment l) comment_sound)))
      where
        rule : (r : Option Four) (e : Entry) → SoundRule l r → Sound l e → Sound l (or_rule r e)
        rule (Some four) e a b = a
        rule None e a b = b

        pair : (r : Option Pair) (e : Entry) → SoundFolding l r → Sound l e → Sound l (or_folding r e)
        pair (Some p) e a b = a
        pair None e a b = b

        line : (r : Option ℕ) (e : Entry) → Ended l r → Sound l e → Sound l (or_line_end r e)
        line (Some next) e a b = a
        line None e a b = b

        block : (r : Option ℕ) → Ended l r → Sound l (or_comment r)
        block (Some next) a = a
        block None a = tt

  -- Behind an item the items go on, clean.
  goes_on : (place x : ℕ) (xs : List ℕ) → is_text (x ∷ xs) ≡ true → (e : Entry) → Sound (x ∷ xs) e
      → ((k : ℕ) → is_text (drop k xs) ≡ true → AllClean (items_from (suc place) k xs))
      → AllClean (item_of place (x ∷ xs) e ∷ followed e (items_from (suc place) (taken (x ∷ xs) e - 1) xs))
  goes_on place x xs h e s below = go e s
    where
      on : (n : ℕ) → Stop (x ∷ xs) n → AllClean (items_from (suc place) (n - 1) xs)
      on zero s = absurd (omega (arith, stop_passes x xs 0 s))
      on (suc n) s = rw sub-one (below n (stop_text (x ∷ xs) (suc n) h s))

      go : (e : Entry) → Sound (x ∷ xs) e → AllClean (item_of place (x ∷ xs) e ∷ followed e (items_from (suc place) (taken (x ∷ xs) e - 1) xs))
      go (E.Rule four) a = (a.0, on four.next a.1)
      go (E.Folding key target next) a = (a.0, on next a.1)
      go (E.LineEnd next) a = (tt, on next a)
      go (E.Comment next) a = (tt, on next a)
      go E.Unknown a = (tt, tt)

  clean_from : t 0 ≡ false → (place k : ℕ) (l : List ℕ) → is_text (drop k l) ≡ true → every t l ≡ true → AllClean (items_from place k l)
  unfolding items_from
  clean_from z place k [] h passes = tt
  clean_from z place (suc k) (x ∷ xs) h passes = clean_from z (suc place) k xs h (and_true (t x) (every t xs) passes).1
  clean_from z place zero (x ∷ xs) h passes =
      goes_on place x xs h (entry (x ∷ xs)) (entry_sound z (x ∷ xs) h passes) (λ k i. clean_from z (suc place) k xs i (and_true (t x) (every t xs) passes).1)

  -- Each item of a text whose bytes pass a test that zero fails is clean.
  pub items_clean : t 0 ≡ false → (text : List ℕ) → is_text text ≡ true → every t text ≡ true → AllClean (items text)
  items_clean z text h passes = clean_from z 0 0 text h passes
