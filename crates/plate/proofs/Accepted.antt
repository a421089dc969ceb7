-- What each function of `accept` answers at each way out, and what a turn of its loop leaves: the tests it made are those of the definition, in its order.
-- Assumes nothing.
use Rattle.std.specs.Bool.{then_some}
use Rattle.std.proofs.Common.{Option, Some, None, ◌≡◌, ℕ, zero, suc, ◌+◌, ◌-◌, ◌*◌, ◌/◌, ◌%◌, ◌^◌, ◌<◌, ◌≤◌, Bool, true, false, ◌&&◌, ◌||◌, eqb, ltb, leb, List, [], ◌∷◌, length, sym, refl, ap, ◌∙◌, subst, ap₂, arith, le-ltb, eq-eqb, ne_eqb, le-leb}
use lib.Pow.{high, low}
use borrow.Author.Tests.{lt-leb}
use Rattle.laws.specs.Lists.{every, between}
use Rattle.laws.proofs.Tests.{or_false, and_true, and_left_false, and_right_false, is_between, below_between, above_between, between_true}
use Rattle.laws.proofs.Bits.{by_order}
use Rattle.laws.proofs.Many.{and_holds, and_right_holds, and_swap, and_cross, every_append}
use Rattle.chars.specs.Utf8.{char_of, code_of, scalar}
use Rattle.chars.specs.Digits.{digit, is_alternative}
use Rattle.plate.specs.Bits.{number_at}
use Rattle.plate.specs.Plate.{most_digits, most_alternatives, Folding, Rule, Edition, most_bytes, most_foldings, good_field, good_pattern, good_rule, nonzero_scalar}
use Rattle.plate.specs.Plate.{good_folding, rising, first_code, ordered}
use Rattle.plate.specs.Read.{foldings_place, many, past, alternative_at, alternative_end, field_at, field_end, rule_at, rule_end, folding_at, folding_end, rule_count, folding_count, reserved}
use Rattle.plate.specs.Read.{rules_place, plate_at, plate_end, zero_filled, accepted_in}
use Rattle.plate.specs.Answers.{bytes_at, good_text, first_of, UpTo, last_digits, alternative_step, alternatives_step, field_step, fields_step, seen_of, in_order}
use Rattle.plate.specs.Answers.{rule_fits, rule_made, rule_seen, ordered_behind, rules_step, above, foldings_good}
use Rattle.plate.specs.Window.{Holds}
use Rattle.plate.specs.declared.Seen.{Seen}
use Rattle.plate.proofs.Place.{number_lt}
use Rattle.plate.proofs.Windows.{number_append}
use Rattle.plate.proofs.Listed.{length_many, many_cons, many_snoc, past_cons, past_add, every_turn, every_stop, count_in, count_over, between_in, between_none, between_over}
use Rattle.plate.proofs.Fronts.{told, untold, bytes_length, first_nonzero}

-- ---- answers taken apart

-- ---- digits

-- an ASCII digit, by its four bits
four_bits : (d : ℕ) → digit (48 + d) ≡ leb d 9
four_bits d = by_order (digit (48 + d) ≡ leb d 9) 9 d over within
  where
    over : 9 < d → digit (48 + d) ≡ leb d 9
    over h = above_between 48 57 (48 + d) (omega arith) ∙ sym (lt-leb d 9 h)

    within : d ≤ 9 → digit (48 + d) ≡ leb d 9
    within h = is_between 48 57 (48 + d) (omega arith) (omega arith) ∙ sym (le-leb d 9 h)

-- A pattern that is accepted has few bytes.
pub pattern_few : (s : List ℕ) (n at : ℕ) (r : Option ℕ) → r ≡ first_of (bytes_at s n at) → (c : ℕ) → r ≡ Some c → n ≤ most_bytes
pattern_few s n at r e c f =
    let p = bytes_at s n at in
    let good = (told (good_pattern p) (code_of (char_of p)) c e f).0 in
    let few = between_true 1 most_bytes (length p) (and_true (between 1 most_bytes (length p)) (good_text p) good).0 in
    omega (arith, few.1, bytes_length s n at)

module _ (s : List ℕ) where
  abbrev digit_at : ℕ → ℕ
  digit_at p = 48 + number_at s p 4

  abbrev digits_at : ℕ → ℕ → List ℕ
  digits_at n at = many digit_at (λ p. p + 4) n at

  -- The last n digits of the number at a place are the n that stand there.
  digits_at_lem : (n at : ℕ) → last_digits n (number_at s at (4 * n)) ≡ every digit (digits_at n at)
  digits_at_lem zero at = refl
  digits_at_lem (suc n) at =
      let d = number_at s (at + 4 * n) 4 in
      let behind = past (λ p. p + 4) n at in
      let whole : number_at s at (4 * suc n) ≡ number_at s at (4 * n) * 2 ^ 4 + d = ap (number_at s at) {x = 4 * suc n} {y = 4 * n + 4} (omega arith) ∙ number_append s at (4 * n) 4 in
      ap₂ (λ (x y : ℕ). leb x 9 && last_digits n y) (ap (λ (v : ℕ). v % 16) whole ∙ low (number_at s at (4 * n)) 4 (number_lt s (at + 4 * n) 4))
      (ap (λ (v : ℕ). v / 16) whole ∙ high (number_at s at (4 * n)) 4 (number_lt s (at + 4 * n) 4))
      ∙ ap₂ ◌&&◌ (sym (four_bits d) ∙ ap (λ (p : ℕ). digit (digit_at p)) (sym (past_add 4 n at))) (digits_at_lem n at)
      ∙ and_swap (digit (digit_at behind)) (every digit (digits_at n at))
      ∙ ap (λ (t : Bool). every digit (digits_at n at) && t) (sym (and_right_holds (digit (digit_at behind)) true refl))
      ∙ sym (ap (every digit) (many_snoc digit_at (λ p. p + 4) n at) ∙ every_append digit (digits_at n at) (digit_at behind ∷ []))

  -- ---- alternatives

  module _ (at n : ℕ) (e : n ≡ number_at s at 3) where
    abbrev alternative_of : ℕ → Option ℕ
    alternative_of k = then_some (is_alternative (digits_at k (at + 3))) (at + 3 + 4 * k)

    pub alternative_over : most_digits < n → None ≡ alternative_step s at
    alternative_over h =
        sym (ap (λ (t : Bool). then_some t (at + 3 + 4 * n)) (and_left_false _ (every digit (digits_at n (at + 3))) (count_over digit_at (λ p. p + 4) n (at + 3) most_digits h)))
        ∙ ap alternative_of e

    -- The count is right, so the digits decide.
    module _ (h : n ≤ most_digits) (v : ℕ) (f : v ≡ number_at s (at + 3) (4 * n)) (t : Bool) (d : t ≡ last_digits n v) where
      pub by_digits : (b : Bool) → t ≡ b → then_some b (at + 3 + 4 * n) ≡ alternative_step s at
      by_digits b g =
          ap (λ (x : Bool). then_some x (at + 3 + 4 * n))
          (sym g ∙ d ∙ ap (last_digits n) f ∙ digits_at_lem n (at + 3)
          ∙ sym (and_holds _ (every digit (digits_at n (at + 3))) (count_in digit_at (λ p. p + 4) n (at + 3) most_digits h)))
          ∙ ap alternative_of e

  -- ---- fields

  module _ (at n : ℕ) (h : 0 < n) (r : Option ℕ) (e : r ≡ alternative_step s at) where
    pub alternatives_turn : (next : ℕ) → r ≡ Some next → alternatives_step s (n - 1) next ≡ alternatives_step s n at
    alternatives_turn next f =
        let t = told (is_alternative (alternative_at s at)) (alternative_end s at) next e f in
        ap (alternatives_step s (n - 1)) (sym t.1)
        ∙ ap₂ then_some (every_turn (alternative_at s) (alternative_end s) is_alternative n at h t.0) (sym (past_cons (alternative_end s) n at h))

    pub alternatives_stop : r ≡ None → None ≡ alternatives_step s n at
    alternatives_stop f =
        ap (λ (t : Bool). then_some t (past (alternative_end s) n at))
        (every_stop (alternative_at s) (alternative_end s) is_alternative n at h (untold (is_alternative (alternative_at s at)) (alternative_end s at) e f))

  pub alternatives_end : (n at : ℕ) → n ≤ 0 → alternatives_step s n at ≡ Some at
  alternatives_end zero at h = refl
  alternatives_end (suc n) at h = absurd (omega arith)

  module _ (at n : ℕ) (e : n ≡ number_at s at 4) where
    abbrev field_of : ℕ → Option ℕ
    field_of k = then_some (good_field (many (alternative_at s) (alternative_end s) k (at + 4))) (past (alternative_end s) k (at + 4))

    field_out : between 1 most_alternatives (length (many (alternative_at s) (alternative_end s) n (at + 4))) ≡ false → None ≡ field_step s at
    field_out h =
        sym (ap (λ (t : Bool). then_some t (past (alternative_end s) n (at + 4))) (and_left_false _ (every is_alternative (many (alternative_at s) (alternative_end s) n (at + 4))) h))
        ∙ ap field_of e

    pub field_none : n < 1 → None ≡ field_step s at
    field_none h = field_out (between_none (alternative_at s) (alternative_end s) n (at + 4) most_alternatives h)

    pub field_over : most_alternatives < n → None ≡ field_step s at
    field_over h = field_out (between_over (alternative_at s) (alternative_end s) n (at + 4) most_alternatives h)

    pub field_is : 1 ≤ n → n ≤ most_alternatives → alternatives_step s n (at + 4) ≡ field_step s at
    field_is h g =
        ap (λ (t : Bool). then_some t (past (alternative_end s) n (at + 4)))
        (sym (and_holds _ (every is_alternative (many (alternative_at s) (alternative_end s) n (at + 4))) (between_in (alternative_at s) (alternative_end s) n (at + 4) most_alternatives h g)))
        ∙ ap field_of e

    -- A single alternative decides.
    pub field_one : n ≡ 1 → (r : Option ℕ) → r ≡ alternative_step s (at + 4) → r ≡ field_step s at
    field_one h r f =
        f ∙ sym (ap (λ (t : Bool). then_some t (alternative_end s (at + 4))) (and_right_holds (is_alternative (alternative_at s (at + 4))) true refl))
        ∙ ap (λ (k : ℕ). alternatives_step s k (at + 4)) (sym h) ∙ field_is (omega arith) (omega arith)

  -- ---- shapes in front of a window, by ranges

  -- A field of one alternative of one digit: 0001, 001, and a digit of 0 to 9.
  pub digit_field : (at w : ℕ) → Holds s at 11 w → 1297036692682702848 ≤ w → w < 1387108685230112768 → Some (at + 11) ≡ field_step s at
  digit_field at w h low high =
      let n = number_at s at 11 in
      let count = number_at s at 4 in
      let behind = number_at s (at + 4) 7 in
      let digits = number_at s (at + 4) 3 in
      let d = number_at s (at + 4 + 3) 4 in
      let whole : n ≡ count * 128 + behind = number_append s at 4 7 in
      let parts : behind ≡ digits * 16 + d = number_append s (at + 4) 3 4 in
      let behind-lt : behind < 128 = number_lt s (at + 4) 7 in
      let d-lt : d < 16 = number_lt s (at + 4 + 3) 4 in
      let range : (144 ≤ n) × (n ≤ 153) = (omega (arith, h, low), omega (arith, h, high)) in
      let one : count ≡ 1 = omega (arith, whole, behind-lt, range.0, range.1) in
      let left : (16 ≤ behind) × (behind ≤ 25) = (omega (arith, whole, one, range.0), omega (arith, whole, one, range.1)) in
      let single : digits ≡ 1 = omega (arith, parts, d-lt, left.0, left.1) in
      let decimal : d % 16 ≤ 9 = omega (arith, parts, single, left.1, d-lt) in
      ap Some {x = at + 11} {y = at + 4 + 3 + 4 * 1} (omega arith)
      ∙ field_one at 1 (sym one) refl (Some (at + 4 + 3 + 4 * 1))
      (by_digits (at + 4) 1 (sym single) (omega arith) d refl true (sym (and_holds (leb (d % 16) 9) true (le-leb (d % 16) 9 decimal))) true refl)

-- No further than a place is no further than a later one.
pub up_further : (r : Option ℕ) (m n : ℕ) → m ≤ n → UpTo r m → UpTo r n
up_further (Some at) m n h g = omega arith
up_further None m n h g = g

-- Three steps in a row, each from where the one before ended.
module _ (g : ℕ → Bool) (end : ℕ → ℕ) (a : ℕ) where
  abbrev three : Option ℕ
  three = then_some (g a && (g (end a) && g (end (end a)))) (end (end (end a)))

  module _ (r : Option ℕ) (e : r ≡ then_some (g a) (end a)) (v : ℕ) (f : r ≡ Some v) where
    module _ (q : Option ℕ) (i : q ≡ then_some (g v) (end v)) (w : ℕ) (j : q ≡ Some w) (p : Option ℕ) (k : p ≡ then_some (g w) (end w)) where
      pub three_4 : (x : ℕ) → p ≡ Some x → Some x ≡ three
      three_4 x l =
          let t = told (g a) (end a) v e f in let u = told (g v) (end v) w i j in let m = told (g w) (end w) x k l in
          rw (t.0, t.1, u.0, u.1, m.0, m.1)

-- ---- a rule

module _ (c n c' n' : ℕ) where
  pub order_same : c ≡ c' → leb n' n ≡ in_order c n c' n'
  order_same e = sym (ap₂ (λ (t u : Bool). t || (u && leb n' n)) (le-ltb c c' (omega arith)) (eq-eqb c c' e))

  pub order_apart : (c ≡ c' → ⊥) → ltb c c' ≡ in_order c n c' n'
  order_apart e = sym (ap (λ (u : Bool). ltb c c' || (u && leb n' n)) (ne_eqb c c' e) ∙ or_false (ltb c c'))

module _ (s : List ℕ) (at : ℕ) where
  abbrev good_at : ℕ → Bool
  good_at a = good_field (field_at s a)

  abbrev end_at : ℕ → ℕ
  end_at a = field_end s a

  abbrev good_three : ℕ → Bool
  good_three a = good_at a && (good_at (end_at a) && good_at (end_at (end_at a)))

  -- the rule, its pattern k bytes long
  abbrev made_with : ℕ → Option Seen
  made_with k =
      let p = bytes_at s k (at + 5) in
      let a = at + 5 + 8 * k in
      then_some (good_pattern p && good_three a) (record { code = code_of (char_of p); length = length p; next = end_at (end_at (end_at a)) })

  module _ (k : ℕ) (e : k ≡ number_at s at 5) (r : Option ℕ) (d : r ≡ first_of (bytes_at s k (at + 5))) where
    abbrev pat : List ℕ
    pat = bytes_at s k (at + 5)

    abbrev here : ℕ
    here = at + 5 + 8 * k

    abbrev seen : Bool → Option Seen
    seen t = then_some t (record { code = code_of (char_of pat); length = length pat; next = end_at (end_at (end_at here)) })

    pub rule_pattern : r ≡ None → None ≡ rule_made s at
    rule_pattern f = sym (ap (λ (t : Bool). seen (t && good_three here)) (untold (good_pattern pat) (code_of (char_of pat)) d f)) ∙ ap made_with e

    module _ (code : ℕ) (f : r ≡ Some code) (q : Option ℕ) (l : q ≡ fields_step s here) where
      -- the pattern is right, so the fields decide
      decides : seen (good_three here) ≡ rule_made s at
      decides = sym (ap (λ (t : Bool). seen (t && good_three here)) (told (good_pattern pat) (code_of (char_of pat)) code d f).0) ∙ ap made_with e

      pub rule_fields : q ≡ None → None ≡ rule_made s at
      rule_fields m = sym (ap seen (untold (good_three here) (end_at (end_at (end_at here))) l m)) ∙ decides

      pub rule_good : (next : ℕ) → q ≡ Some next → Some (record { code = code; length = k; next = next }) ≡ rule_made s at
      rule_good next m =
          let t = told (good_three here) (end_at (end_at (end_at here))) next l m in
          sym (λ x. Some (record { code = (told (good_pattern pat) (code_of (char_of pat)) code d f).1 x; length = bytes_length s k (at + 5) x; next = t.1 x }))
          ∙ sym (ap seen t.0) ∙ decides

-- A rule behind one of first code point c and n bytes: it is good, and the order decides.
module _ (s : List ℕ) (at c n : ℕ) (r : Option Seen) (e : r ≡ rule_made s at) where
  abbrev made : Rule
  made = rule_at s at

  abbrev behind_if : Bool → Option Seen
  behind_if t = then_some t (seen_of made (rule_end s at))

  abbrev in_place : Bool
  in_place = in_order c n (first_code made) (length made.pattern)

  pub made_wrong : r ≡ None → None ≡ rule_seen s at c n
  made_wrong f = sym (ap (λ (t : Bool). behind_if (t && in_place)) (untold (good_rule made) (seen_of made (rule_end s at)) e f))

  module _ (q : Seen) (f : r ≡ Some q) where
    taken : (good_rule made ≡ true) × (seen_of made (rule_end s at) ≡ q)
    taken = told (good_rule made) (seen_of made (rule_end s at)) q e f

    order : in_place ≡ in_order c n q.code q.length
    order = ap (λ (x : Seen). in_order c n x.code x.length) taken.1

    pub order_wrong : in_order c n q.code q.length ≡ false → None ≡ rule_seen s at c n
    order_wrong o = sym (ap behind_if (and_right_false (good_rule made) in_place (order ∙ o)))

    pub order_good : in_order c n q.code q.length ≡ true → Some q ≡ rule_seen s at c n
    order_good o = sym (ap behind_if (and_holds (good_rule made) in_place taken.0 ∙ order ∙ o) ∙ ap Some taken.1)

-- ---- the rules

-- In order behind the first of them is in order.
behind_first : (r : Rule) (more : List Rule) → ordered (r ∷ more) ≡ ordered_behind (first_code r) (length r.pattern) more
behind_first r [] = refl
behind_first r (q ∷ more) = refl

module _ (s : List ℕ) (at left c n : ℕ) (h : 0 < left) where
  abbrev one : Rule
  one = rule_at s at

  abbrev more : List Rule
  more = many (rule_at s) (rule_end s) (left - 1) (rule_end s at)

  abbrev more_good : Bool
  more_good = every good_rule more && ordered_behind (first_code one) (length one.pattern) more

  abbrev last_end : ℕ
  last_end = past (rule_end s) (left - 1) (rule_end s at)

  split_rules : rules_step s at left c n ≡ then_some (rule_fits one c n && more_good) last_end
  split_rules =
      ap₂ (λ (l : List Rule) (p : ℕ). then_some (every good_rule l && ordered_behind c n l) p) (many_cons (rule_at s) (rule_end s) left at h) (past_cons (rule_end s) left at h)
      ∙ ap (λ (t : Bool). then_some t last_end)
      (ap (λ (t : Bool). (good_rule one && every good_rule more) && (in_order c n (first_code one) (length one.pattern) && t)) (behind_first one more)
      ∙ and_cross (good_rule one) (every good_rule more) (in_order c n (first_code one) (length one.pattern)) (ordered_behind (first_code one) (length one.pattern) more))

  module _ (r : Option Seen) (e : r ≡ rule_seen s at c n) where
    pub rules_stop : r ≡ None → None ≡ rules_step s at left c n
    rules_stop f =
        sym (split_rules ∙ ap (λ (t : Bool). then_some (t && more_good) last_end) (untold (rule_fits one c n) (seen_of one (rule_end s at)) e f))

    pub rules_turn : (q : Seen) → r ≡ Some q → rules_step s q.next (left - 1) q.code q.length ≡ rules_step s at left c n
    rules_turn q f =
        let g = told (rule_fits one c n) (seen_of one (rule_end s at)) q e f in
        sym (split_rules
        ∙ ap (λ (t : Bool). then_some (t && more_good) last_end) g.0
        ∙ ap (λ (x : Seen). rules_step s x.next (left - 1) x.code x.length) g.1)

pub rules_end : (s : List ℕ) (at left c n : ℕ) → left ≤ 0 → rules_step s at left c n ≡ Some at
rules_end s at zero c n h = refl
rules_end s at (suc m) c n h = absurd (omega arith)

-- Nothing stands before the first rule: its first code point is above 0.
rules_start : (rs : List Rule) → every good_rule rs && ordered_behind 0 0 rs ≡ every good_rule rs && ordered rs
rules_start [] = refl
rules_start (r ∷ more) = go (good_rule r) refl
  where
    go : (t : Bool) → good_rule r ≡ t
        → (t && every good_rule more) && (in_order 0 0 (first_code r) (length r.pattern) && ordered (r ∷ more)) ≡ (t && every good_rule more) && ordered (r ∷ more)
    go true e =
        ap (λ (t : Bool). every good_rule more && ((t || (eqb 0 (first_code r) && leb (length r.pattern) 0)) && ordered (r ∷ more)))
        (first_nonzero r.pattern (and_true (good_pattern r.pattern) (good_field r.start && (good_field r.vowel && good_field r.other)) e).0)
    go false e = refl

-- ---- foldings

module _ (s : List ℕ) (at key : ℕ) where
  abbrev pub folding_fits : Bool
  folding_fits = good_folding (folding_at s at) && ltb key (number_at s at 21)

  module _ (left : ℕ) (h : 0 < left) (v : Bool) (e : v ≡ folding_fits) where
    split_foldings : foldings_good s at left key ≡ folding_fits && foldings_good s (at + 42) (left - 1) (number_at s at 21)
    split_foldings =
        let fs = many (folding_at s) folding_end (left - 1) (at + 42) in
        ap (λ (l : List Folding). every good_folding l && above key l) (many_cons (folding_at s) folding_end left at h)
        ∙ ap (λ (t : Bool). (good_folding (folding_at s at) && every good_folding fs) && (ltb key (number_at s at 21) && t)) (behind_key (folding_at s at) fs)
        ∙ and_cross (good_folding (folding_at s at)) (every good_folding fs) (ltb key (number_at s at 21)) (above (number_at s at 21) fs)
      where
        behind_key : (f : Folding) (fs : List Folding) → rising (f ∷ fs) ≡ above f.key fs
        behind_key f [] = refl
        behind_key f (g ∷ fs) = refl

    pub foldings_stop : v ≡ false → false ≡ foldings_good s at left key
    foldings_stop f = sym (split_foldings ∙ and_left_false _ _ (sym e ∙ f))

    pub foldings_turn : v ≡ true → (k : ℕ) → k ≡ number_at s at 21 → foldings_good s (at + 42) (left - 1) k ≡ foldings_good s at left key
    foldings_turn f k g = ap (foldings_good s (at + 42) (left - 1)) g ∙ sym (split_foldings ∙ and_holds _ _ (sym e ∙ f))

pub foldings_end : (s : List ℕ) (at left key : ℕ) → left ≤ 0 → foldings_good s at left key ≡ true
foldings_end s at zero key h = refl
foldings_end s at (suc n) key h = absurd (omega arith)

-- A first key is above 0.
foldings_start : (fs : List Folding) → every good_folding fs && above 0 fs ≡ every good_folding fs && rising fs
foldings_start [] = refl
foldings_start (f ∷ more) = go (good_folding f) refl
  where
    go : (t : Bool) → good_folding f ≡ t
        → (t && every good_folding more) && (ltb 0 f.key && rising (f ∷ more)) ≡ (t && every good_folding more) && rising (f ∷ more)
    go true e =
        ap (λ (t : Bool). every good_folding more && (t && rising (f ∷ more)))
        (and_true (ltb 0 f.key) (scalar f.key) (and_true (nonzero_scalar f.key) (nonzero_scalar f.target) e).0).0
    go false e = refl

-- ---- the end, and the whole

-- Seven tests, as `accepted_in` joins them.
module _ (a b c d f g z : Bool) where
  abbrev plate_tests : Bool
  plate_tests = (c && d) && (f && g)

  abbrev seven : Bool
  seven = a && (b && (plate_tests && z))

  no_plate : plate_tests ≡ false → seven ≡ false
  no_plate h = and_right_false a (b && (plate_tests && z)) (and_right_false b (plate_tests && z) (and_left_false plate_tests z h))

  seven_3 : c ≡ false → seven ≡ false
  seven_3 h = no_plate (and_left_false (c && d) (f && g) (and_left_false c d h))

  seven_4 : d ≡ false → seven ≡ false
  seven_4 h = no_plate (and_left_false (c && d) (f && g) (and_right_false c d h))

  seven_5 : f ≡ false → seven ≡ false
  seven_5 h = no_plate (and_right_false (c && d) (f && g) (and_left_false f g h))

  seven_6 : g ≡ false → seven ≡ false
  seven_6 h = no_plate (and_right_false (c && d) (f && g) (and_right_false f g h))

  seven_all : a ≡ true → b ≡ true → c ≡ true → d ≡ true → f ≡ true → g ≡ true → seven ≡ z
  seven_all h i j k l m = rw (h, i, j, k, l, m)

module _ (s : List ℕ) (e : Edition) where
  abbrev w : ℕ
  w = e.width

  abbrev rs : List Rule
  rs = (plate_at w s).rules

  abbrev fs : List Folding
  fs = (plate_at w s).foldings

  abbrev t1 : Bool
  t1 = eqb (number_at s 0 8) e.number

  abbrev t2 : Bool
  t2 = eqb (reserved w s) 0

  abbrev t3 : Bool
  t3 = between e.least e.most (length rs)

  abbrev t4 : Bool
  t4 = every good_rule rs && ordered rs

  abbrev t5 : Bool
  t5 = leb (length fs) most_foldings

  abbrev t6 : Bool
  t6 = every good_folding fs && rising fs

  abbrev t7 : Bool
  t7 = zero_filled s (plate_end w s)

  module _ (n : ℕ) (i : n ≡ rule_count w s) where
    rules_counted : length rs ≡ n
    rules_counted = length_many (rule_at s) (rule_end s) (rule_count w s) (rules_place w s) ∙ sym i

    pub accept_few_rules : n < e.least → false ≡ accepted_in e s
    accept_few_rules h = sym (seven_3 t1 t2 t3 t4 t5 t6 t7 (ap (between e.least e.most) rules_counted ∙ below_between e.least e.most n h))

    pub accept_many_rules : e.most < n → false ≡ accepted_in e s
    accept_many_rules h = sym (seven_3 t1 t2 t3 t4 t5 t6 t7 (ap (between e.least e.most) rules_counted ∙ above_between e.least e.most n h))

  pub accept_many_foldings : (m : ℕ) → m ≡ folding_count w s → most_foldings < m → false ≡ accepted_in e s
  accept_many_foldings m i h =
      sym (seven_5 t1 t2 t3 t4 t5 t6 t7 (count_over (folding_at s) folding_end (folding_count w s) foldings_place most_foldings (subst (λ (k : ℕ). most_foldings < k) i h)))

  module _ (m : ℕ) (i : m ≡ folding_count w s) (v : Bool) (d : v ≡ foldings_good s foldings_place m 0) where
    foldings_are : v ≡ t6
    foldings_are = d ∙ ap (λ (k : ℕ). foldings_good s foldings_place k 0) i ∙ foldings_start fs

    pub accept_bad_folding : v ≡ false → false ≡ accepted_in e s
    accept_bad_folding f = sym (seven_6 t1 t2 t3 t4 t5 t6 t7 (sym foldings_are ∙ f))

    module _ (n : ℕ) (j : n ≡ rule_count w s) (r : Option ℕ) (k : r ≡ rules_step s (foldings_place + 42 * m) n 0 0) where
      rules_are : r ≡ then_some t4 (plate_end w s)
      rules_are = k ∙ ap₂ (λ (p q : ℕ). rules_step s (foldings_place + 42 * p) q 0 0) i j ∙ ap (λ (t : Bool). then_some t (plate_end w s)) (rules_start rs)

      pub accept_bad_rule : r ≡ None → false ≡ accepted_in e s
      accept_bad_rule f = sym (seven_4 t1 t2 t3 t4 t5 t6 t7 (untold t4 (plate_end w s) rules_are f))

      pub accept_end : (x y : ℕ) → x ≡ number_at s 0 8 → x ≡ e.number → y ≡ reserved w s → y ≡ 0 → e.least ≤ n → n ≤ e.most → m ≤ most_foldings → v ≡ true
          → (end : ℕ) → r ≡ Some end → (z : Bool) → z ≡ zero_filled s end → z ≡ accepted_in e s
      accept_end x y a a' b b' c c' d' f end g z l =
          let t = told t4 (plate_end w s) end rules_are g in
          l ∙ ap (zero_filled s) (sym t.1)
          ∙ sym (seven_all t1 t2 t3 t4 t5 t6 t7 (eq-eqb _ _ (sym a ∙ a')) (eq-eqb _ _ (sym b ∙ b'))
          (ap (between e.least e.most) (rules_counted n j) ∙ is_between e.least e.most n c c')
          t.0
          (count_in (folding_at s) folding_end (folding_count w s) foldings_place most_foldings (subst (λ (q : ℕ). q ≤ most_foldings) i d'))
          (sym foldings_are ∙ f))
