-- What the functions of `held` answer: the digits of an alternative and the alternatives of a field, one by one. Assumes nothing.
use Rattle.std.proofs.Common.{◌≡◌, ℕ, ◌+◌, ◌-◌, ◌*◌, ◌/◌, ◌%◌, ◌^◌, ◌<◌, ◌≤◌, true, leb, List, [], ◌∷◌, ◌++◌, length, take, drop, set, replicate, min, sym, ap, ap₂, ◌∙◌, subst, add-one, arith, leb-true}
use Rattle.std.proofs.lemmas.List.{take_min, take_more_set, drop-set-lt}
use Rattle.std.proofs.Math.Nat.{min-le_left, min-le_right, min-eq_left, min-eq_right}
use lib.Seq.{take_at, drop_at, take-append-add, take-take, take_all, length-take-le}
use lib.ListN.{length-append, length-replicate, length-drop}
use mathlib.Core.List.{append_assoc}
use Rattle.laws.specs.Lists.{every, between}
use Rattle.laws.proofs.Tests.{and_true, between_true}
use Rattle.laws.proofs.Arrays.{blank_further}
use Rattle.laws.proofs.Bits.{by_order}
use Rattle.laws.proofs.Many.{store}
use Rattle.chars.specs.Digits.{digit, is_alternative}
use Rattle.plate.specs.Bits.{number_at}
use Rattle.plate.specs.Plate.{most_digits, most_alternatives, good_field}
use Rattle.plate.specs.Read.{many, past, alternative_at, alternative_end, field_at}
use Rattle.plate.specs.Field.{DigitsOk}
use Rattle.plate.proofs.Place.{number_lt}
use Rattle.plate.proofs.Windows.{middle}
use Rattle.plate.proofs.Listed.{length_many, many_snoc, past_add, past_snoc, every_at, take_many}

-- ---- behind a count

-- One alternative more is stored: behind it they are empty as before.
pub cleared : (l : List (List ℕ)) (k : ℕ) (a : List ℕ) → k < length l → drop k l ≡ replicate (most_alternatives - k) []
    → drop (k + 1) (set l k a) ≡ replicate (most_alternatives - (k + 1)) []
cleared l k a h e =
    drop-set-lt (k + 1) l k a (omega arith) ∙ blank_further l most_alternatives k (k + 1) [] (omega arith) e

-- ---- digits with others behind them, cut at six

module _ (d x : List ℕ) (n m : ℕ) (p : DigitsOk d n) (q : DigitsOk x m) (k : ℕ) (few : k ≡ min m (most_digits - n)) where
  abbrev joined : List ℕ → List ℕ → List ℕ
  joined y rest = take n d ++ (y ++ rest)

  fits : n + k ≤ most_digits
  fits = let s = p.small in let l = min-le_right m (most_digits - n) in omega arith

  short : k ≤ m
  short = let l = min-le_left m (most_digits - n) in omega arith

  front : length (take n d) ≡ n
  front = let s = p.small in let l = p.six in length-take-le n d (omega arith)

  -- The cut leaves as many as fit.
  cut : take most_digits (take n d ++ take m x) ≡ take n d ++ take k x
  cut =
      let s = p.small in
      let s' = q.small in
      let six' = q.six in
      let whole : length (take n d) + (most_digits - n) ≡ most_digits = omega (arith, front) in
      ap (λ (j : ℕ). take j (take n d ++ take m x)) (sym whole) ∙ take-append-add (take n d) (take m x) (most_digits - n)
      ∙ ap (λ (r : List ℕ). take n d ++ r)
      (by_order (take (most_digits - n) (take m x) ≡ take k x) (most_digits - n) m
      (λ h. take-take (most_digits - n) m x (omega arith) ∙ ap (λ (j : ℕ). take j x) (sym (few ∙ min-eq_right (omega arith))))
      (λ h. take_all (most_digits - n) (take m x) (omega (arith, length-take-le m x (omega arith))) ∙ ap (λ (j : ℕ). take j x) (sym (few ∙ min-eq_left h))))

  pub appended : (y rest : List ℕ) → y ≡ take k x → rest ≡ drop (n + k) d
      → DigitsOk (joined y rest) (n + k) × (take (n + k) (joined y rest) ≡ take most_digits (take n d ++ take m x))
  appended y rest e f =
      let s' = q.small in
      let six' = q.six in
      let h = fits in
      let i = short in
      let long : length (take n d ++ y) ≡ n + k = length-append (take n d) y ∙ ap₂ ◌+◌ front (ap length e ∙ length-take-le k x (omega arith)) in
      let split : joined y rest ≡ (take n d ++ y) ++ rest = sym (append_assoc (take n d) y rest) in (
        record {
          small = fits;
          six = ap length split ∙ length-append (take n d ++ y) rest ∙ ap₂ ◌+◌ long (ap length f ∙ length-drop (n + k) d) ∙ (let l = p.six in omega arith);
          clear = ap (drop (n + k)) split ∙ drop_at (take n d ++ y) rest (n + k) long ∙ f ∙ blank_further d most_digits n (n + k) 48 (omega arith) p.clear;
        },
        ap (take (n + k)) split ∙ take_at (take n d ++ y) rest (n + k) long ∙ ap (λ (r : List ℕ). take n d ++ r) e ∙ sym cut,
      )

module _ (s : List ℕ) where
  -- ---- the digits of an alternative

  module _ (at n : ℕ) (e : n ≡ number_at s at 3) where
    abbrev digit_at : ℕ → ℕ
    digit_at p = 48 + number_at s p 4

    abbrev digits_at : ℕ → List ℕ
    digits_at k = many digit_at (λ p. p + 4) k (at + 3)

    pub count_six : is_alternative (alternative_at s at) ≡ true → n ≤ most_digits
    count_six h =
        subst (λ (k : ℕ). k ≤ most_digits) (length_many digit_at (λ p. p + 4) (number_at s at 3) (at + 3) ∙ sym e)
        (leb-true (length (alternative_at s at)) most_digits (and_true (leb (length (alternative_at s at)) most_digits) (every digit (alternative_at s at)) h).0)

    -- Digit k stands behind k others, and the rest of n behind it.
    digit_at_lem : (v : ℕ) → v ≡ number_at s (at + 3) (4 * n) → (k : ℕ) → k < n → 48 + v / 2 ^ (4 * n - 4 * k - 4) % 16 ≡ digit_at (past (λ p. p + 4) k (at + 3))
    digit_at_lem v f k h =
        ap (λ (x : ℕ). 48 + x / 2 ^ (4 * n - 4 * k - 4) % 16) (f ∙ ap (number_at s (at + 3)) {x = 4 * n} {y = 4 * k + 4 + (4 * n - 4 * k - 4)} (omega arith))
        ∙ ap (λ (x : ℕ). 48 + x) (middle s (at + 3) (4 * k) 4 (4 * n - 4 * k - 4))
        ∙ ap digit_at (sym (past_add 4 k (at + 3)))

    pub digits_store : (v : ℕ) → v ≡ number_at s (at + 3) (4 * n) → (k : ℕ) → k < n → k < most_digits → (array : List ℕ) → array ≡ digits_at k ++ replicate (most_digits - k) 48
        → set array k (48 + v / 2 ^ (4 * n - 4 * k - 4) % 16) ≡ digits_at (k + 1) ++ replicate (most_digits - (k + 1)) 48
    digits_store v f k h i array g =
        store most_digits k (digits_at k) array 48 _ i (length_many digit_at (λ p. p + 4) k (at + 3)) g
        ∙ ap (λ (x : ℕ). (digits_at k ++ (x ∷ [])) ++ replicate (most_digits - (k + 1)) 48) (digit_at_lem v f k h)
        ∙ ap (λ (l : List ℕ). l ++ replicate (most_digits - (k + 1)) 48) (sym (many_snoc digit_at (λ p. p + 4) k (at + 3)))
        ∙ ap (λ (m : ℕ). digits_at m ++ replicate (most_digits - (k + 1)) 48) (sym (add-one k))

    -- All are stored.
    pub digits_held : is_alternative (alternative_at s at) ≡ true → (array : List ℕ) → array ≡ digits_at n ++ replicate (most_digits - n) 48 → DigitsOk array n × (take n array ≡ alternative_at s at)
    digits_held h array f =
        let fill : List ℕ = replicate (most_digits - n) 48 in
        let l = length_many digit_at (λ p. p + 4) n (at + 3) in
        let six = count_six h in (
          record {
            small = six;
            six = ap length f ∙ length-append (digits_at n) fill ∙ ap₂ ◌+◌ l (length-replicate (most_digits - n) 48) ∙ omega arith;
            clear = ap (drop n) f ∙ drop_at (digits_at n) fill n l;
          },
          ap (take n) f ∙ take_at (digits_at n) fill n l ∙ ap digits_at e,
        )

  -- ---- the alternatives of a field

  pub few_digits : (place r : ℕ) → r ≡ length (alternative_at s place) → r ≤ 7
  few_digits place r e = omega (arith, e ∙ length_many (λ p. 48 + number_at s p 4) (λ p. p + 4) (number_at s place 3) (place + 3), number_lt s place 3)

  module _ (from : ℕ) (good : good_field (field_at s from) ≡ true) (n : ℕ) (d : n ≡ number_at s from 4) where
    abbrev firsts : ℕ → List (List ℕ)
    firsts k = many (alternative_at s) (alternative_end s) k (from + 4)

    pub field_eight : n ≤ most_alternatives
    field_eight =
        let l = length (field_at s from) in
        subst (λ (m : ℕ). m ≤ most_alternatives) (length_many (alternative_at s) (alternative_end s) (number_at s from 4) (from + 4) ∙ sym d)
        (between_true 1 most_alternatives l (and_true (between 1 most_alternatives l) (every is_alternative (field_at s from)) good).0).1

    pub alternative_good : (k : ℕ) → k < n → (place : ℕ) → place ≡ past (alternative_end s) k (from + 4) → is_alternative (alternative_at s place) ≡ true
    alternative_good k h place f =
        ap (λ (p : ℕ). is_alternative (alternative_at s p)) f
        ∙ every_at (alternative_at s) (alternative_end s) is_alternative (number_at s from 4) (from + 4) k (subst (λ (m : ℕ). k < m) d h)
        (and_true (between 1 most_alternatives (length (field_at s from))) (every is_alternative (field_at s from)) good).1

    pub place_more : (k place : ℕ) → place ≡ past (alternative_end s) k (from + 4) → (r : ℕ) → r ≡ length (alternative_at s place)
        → place + (3 + 4 * r) ≡ past (alternative_end s) (k + 1) (from + 4)
    place_more k place f r g =
        let l = g ∙ length_many (λ p. 48 + number_at s p 4) (λ p. p + 4) (number_at s place 3) (place + 3) in
        (omega (arith, l)) ∙ ap (alternative_end s) f ∙ sym (past_snoc (alternative_end s) k (from + 4))
        ∙ ap (λ (m : ℕ). past (alternative_end s) m (from + 4)) (sym (add-one k))

    pub alternatives_store : (k : ℕ) (array : List (List ℕ)) → k < length array → take k array ≡ firsts k → (place : ℕ) → place ≡ past (alternative_end s) k (from + 4)
        → (a : List ℕ) → a ≡ alternative_at s place → take (k + 1) (set array k a) ≡ firsts (k + 1)
    alternatives_store k array h f place g a i =
        take_more_set array k a h
        ∙ ap (λ (l : List (List ℕ)). l ++ (a ∷ [])) f
        ∙ ap (λ (x : List ℕ). firsts k ++ (x ∷ [])) (i ∙ ap (alternative_at s) g)
        ∙ sym (many_snoc (alternative_at s) (alternative_end s) k (from + 4))
        ∙ ap firsts (sym (add-one k))

    pub field_held : (most : ℕ) → firsts (min most n) ≡ take most (field_at s from)
    field_held most =
        sym (take_many (alternative_at s) (alternative_end s) (min most n) n (from + 4) (min-le_right most n))
        ∙ ap (λ (k : ℕ). take (min most k) (firsts n)) (sym (length_many (alternative_at s) (alternative_end s) n (from + 4)))
        ∙ take_min most (firsts n)
        ∙ ap (λ (m : ℕ). take most (firsts m)) d
