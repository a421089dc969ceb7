-- Shapes in front of a window: a range of its numbers is a shape of what stands at its place. Assumes nothing.
use Rattle.std.specs.Bool.{then_some}
use Rattle.std.proofs.Common.{Bool, Some, ◌≡◌, ℕ, ◌+◌, ◌-◌, ◌*◌, ◌/◌, ◌%◌, ◌^◌, ◌<◌, ◌≤◌, true, ltb, leb, List, sym, refl, ap, ◌∙◌, subst, ap₂, arith, lt-ltb, le-leb}
use Rattle.laws.specs.Lists.{between}
use Rattle.laws.proofs.Tests.{both_true, or_left}
use Rattle.laws.proofs.Many.{and_holds}
use Rattle.chars.specs.Utf8.{char_of}
use Rattle.plate.specs.Bits.{number_at}
use Rattle.plate.specs.Plate.{good_field, nonzero_scalar}
use Rattle.plate.specs.Read.{field_at, field_end}
use Rattle.plate.specs.Window.{Holds}
use Rattle.plate.specs.Plain.{Takes, Passes, Ascii, Double}
use Rattle.plate.specs.Answers.{bytes_at, front_of, good_text, first_of, alternative_step, alternatives_step, field_step, fields_step, key_behind}
use Rattle.plate.proofs.Place.{number_lt}
use Rattle.plate.proofs.Windows.{number_append, front, part_is, shifted}
use Rattle.plate.proofs.Fronts.{letter, ascii_is, double_is, text_turn, text_end, first_decided}
use Rattle.plate.proofs.Accepted.{by_digits, field_one, field_is, alternatives_turn, alternatives_end, three_4}

module _ (s : List ℕ) where
  -- Shifted by k, a window holds q of the bits behind.
  pub behind_held : (at p w k q : ℕ) → Holds s at p w → p ≤ 64 → k + q ≤ p → Holds s (at + k) q (w * 2 ^ k % 2 ^ 64)
  behind_held at p w k q held few fits =
      front s (at + k) (p - k) (w * 2 ^ k % 2 ^ 64) (shifted s at p w held few k (omega arith)) (omega arith) q (omega arith)

  -- ---- bytes

  module _ (at n w : ℕ) (held : Holds s at (8 * n) w) (some : 1 ≤ n) (few : n ≤ 6) (low : 72057594037927936 ≤ w) (high : w < 9223372036854775808) where
    abbrev byte : ℕ
    byte = w / 72057594037927936

    is_byte : byte ≡ number_at s at 8
    is_byte = front s at (8 * n) w held (omega arith) 8 (omega arith)

    ascii : Some (letter byte 1) ≡ front_of (char_of (bytes_at s n at))
    ascii = ascii_is s n at some byte is_byte (omega arith) (λ e. omega arith)

    -- An ASCII byte passes.
    pub ascii_turn : good_text (bytes_at s (n - 1) (at + 8)) ≡ good_text (bytes_at s n at)
    ascii_turn = text_turn s n at some (Some (letter byte 1)) ascii (letter byte 1) refl

    -- Where those behind it are text, it is the first code point.
    pub ascii_first : good_text (bytes_at s (n - 1) (at + 8)) ≡ true → Some byte ≡ first_of (bytes_at s n at)
    ascii_first rest = first_decided s n at some (omega arith) (Some (letter byte 1)) ascii (letter byte 1) refl true (sym rest) true refl

  -- ---- alternatives

  module _ (at w : ℕ) (held : Holds s at 11 w) where
    abbrev count : ℕ
    count = number_at s at 3

    abbrev digits : ℕ
    digits = number_at s (at + 3) 8

    whole : number_at s at 11 ≡ count * 256 + digits
    whole = number_append s at 3 8

    digits_lt : digits < 256
    digits_lt = number_lt s (at + 3) 8

    -- 000
    pub no_digit : w < 2305843009213693952 → Some (at + 3) ≡ alternative_step s at
    no_digit high =
        let none : count ≡ 0 = omega (arith, held, whole, high) in
        ap Some {x = at + 3} {y = at + 3 + 4 * 0} (omega arith)
        ∙ by_digits s at 0 (sym none) (omega arith) (number_at s (at + 3) (4 * 0)) refl true refl true refl

    -- 001, and a digit of 0 to 9
    pub one_digit : 2305843009213693952 ≤ w → w < 3746994889972252672 → Some (at + 7) ≡ alternative_step s at
    one_digit low high =
        let d = number_at s (at + 3) 4 in
        let parts : digits ≡ d * 16 + number_at s (at + 3 + 4) 4 = number_append s (at + 3) 4 4 in
        let one : count ≡ 1 = omega (arith, held, whole, digits_lt, low, high) in
        let most : digits < 160 = omega (arith, held, whole, one, high) in
        let decimal : d % 16 ≤ 9 = omega (arith, parts, most) in
        ap Some {x = at + 7} {y = at + 3 + 4 * 1} (omega arith)
        ∙ by_digits s at 1 (sym one) (omega arith) d refl true (sym (and_holds (leb (d % 16) 9) true (le-leb (d % 16) 9 decimal))) true refl

    -- 010, and two of them
    pub two_digits : 4611686018427387904 ≤ w → w < 6052837899185946624 → w / 9007199254740992 % 16 ≤ 9 → Some (at + 11) ≡ alternative_step s at
    two_digits low high last =
        let two : count ≡ 2 = omega (arith, held, whole, digits_lt, low, high) in
        let most : digits < 160 = omega (arith, held, whole, two, high) in
        let second : digits % 16 ≤ 9 = omega (arith, held, whole, last) in
        let first : digits / 16 % 16 ≤ 9 = omega (arith, most) in
        ap Some {x = at + 11} {y = at + 3 + 4 * 2} (omega arith)
        ∙ by_digits s at 2 (sym two) (omega arith) digits refl true
        (sym (and_holds (leb (digits % 16) 9) _ (le-leb (digits % 16) 9 second) ∙ and_holds (leb (digits / 16 % 16) 9) true (le-leb (digits / 16 % 16) 9 first))) true refl

  -- ---- fields

  -- 0001, 000
  pub empty_field : (at w : ℕ) → Holds s at 11 w → 1152921504606846976 ≤ w → w < 1297036692682702848 → Some (at + 7) ≡ field_step s at
  empty_field at w held low high =
      let counted = number_at s at 4 in
      let whole4 : number_at s at 11 ≡ counted * 128 + number_at s (at + 4) 7 = number_append s at 4 7 in
      let parts : number_at s (at + 4) 7 ≡ number_at s (at + 4) 3 * 16 + number_at s (at + 4 + 3) 4 = number_append s (at + 4) 3 4 in
      let small : number_at s (at + 4) 7 < 128 = number_lt s (at + 4) 7 in
      let range : (128 ≤ number_at s at 11) × (number_at s at 11 < 144) = (omega (arith, held, low), omega (arith, held, high)) in
      let one : counted ≡ 1 = omega (arith, whole4, small, range.0, range.1) in
      let rest : number_at s (at + 4) 7 < 16 = omega (arith, whole4, one, range.1) in
      let none : number_at s (at + 4) 3 ≡ 0 = omega (arith, parts, rest) in
      ap Some {x = at + 7} {y = at + 4 + 3 + 4 * 0} (omega arith)
      ∙ field_one s at 1 (sym one) refl (Some (at + 4 + 3 + 4 * 0))
      (by_digits s (at + 4) 0 (sym none) (omega arith) (number_at s (at + 4 + 3) (4 * 0)) refl true refl true refl)

  -- Three, one behind the other.
  pub three_fields : (at a b c : ℕ) → Some (at + a) ≡ field_step s at → Some (at + a + b) ≡ field_step s (at + a) → Some (at + a + b + c) ≡ field_step s (at + a + b)
      → Some (at + (a + b + c)) ≡ fields_step s at
  three_fields at a b c e f g =
      ap Some {x = at + (a + b + c)} {y = at + a + b + c} (omega arith)
      ∙ three_4 (λ p. good_field (field_at s p)) (λ p. field_end s p) at (Some (at + a)) e (at + a) refl (Some (at + a + b)) f (at + a + b) refl (Some (at + a + b + c)) g
      (at + a + b + c) refl

  -- ---- foldings

  low_scalar : (c : ℕ) → 0 < c → c ≤ 0xD7FF → nonzero_scalar c ≡ true
  low_scalar c some few = both_true (lt-ltb 0 c some) (or_left (leb c 0xD7FF) (between 0xE000 0x10FFFF c) (le-leb c 0xD7FF few))

  -- Key and target below the surrogates, the key above the one before.
  pub low_key : (at before key target : ℕ) → key ≡ number_at s at 21 → target ≡ number_at s (at + 21) 21 → before < key → key ≤ 0xD7FF → (target ≡ 0 → ⊥) → target ≤ 0xD7FF
      → Some key ≡ key_behind s at before
  low_key at before key target e f above low some few =
      let key-good = ap nonzero_scalar (sym e) ∙ low_scalar key (omega arith) low in
      let target-good = ap nonzero_scalar (sym f) ∙ low_scalar target (omega arith) few in
      let behind = ap (ltb before) (sym e) ∙ lt-ltb before key above in
      sym (ap₂ (λ (t : Bool) (k : ℕ). then_some t k) (both_true (both_true key-good target-good) behind) (sym e))

-- The count is 1, and an alternative stands behind it.
pub single : (w b : ℕ) → w / 1152921504606846976 ≡ 1 → Takes alternative_step 11 (w * 2 ^ 4 % 2 ^ 64) b → Takes field_step 15 w (4 + b)
single w b one takes = λ s at held.
    let counted : number_at s at 4 ≡ 1 = sym (front s at 15 w held (omega arith) 4 (omega arith)) ∙ one in
    ap Some {x = at + (4 + b)} {y = at + 4 + b} (omega arith)
    ∙ field_one s at 1 (sym counted) refl (Some (at + 4 + b)) (takes s (at + 4) (behind_held s at 15 w 4 11 held (omega arith) (omega arith)))

-- Three fields in one window, the last of q bits at most.
pub in_row : (p q w a b c : ℕ) → p ≤ 64 → a + b + q ≤ p → Takes field_step q w a → Takes field_step q (w * 2 ^ a % 2 ^ 64) b → Takes field_step q (w * 2 ^ (a + b) % 2 ^ 64) c
    → Takes fields_step p w (a + b + c)
in_row p q w a b c few fits e f g = λ s at held.
    let third : Holds s (at + (a + b)) q (w * 2 ^ (a + b) % 2 ^ 64) = behind_held s at p w (a + b) q held few fits in
    let place : at + (a + b) ≡ at + a + b = omega arith in
    let first_fits : q ≤ p = omega (arith, fits) in
    let second_fits : a + q ≤ p = omega (arith, fits) in
    three_fields s at a b c
    (e s at (front s at p w held few q first_fits))
    (f s (at + a) (behind_held s at p w a q held few second_fits))
    (g s (at + a + b) (subst (λ (x : ℕ). Holds s x q (w * 2 ^ (a + b) % 2 ^ 64)) place third))

-- ---- alternatives one by one: those left behind the first `bits` of a window are all

pub Left : ℕ → ℕ → ℕ → ℕ → Type 0
Left w n bits left = (s : List ℕ) (at : ℕ) → Holds s at 26 w → alternatives_step s left (at + bits) ≡ alternatives_step s n (at + 4)

pub left_all : (w n : ℕ) → Left w n 4 n
unfolding Left
left_all w n = λ s at held. refl

pub left_turn : (w n bits left b : ℕ) → Left w n bits left → 0 < left → bits ≤ 15 → Takes alternative_step 11 (w * 2 ^ bits % 2 ^ 64) b → Left w n (bits + b) (left - 1)
unfolding Left
left_turn w n bits left b all more few takes = λ s at held.
    ap (alternatives_step s (left - 1)) {x = at + (bits + b)} {y = at + bits + b} (omega arith)
    ∙ alternatives_turn s (at + bits) left more (Some (at + bits + b)) (takes s (at + bits) (behind_held s at 26 w bits 11 held (omega arith) (omega arith))) (at + bits + b) refl
    ∙ all s at held

pub left_none : (w n bits left : ℕ) → Left w n bits left → left ≤ 0 → n ≡ w / 1152921504606846976 → 1 ≤ n → n ≤ 2 → Takes field_step 26 w bits
unfolding Left
left_none w n bits left all none counted some few = λ s at held.
    sym (alternatives_end s left (at + bits) none) ∙ all s at held
    ∙ field_is s at n (counted ∙ front s at 26 w held (omega arith) 4 (omega arith)) some (omega arith)

-- ---- bytes that pass

pub pass_one : (w : ℕ) → Ascii w → Passes 1 w
pass_one w range s at n some held =
    let byte = w / 72057594037927936 in
    let low = range.0 in
    let high = range.1 in
    let is_byte : byte ≡ number_at s at 8 = front s at 8 w held (omega arith) 8 (omega arith) in
    text_turn s n at some (Some (letter byte 1)) (ascii_is s n at some byte is_byte (omega arith) (λ e. omega arith)) (letter byte 1) refl

-- The bytes of a character of two are the first two of the window.
module _ (s : List ℕ) (at n w : ℕ) (some : 2 ≤ n) (range : Double w) (held : Holds s at 16 w) where
  abbrev lead : ℕ
  lead = w / 72057594037927936

  abbrev second : ℕ
  second = w / 281474976710656 % 256

  double : Some (letter (lead % 32 * 64 + second % 64) 2) ≡ front_of (char_of (bytes_at s n at))
  double =
      let low = range.0 in
      let high = range.1 in
      let ten = range.2 in
      let is-lead : lead ≡ number_at s at 8 = front s at 16 w held (omega arith) 8 (omega arith) in
      let is-second : second ≡ number_at s (at + 8) 8 = part_is s at 16 w held (omega arith) 8 8 (omega arith) in
      double_is s n at (omega arith) lead second is-lead is-second some (omega (arith, low)) (omega (arith, high)) (omega (arith, ten)) (omega (arith, ten))

  -- They pass.
  pub double_turn : good_text (bytes_at s (n - 2) (at + 16)) ≡ good_text (bytes_at s n at)
  double_turn = text_turn s n at (omega (arith, some)) _ double (letter (lead % 32 * 64 + second % 64) 2) refl

  -- Where those behind them are text, they are the first code point.
  pub double_first : n ≤ 6 → good_text (bytes_at s (n - 2) (at + 16)) ≡ true → Some (lead % 32 * 64 + w / 281474976710656 % 64) ≡ first_of (bytes_at s n at)
  double_first few rest =
      ap Some {x = lead % 32 * 64 + w / 281474976710656 % 64} {y = lead % 32 * 64 + second % 64} (omega arith)
      ∙ first_decided s n at (omega (arith, some)) (omega (arith, few)) _ double (letter (lead % 32 * 64 + second % 64) 2) refl true (sym rest) true refl

pub pass_two : (w : ℕ) → Double w → Passes 2 w
pass_two w range s at n some held = double_turn s at n w some range held

pub pass_both : (j k w : ℕ) → j + k ≤ 8 → Passes j w → Passes k (w * 2 ^ (8 * j) % 2 ^ 64) → Passes (j + k) w
pass_both j k w few first second s at n some held =
    let less : n - (j + k) ≡ n - j - k = omega arith in
    let further : at + 8 * (j + k) ≡ at + 8 * j + 8 * k = omega arith in
    let bits : 8 * (j + k) ≤ 64 = omega arith in
    let behind : 8 * j + 8 * k ≤ 8 * (j + k) = omega arith in
    ap₂ (λ (m p : ℕ). good_text (bytes_at s m p)) less further
    ∙ second s (at + 8 * j) (n - j) (omega arith) (behind_held s at (8 * (j + k)) w (8 * j) (8 * k) held bits behind)
    ∙ first s at n (omega arith) (front s at (8 * (j + k)) w held bits (8 * j) (omega arith))

-- ---- characters one by one: the bytes left, which stand in front of the rest of a window, are text exactly if all are

pub Rest : ℕ → ℕ → ℕ → ℕ → Type 0
Rest w n rest left = (s : List ℕ) (at : ℕ) → Holds s at (8 * n) w → (p : ℕ) × Holds s p (8 * left) rest × (good_text (bytes_at s left p) ≡ good_text (bytes_at s n at))

pub rest_all : (w n : ℕ) → Rest w n w n
unfolding Rest
rest_all w n = λ s at held. (at, held, refl)

pub rest_turn : (w n rest left k : ℕ) → Rest w n rest left → left ≤ 6 → k ≤ left → Passes k rest → Rest w n (rest * 2 ^ (8 * k) % 2 ^ 64) (left - k)
unfolding Rest
rest_turn w n rest left k all few there passes = λ s at held.
    let i = all s at held in
    let most : 8 * left ≤ 64 = omega (arith, few) in
    let fits : 8 * k + 8 * (left - k) ≤ 8 * left = omega (arith, there) in
    let within : 8 * k ≤ 8 * left = omega (arith, there) in (
      i.0 + 8 * k,
      behind_held s i.0 (8 * left) rest (8 * k) (8 * (left - k)) i.1 most fits,
      passes s i.0 left there (front s i.0 (8 * left) rest i.1 most (8 * k) within) ∙ i.2,
    )

pub rest_none : (w n rest left : ℕ) → Rest w n rest left → left ≤ 0 → (s : List ℕ) (at : ℕ) → Holds s at (8 * n) w → good_text (bytes_at s n at) ≡ true
unfolding Rest
rest_none w n rest left all none = λ s at held. let i = all s at held in sym i.2 ∙ text_end s left i.0 none
