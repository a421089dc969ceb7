-- Shapes told by masks: bits that are zero in a number's mask, and what they tell of the numbers in front of a window. Assumes nothing.
use Rattle.std.proofs.Common.{◌≡◌, ℕ, zero, suc, ◌+◌, ◌-◌, ◌*◌, ◌/◌, ◌%◌, ◌^◌, ◌<◌, ◌≤◌, true, List, sym, refl, ap, ◌∙◌, subst, mod-lt, mod-eq_of_lt, div-one, arith, pow_pos, shr-shr}
use lib.Pow.{shl-shr, field, mod-mod-pow}
use lib.Bits.{bit_and, bit_or, bit_xor, or_add_and, xor_add_and, xor_zero_r, xor_lt, xor_shr, xor_mod, and_le_l, and_le_r, and_mask, and_shr, and_mod, or_shr, or_mod}
use Rattle.plate.specs.Window.{Holds}
use Rattle.plate.specs.Answers.{bytes_at, good_text, fields_step}
use Rattle.plate.specs.Plain.{Takes, Ascii}
use Rattle.plate.proofs.Accepted.{digit_field}
use Rattle.plate.proofs.Shapes.{in_row, pass_one, Rest, rest_all, rest_turn, rest_none}

-- Bits that a mask of two numbers' bits finds zero are zero in both: the n from place k on, where the mask is ones.
pub both_zero : (n k a b mask : ℕ) → mask / 2 ^ k % 2 ^ n ≡ 2 ^ n - 1 → 0 / 2 ^ k % 2 ^ n ≡ 0 → bit_and (bit_or a b) mask ≡ 0
    → (a / 2 ^ k % 2 ^ n ≡ 0) × (b / 2 ^ k % 2 ^ n ≡ 0)
both_zero n k a b mask ones none clear =
    let x = a / 2 ^ k % 2 ^ n in
    let y = b / 2 ^ k % 2 ^ n in
    let v = bit_or a b in
    let gathered : v / 2 ^ k % 2 ^ n ≡ bit_or x y = ap (λ (u : ℕ). u % 2 ^ n) (or_shr a b k) ∙ or_mod (a / 2 ^ k) (b / 2 ^ k) n in
    let masked : bit_and v mask / 2 ^ k % 2 ^ n ≡ v / 2 ^ k % 2 ^ n % 2 ^ n =
    ap (λ (u : ℕ). u % 2 ^ n) (and_shr v mask k) ∙ and_mod (v / 2 ^ k) (mask / 2 ^ k) n ∙ ap (bit_and (v / 2 ^ k % 2 ^ n)) ones ∙ and_mask (v / 2 ^ k % 2 ^ n) n in
    let same : v / 2 ^ k % 2 ^ n % 2 ^ n ≡ v / 2 ^ k % 2 ^ n = mod_mod v k n in
    let zero : bit_or x y ≡ 0 = sym gathered ∙ sym same ∙ sym masked ∙ ap (λ (u : ℕ). u / 2 ^ k % 2 ^ n) clear ∙ none in
    let sum = or_add_and x y in
    let under = and_le_l x y in
    let under-2 = and_le_r x y in
    (omega (arith, zero, sum, under, under-2), omega (arith, zero, sum, under, under-2))
  where
    mod_mod : (v k n : ℕ) → v / 2 ^ k % 2 ^ n % 2 ^ n ≡ v / 2 ^ k % 2 ^ n
    mod_mod v k n = mod-eq_of_lt (mod-lt (v / 2 ^ k) (pow_pos n))

-- ---- three fields of one alternative of one digit: 0001, 001, and a digit of 0 to 9, three times

-- What is left of 32 bits without the fixed ones: each digit, and of the last its first three bits, with no bit in front of it.
module _ (r : ℕ) (few : r < 33554432) where
  abbrev first : ℕ
  first = r / 2097152

  abbrev second : ℕ
  second = r / 1024 % 2048

  abbrev last : ℕ
  last = r % 1024

  parts : r ≡ first * 2097152 + second * 1024 + last
  parts = omega arith

  second_few : r / 16384 % 128 ≡ 0 → second < 16
  second_few e =
      let q = r / 1024 in
      let f : q / 16 % 128 ≡ 0 = ap (λ (x : ℕ). x % 128) {x = q / 16} {y = r / 16384} (omega arith) ∙ e in
      sixteen q f
    where
      sixteen : (q : ℕ) → q / 16 % 128 ≡ 0 → q % 2048 < 16
      sixteen q f = omega (arith, f)

  last_few : r / 8 % 128 ≡ 0 → last < 8
  last_few e = omega (arith, e)

-- Where nothing is carried when six is added to each digit, each is 0 to 9; of the last one half decides.
no_carry : (r : ℕ) → r < 33554432 → r / 16384 % 128 ≡ 0 → r / 8 % 128 ≡ 0 → r + 12589059 < 33554432 → (r + 12589059) / 16384 % 128 ≡ 0 → (r + 12589059) / 8 % 128 ≡ 0
    → (r / 2097152 % 16 ≤ 9) × (r / 1024 % 16 ≤ 9) × (r % 8 ≤ 4)
no_carry r small e f more-small g h =
    go (first r small) (second r small) (last r small) r (parts r small) (second_few r small e) (last_few r small f) more-small
    (second_few (r + 12589059) more-small g) (last_few (r + 12589059) more-small h)
  where
    go : (a b c r : ℕ) → r ≡ a * 2097152 + b * 1024 + c → b < 16 → c < 8 → r + 12589059 < 33554432 → (r + 12589059) / 1024 % 2048 < 16 → (r + 12589059) % 1024 < 8
        → (r / 2097152 % 16 ≤ 9) × (r / 1024 % 16 ≤ 9) × (r % 8 ≤ 4)
    go a b c r e i j k l m =
        let a-digit : a ≤ 9 = omega (arith, e, k) in
        let b-digit : b ≤ 9 = omega (arith, e, i, j, l) in
        let c-digit : c ≤ 4 = omega (arith, e, i, j, m) in
        (omega (arith, e, a-digit, b-digit, c-digit), omega (arith, e, b-digit, c-digit), omega (arith, e, c-digit))

-- ---- bits that differ

differ : (y c k n : ℕ) → bit_xor y c / 2 ^ k % 2 ^ n ≡ bit_xor (y / 2 ^ k % 2 ^ n) (c / 2 ^ k % 2 ^ n)
differ y c k n = ap (λ (u : ℕ). u % 2 ^ n) (xor_shr y c k) ∙ xor_mod (y / 2 ^ k) (c / 2 ^ k) n

none_differ : (a b : ℕ) → bit_xor a b ≡ 0 → a ≡ b
none_differ a b e =
    let sum = xor_add_and a b in
    let under = and_le_l a b in
    let under-2 = and_le_r a b in omega (arith, e, sum, under, under-2)

eighths : (u : ℕ) → u % 1024 ≡ u / 8 % 128 * 8 + u % 8
eighths u = let q = u / 8 in let e : u ≡ q * 8 + u % 8 = omega arith in let f : q ≡ q / 128 * 128 + q % 128 = omega arith in omega (arith, e, f)

sixteenths : (u v : ℕ) → v ≡ u / 16 → u % 2048 ≡ v % 128 * 16 + u % 16
sixteenths u v h = omega (arith, h)

digit_of : (t h d : ℕ) → t ≡ h * 16 + d → h ≡ 9 → d ≤ 9 → (144 ≤ t) × (t ≤ 153)
digit_of t h d e f g = (omega (arith, e, f), omega (arith, e, f, g))

half_of : (t h d : ℕ) → t ≡ h * 8 + d → h ≡ 9 → d ≤ 4 → (72 ≤ t) × (t ≤ 76)
half_of t h d e f g = (omega (arith, e, f), omega (arith, e, f, g))

under_128 : (h : ℕ) → h < 128 → h % 128 ≡ 9 → h ≡ 9
under_128 h l e = omega (arith, l, e)

-- Of 32 bits the fixed ones are as they are to be, and of the others none is carried over its digit.
module _ (y : ℕ) (few : y < 4294967296) where
  abbrev rest : ℕ
  rest = bit_xor y 302137416

  pub rest_few : rest < 4294967296
  rest_few = xor_lt 32 y 302137416 few (omega arith)

  module _ (clear : bit_and (bit_or rest (rest + 12589059)) 4263494648 ≡ 0) where
    zeros : (k : ℕ) → 4263494648 / 2 ^ k % 2 ^ 7 ≡ 127 → 0 / 2 ^ k % 2 ^ 7 ≡ 0 → (rest / 2 ^ k % 2 ^ 7 ≡ 0) × ((rest + 12589059) / 2 ^ k % 2 ^ 7 ≡ 0)
    zeros k ones none = both_zero 7 k rest (rest + 12589059) 4263494648 ones none clear

    fixed : (k : ℕ) → 4263494648 / 2 ^ k % 2 ^ 7 ≡ 127 → 0 / 2 ^ k % 2 ^ 7 ≡ 0 → y / 2 ^ k % 2 ^ 7 ≡ 302137416 / 2 ^ k % 2 ^ 7
    fixed k ones none = none_differ (y / 2 ^ k % 2 ^ 7) (302137416 / 2 ^ k % 2 ^ 7) (sym (differ y 302137416 k 7) ∙ (zeros k ones none).0)

    free : (k n : ℕ) → 302137416 / 2 ^ k % 2 ^ n ≡ 0 → rest / 2 ^ k % 2 ^ n ≡ y / 2 ^ k % 2 ^ n
    free k n none = differ y 302137416 k n ∙ ap (bit_xor (y / 2 ^ k % 2 ^ n)) none ∙ xor_zero_r (y / 2 ^ k % 2 ^ n)

    digits : (rest / 2097152 % 16 ≤ 9) × (rest / 1024 % 16 ≤ 9) × (rest % 8 ≤ 4)
    digits =
        let high = zeros 25 refl refl in
        let middle = zeros 14 refl refl in
        let low = zeros 3 refl refl in
        let small : rest < 33554432 = omega (arith, rest_few, high.0) in
        let more-small : rest + 12589059 < 33554432 = omega (arith, small, high.1) in
        no_carry rest small middle.0 low.0 more-small middle.1 low.1

    first_digit : (144 ≤ y / 2097152) × (y / 2097152 ≤ 153)
    first_digit =
        let nine = under_128 (y / 33554432) (omega (arith, few)) (fixed 25 refl refl) in
        digit_of (y / 2097152) (y / 33554432) (y / 2097152 % 16) (omega arith) nine (subst (λ (d : ℕ). d ≤ 9) (free 21 4 refl) digits.0)

    second_digit : (144 ≤ y / 1024 % 2048) × (y / 1024 % 2048 ≤ 153)
    second_digit =
        digit_of (y / 1024 % 2048) (y / 16384 % 128) (y / 1024 % 16) (sixteenths (y / 1024) (y / 16384) (omega arith)) (fixed 14 refl refl)
        (subst (λ (d : ℕ). d ≤ 9) (free 10 4 refl) digits.1)

    last_digit : (72 ≤ y % 1024) × (y % 1024 ≤ 76)
    last_digit =
        let same : rest % 8 ≡ y % 8 = ap (λ (x : ℕ). x % 8) (sym (div-one rest)) ∙ free 0 3 refl ∙ ap (λ (x : ℕ). x % 8) (div-one y) in
        half_of (y % 1024) (y / 8 % 128) (y % 8) (eighths y) (fixed 3 refl refl) (subst (λ (d : ℕ). d ≤ 4) same digits.2)

pub three_digits : (w : ℕ) → w < 18446744073709551616 → bit_and (bit_or (bit_xor (w / 4294967296) 302137416) (bit_xor (w / 4294967296) 302137416 + 12589059)) 4263494648 ≡ 0
    → Takes fields_step 41 w 33
three_digits w few clear =
    let y = w / 4294967296 in
    let y-few : y < 4294967296 = omega (arith, few) in
    let one = first_digit y y-few clear in
    let two = second_digit y y-few clear in
    let half = last_digit y y-few clear in
    let second = w * 2048 % 18446744073709551616 in
    let third = w * 4194304 % 18446744073709551616 in
    in_row 41 11 w 11 11 11 (omega arith) (omega arith)
    (λ s at held. digit_field s at w held (omega (arith, one.0)) (omega (arith, one.1)))
    (λ s at held. digit_field s at second held (omega (arith, two.0)) (omega (arith, two.1)))
    (λ s at held. digit_field s at third held (omega (arith, half.0)) (omega (arith, half.1)))

-- ---- ASCII bytes, not zero: neither they nor they less one have their first bit, unless one is borrowed

-- The first bit of each of the first n bytes is zero, and each is 1.
abbrev Low : ℕ → ℕ → Type 0
Low zero v = Unit {0}
Low (suc n) v = (v < 9223372036854775808) × Low n (v * 256 % 18446744073709551616)

abbrev Ones : ℕ → ℕ → Type 0
Ones zero v = Unit {0}
Ones (suc n) v = (v / 72057594037927936 ≡ 1) × Ones n (v * 256 % 18446744073709551616)

ones_less : (n m v : ℕ) → n ≤ m → Ones m v → Ones n v
ones_less zero m v h o = tt
ones_less (suc n) zero v h o = absurd (omega arith)
ones_less (suc n) (suc m) v h o = (o.0, ones_less n m (v * 256 % 18446744073709551616) (omega arith) o.1)

ascii_front : (u w k : ℕ) → u < 9223372036854775808 → w < 9223372036854775808 → k / 72057594037927936 ≡ 1 → (u + k) % 18446744073709551616 ≡ w → Ascii w
ascii_front u w k a b one sum = (omega (arith, a, one, sum), b)

shifted_sum : (u w k : ℕ) → (u + k) % 18446744073709551616 ≡ w
    → (u * 256 % 18446744073709551616 + k * 256 % 18446744073709551616) % 18446744073709551616 ≡ w * 256 % 18446744073709551616
shifted_sum u w k sum = omega (arith, sum)

-- So the bytes left are text.
low_text : (w n left u rest k : ℕ) → Rest w n rest left → left ≤ 6 → (u + k) % 18446744073709551616 ≡ rest → Ones left k → Low left u → Low left rest
    → (s : List ℕ) (at : ℕ) → Holds s at (8 * n) w → good_text (bytes_at s n at) ≡ true
low_text w n zero u rest k all few sum ones a b = rest_none w n rest zero all (omega arith)
low_text w n (suc left) u rest k all few sum ones a b =
    let less : suc left - 1 ≡ left = omega arith in
    let behind = rest_turn w n rest (suc left) 1 all few (omega arith) (pass_one rest (ascii_front u rest k a.0 b.0 ones.0 sum)) in
    low_text w n left (u * 256 % 18446744073709551616) (rest * 256 % 18446744073709551616) (k * 256 % 18446744073709551616)
    (subst (Rest w n (rest * 256 % 18446744073709551616)) less behind) (omega arith) (shifted_sum u rest k sum) ones.1 a.1 b.1

-- Behind a byte the first bit of byte k is that of byte k + 1.
next_bit : (v k : ℕ) → k ≤ 5 → v * 256 % 2 ^ 64 / 2 ^ (63 - 8 * k) % 2 ≡ v / 2 ^ (63 - 8 * suc k) % 2
next_bit v k few =
    let e = 63 - 8 * k in
    let all : 64 ≡ 8 * k + 1 + e = omega arith in
    let more : e ≡ 8 + (63 - 8 * suc k) = omega arith in
    ap (λ (x : ℕ). v * 256 % 2 ^ x / 2 ^ e % 2) all
    ∙ ap (λ (x : ℕ). x % 2) (field (v * 256) (8 * k + 1) e)
    ∙ mod-mod-pow (v * 256 / 2 ^ e) (8 * k) 1
    ∙ ap (λ (x : ℕ). v * 256 / 2 ^ x % 2) more
    ∙ ap (λ (x : ℕ). x % 2) (sym (shr-shr (v * 256) 8 (63 - 8 * suc k)) ∙ ap (λ (x : ℕ). x / 2 ^ (63 - 8 * suc k)) (shl-shr v 8))

low_from : (n v : ℕ) → v < 18446744073709551616 → n ≤ 6 → ((k : ℕ) → k < n → v / 2 ^ (63 - 8 * k) % 2 ≡ 0) → Low n v
low_from zero v l few bits = tt
low_from (suc n) v l few bits =
    let first : v / 9223372036854775808 % 2 ≡ 0 = bits 0 (omega arith) in (
      omega (arith, l, first),
      low_from n (v * 256 % 18446744073709551616) (omega arith) (omega arith) (λ k h. next_bit v k (omega arith) ∙ bits (suc k) (omega arith)),
    )

-- What the mask tells of each byte.
ones_at : (i : ℕ) → i < 6 → (9259542123273814144 / 2 ^ (8 * i + 7) % 2 ^ 1 ≡ 1) × (0 / 2 ^ (8 * i + 7) % 2 ^ 1 ≡ 0)
ones_at zero h = (refl, refl)
ones_at (suc zero) h = (refl, refl)
ones_at (suc (suc zero)) h = (refl, refl)
ones_at (suc (suc (suc zero))) h = (refl, refl)
ones_at (suc (suc (suc (suc zero)))) h = (refl, refl)
ones_at (suc (suc (suc (suc (suc zero))))) h = (refl, refl)
ones_at (suc (suc (suc (suc (suc (suc i)))))) h = absurd (omega arith)

module _ (u w n : ℕ) (few : n ≤ 6) (clear : bit_and (bit_or u w / 2 ^ (64 - 8 * n)) 9259542123273814144 ≡ 0) where
  first_bits : (k : ℕ) → k < n → (u / 2 ^ (63 - 8 * k) % 2 ≡ 0) × (w / 2 ^ (63 - 8 * k) % 2 ≡ 0)
  first_bits k h =
      let s = 64 - 8 * n in
      let i = n - 1 - k in
      let j = 8 * i + 7 in
      let place : s + j ≡ 63 - 8 * k = omega (arith, h, few) in
      let ones = ones_at i (omega (arith, h, few)) in
      let z = both_zero 1 j (u / 2 ^ s) (w / 2 ^ s) 9259542123273814144 ones.0 ones.1 (ap (λ (x : ℕ). bit_and x 9259542123273814144) (sym (or_shr u w s)) ∙ clear) in
      let there : (v : ℕ) → v / 2 ^ (63 - 8 * k) % 2 ≡ v / 2 ^ s / 2 ^ j % 2 = λ v. ap (λ (x : ℕ). v / 2 ^ x % 2) (sym place) ∙ ap (λ (x : ℕ). x % 2) (sym (shr-shr v s j)) in
      (there u ∙ z.0, there w ∙ z.1)

  module _ (some : 1 ≤ n) (u-few : u < 18446744073709551616) (w-few : w < 18446744073709551616) (sum : (u + 72340172838076673) % 18446744073709551616 ≡ w) where
    u_low : Low n u
    u_low = low_from n u u-few few (λ k h. (first_bits k h).0)

    w_low : Low n w
    w_low = low_from n w w-few few (λ k h. (first_bits k h).1)

    pub low_ascii : Ascii w
    low_ascii =
        let a : u / 9223372036854775808 % 2 ≡ 0 = (first_bits 0 some).0 in
        let b : w / 9223372036854775808 % 2 ≡ 0 = (first_bits 0 some).1 in
        ascii_front u w 72340172838076673 (omega (arith, u-few, a)) (omega (arith, w-few, b)) refl sum

    pub all_low : (s : List ℕ) (at : ℕ) → Holds s at (8 * n) w → good_text (bytes_at s n at) ≡ true
    all_low =
        low_text w n n u w 72340172838076673 (rest_all w n) few sum (ones_less n 6 72340172838076673 few (refl, (refl, (refl, (refl, (refl, (refl, tt))))))) u_low w_low
