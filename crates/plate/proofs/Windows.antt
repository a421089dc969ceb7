-- Bits out of the middle of four bytes: a number of m + n bits is the first m and the last n, four bytes are 32 bits, and the n bits at a place lie
-- within the four bytes from its byte on. Assumes nothing.
use Rattle.std.proofs.Common.{true, ◌≡◌, ℕ, zero, suc, ◌+◌, ◌-◌, ◌*◌, ◌/◌, ◌%◌, ◌^◌, ◌<◌, ◌≤◌, List, get_or, sym, refl, ap, ◌∙◌, subst, lt_of_lt_of_le, add-zero, add_assoc, add-suc, mod-lt, mul_assoc, one-mul, pow-suc, div-add-mod', mul-one, div-one, arith, lit<, pow_pos, pow_mono, shl_exact, shr-shr}
use native.Mathlib.Nat.{div-eq_of_lt}
use lib.Pow.{shl-shr, high, low, field}
use Rattle.plate.specs.Bits.{bit, number_at}
use Rattle.plate.specs.Window.{BytesAt, Holds}
use Rattle.plate.proofs.Place.{number_lt}
use Rattle.std.proofs.lemmas.Grind.{common_steps}
use Rattle.std.specs.Int.{w32, w64, from_be_bytes}
use Rattle.std.specs.Ordering.{is_le, is_lt, nat_cmp}

-- What a range tells of a window that it contains.
pub ranged : (low high w : ℕ) → (is_le (nat_cmp low w) ≡ true) × (is_lt (nat_cmp w high) ≡ true) → (low ≤ w) × (w < high)
ranged low high w h = (grind (arith, common_steps, h.0), grind (arith, common_steps, h.1))

module _ (s : List ℕ) where
  -- The first m bits, then the last n.
  pub number_append : (at m n : ℕ) → number_at s at (m + n) ≡ number_at s at m * 2 ^ n + number_at s (at + m) n
  unfolding number_at
  number_append at m zero = rw (add-zero, mul-one, add-zero)
  number_append at m (suc n) = rw (add-suc, number_append at m n, pow-suc, add_assoc at m n, ← mul_assoc) (omega arith)

  -- n bits out of the middle of m + n + k.
  pub middle : (at m n k : ℕ) → number_at s at (m + n + k) / 2 ^ k % 2 ^ n ≡ number_at s (at + m) n
  middle at m n k = rw (number_append at (m + n) k, high _ k (number_lt s (at + (m + n)) k), number_append at m n, low _ n (number_lt s (at + m) n))

  -- ---- bits in front of a window

  module _ (at p w : ℕ) (h : Holds s at p w) (few : p ≤ 64) where
    -- What holds p bits holds the first n of them.
    pub front : (n : ℕ) → n ≤ p → Holds s at n w
    front n l =
        let e : 64 - n ≡ 64 - p + (p - n) = omega arith in
        let f : p ≡ n + (p - n) = omega arith in
        ap (λ (k : ℕ). w / 2 ^ k) e ∙ sym (shr-shr w (64 - p) (p - n))
        ∙ ap (λ (v : ℕ). v / 2 ^ (p - n)) (h ∙ ap (number_at s at) f ∙ number_append at n (p - n))
        ∙ high (number_at s at n) (p - n) (number_lt s (at + n) (p - n))

    -- The n bits behind the first k.
    pub part_is : (k n : ℕ) → k + n ≤ p → w / 2 ^ (64 - k - n) % 2 ^ n ≡ number_at s (at + k) n
    part_is k n l =
        let e : 64 - k - n ≡ 64 - (k + n) = omega arith in
        ap (λ (v : ℕ). v % 2 ^ n) (ap (λ (x : ℕ). w / 2 ^ x) e ∙ front (k + n) l ∙ number_append at k n) ∙ low (number_at s at k) n (number_lt s (at + k) n)

    -- Shifted by k, it holds the bits behind the first k in front.
    pub shifted : (k : ℕ) → k ≤ p → Holds s (at + k) (p - k) (w * 2 ^ k % 2 ^ 64)
    shifted k l =
        let m : ℕ = 64 - (p - k) in
        let all : 64 ≡ p - k + m = omega arith in
        let off : m ≡ k + (64 - p) = omega arith in
        let f : p ≡ k + (p - k) = omega arith in
        ap (λ (x : ℕ). w * 2 ^ k % 2 ^ x / 2 ^ m) all
        ∙ field (w * 2 ^ k) (p - k) m
        ∙ ap (λ (v : ℕ). v % 2 ^ (p - k))
        (ap (λ (x : ℕ). w * 2 ^ k / 2 ^ x) off ∙ sym (shr-shr (w * 2 ^ k) k (64 - p)) ∙ ap (λ (v : ℕ). v / 2 ^ (64 - p)) (shl-shr w k)
        ∙ h ∙ ap (number_at s at) f ∙ number_append at k (p - k))
        ∙ low (number_at s at k) (p - k) (number_lt s (at + k) (p - k))

  -- ---- bytes

  module _ (bytes : (k : ℕ) → get_or s k 0 < 256) where
    byte_part : (i k : ℕ) → k ≤ 8 → number_at s (8 * i) k ≡ get_or s i 0 / 2 ^ (8 - k)
    unfolding number_at bit
    byte_part i zero h = sym (div-eq_of_lt (bytes i))
    byte_part i (suc k) h =
        let e1 : (8 * i + k) / 8 ≡ i = omega arith in
        let e2 : (8 * i + k) % 8 ≡ k = omega arith in
        let e3 : 8 - k ≡ 7 - k + 1 = omega arith in
        let e4 : 8 - suc k ≡ 7 - k = omega arith in
        rw (byte_part i k (omega arith), e1, e2, e3, e4, ← shr-shr) (div-add-mod' _ _)

    byte_whole : (i at : ℕ) → at ≡ 8 * i → number_at s at 8 ≡ get_or s i 0
    byte_whole i at e = ap (λ (p : ℕ). number_at s p 8) e ∙ byte_part i 8 (omega arith) ∙ div-one _

    -- Four bytes are 32 bits.
    four : (i : ℕ) (bs : List ℕ) → BytesAt s i 4 bs → number_at s (8 * i) 32 ≡ from_be_bytes w32 bs
    four i bs h =
        number_append (8 * i) 24 8
        ∙ rw (
          number_append (8 * i) 16 8,
          number_append (8 * i) 8 8,
          byte_whole i (8 * i) refl,
          byte_whole (i + 1) (8 * i + 8) (omega arith),
          byte_whole (i + 2) (8 * i + 16) (omega arith),
          byte_whole (i + 3) (8 * i + 24) (omega arith),
          h 0 (omega arith),
          h 1 (omega arith),
          h 2 (omega arith),
          h 3 (omega arith),
          add-zero,
        ) (omega arith)

    -- The n bits at a place, out of the four bytes from its byte on.
    pub cut : (at n : ℕ) → n ≤ 24 → (bs : List ℕ) → BytesAt s (at / 8) 4 bs → from_be_bytes w32 bs / 2 ^ (32 - at % 8 - n) % 2 ^ n ≡ number_at s at n
    cut at n h bs there =
        let k : ℕ = 32 - at % 8 - n in
        let all : 32 ≡ at % 8 + n + k = omega arith in
        let place : 8 * (at / 8) + at % 8 ≡ at = omega arith in
        ap (λ (v : ℕ). v / 2 ^ k % 2 ^ n) (sym (four (at / 8) bs there) ∙ ap (number_at s (8 * (at / 8))) all)
        ∙ middle (8 * (at / 8)) (at % 8) n k
        ∙ ap (λ (p : ℕ). number_at s p n) place

    -- ---- sixty-four bits

    -- Eight bytes are 64 bits.
    eight : (i : ℕ) (bs : List ℕ) → BytesAt s i 8 bs → number_at s (8 * i) 64 ≡ from_be_bytes w64 bs
    eight i bs h =
        number_append (8 * i) 56 8
        ∙ rw (
          number_append (8 * i) 48 8,
          number_append (8 * i) 40 8,
          number_append (8 * i) 32 8,
          number_append (8 * i) 24 8,
          number_append (8 * i) 16 8,
          number_append (8 * i) 8 8,
          byte_whole i (8 * i) refl,
          byte_whole (i + 1) (8 * i + 8) (omega arith),
          byte_whole (i + 2) (8 * i + 16) (omega arith),
          byte_whole (i + 3) (8 * i + 24) (omega arith),
          byte_whole (i + 4) (8 * i + 32) (omega arith),
          byte_whole (i + 5) (8 * i + 40) (omega arith),
          byte_whole (i + 6) (8 * i + 48) (omega arith),
          byte_whole (i + 7) (8 * i + 56) (omega arith),
          h 0 (omega arith),
          h 1 (omega arith),
          h 2 (omega arith),
          h 3 (omega arith),
          h 4 (omega arith),
          h 5 (omega arith),
          h 6 (omega arith),
          h 7 (omega arith),
          add-zero,
        ) (omega arith)

    -- The bits from a place on, out of the eight bytes from its byte on, shifted to the front.
    pub window_holds : (at : ℕ) (bs : List ℕ) → BytesAt s (at / 8) 8 bs → Holds s at 57 (from_be_bytes w64 bs * 2 ^ (at % 8) % 2 ^ 64)
    window_holds at bs here =
        let v = from_be_bytes w64 bs in
        let whole : Holds s (8 * (at / 8)) 64 v = div-one v ∙ sym (eight (at / 8) bs here) in
        let place : 8 * (at / 8) + at % 8 ≡ at = omega arith in
        let there : Holds s (8 * (at / 8) + at % 8) (64 - at % 8) (v * 2 ^ (at % 8) % 2 ^ 64) = shifted (8 * (at / 8)) 64 v whole (omega arith) (at % 8) (omega arith) in
        front at (64 - at % 8) (v * 2 ^ (at % 8) % 2 ^ 64) (subst (λ (p : ℕ). Holds s p (64 - at % 8) (v * 2 ^ (at % 8) % 2 ^ 64)) place there) (omega arith) 57 (omega arith)

-- ---- `1u64 << n`

pub shl_one : (n : ℕ) → n ≤ 24 → 1 * 2 ^ n % 18446744073709551616 ≡ 2 ^ n
shl_one n h = shl_exact {a = 1} 1 n 64 (lit< tt) (omega arith) ∙ one-mul _

pub shl_pos : (n : ℕ) → n ≤ 24 → 0 < 1 * 2 ^ n % 18446744073709551616
shl_pos n h = rw (shl_one n h) (pow_pos n)

-- What is cut out fits.
pub cut_small : (x n : ℕ) → n ≤ 24 → x % (1 * 2 ^ n % 18446744073709551616) < 4294967296
cut_small x n h = rw (shl_one n h) (lt_of_lt_of_le (mod-lt x (pow_pos n)) (pow_mono {i = n} {j = 32} (omega arith)))
