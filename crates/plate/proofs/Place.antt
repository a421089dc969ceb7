-- Bits at a place. A number at a place is the bits that stand there: the bit at a place is that bit of its byte, and a number its bits one by one.
-- Assumes nothing.
use Rattle.std.proofs.Common.{◌≡◌, ℕ, zero, suc, ◌+◌, ◌-◌, ◌*◌, ◌/◌, ◌%◌, ◌^◌, ◌<◌, ◌≤◌, List, [], ◌∷◌, ◌++◌, length, get_or, take, drop, sym, refl, ap, ◌∙◌, subst, ap₂, mod-lt, pow-suc, div-one, arith, lit<, length-append, length-drop, drop-cons, take_at, get_or-append-add, drop_at, shr-shr}
use lib.Arith.{digits_lt}
use lib.ListN.{get_or-append}
use lib.Seq.{get_or_at, append_snoc}
use Rattle.laws.proofs.Bits.{by_order, half, odd}
use Rattle.plate.specs.Bits.{bits_of, value, unpack, bit, number_at}
use Rattle.plate.proofs.Packed.{length_bits_of, value_bits_of}

-- ---- the bit at a place

bits_low : (w v i : ℕ) → i < w → get_or (bits_of w (v / 2)) i 0 ≡ v / 2 / 2 ^ (w - suc i) % 2 → get_or (bits_of (suc w) v) i 0 ≡ v / 2 ^ (suc w - suc i) % 2
bits_low w v i h e =
    get_or-append (bits_of w (v / 2)) (v % 2 ∷ []) 0 i (subst (λ (n : ℕ). i < n) (sym (length_bits_of w (v / 2))) h)
    ∙ e ∙ ap (λ (n : ℕ). n % 2) (shr-shr v 1 (w - suc i)) ∙ ap (λ (n : ℕ). v / 2 ^ n % 2) (omega arith)

bits_high : (w v i : ℕ) → i ≡ w → get_or (bits_of (suc w) v) i 0 ≡ v / 2 ^ (suc w - suc i) % 2
bits_high w v i e =
    get_or_at (bits_of w (v / 2)) (v % 2) [] 0 i (length_bits_of w (v / 2) ∙ sym e)
    ∙ ap (λ (n : ℕ). n % 2) (sym (div-one v)) ∙ ap (λ (n : ℕ). v / 2 ^ n % 2) {x = 0} (omega arith)

get_d_bits_of : (w v i : ℕ) → i < w → get_or (bits_of w v) i 0 ≡ v / 2 ^ (w - suc i) % 2
get_d_bits_of zero v i h = absurd (omega arith)
get_d_bits_of (suc w) v i h =
    by_order (get_or (bits_of (suc w) v) i 0 ≡ v / 2 ^ (suc w - suc i) % 2) i w (λ k. bits_low w v i k (get_d_bits_of w (v / 2) i k)) (λ k. bits_high w v i (omega arith))

unpack_low : (b : ℕ) (bs : List ℕ) (i : ℕ) → i < 8 → get_or (unpack (b ∷ bs)) i 0 ≡ get_or (b ∷ bs) (i / 8) 0 / 2 ^ (7 - i % 8) % 2
unpack_low b bs i h =
    get_or-append (bits_of 8 b) (unpack bs) 0 i (subst (λ (n : ℕ). i < n) (sym (length_bits_of 8 b)) h)
    ∙ get_d_bits_of 8 b i h
    ∙ ap₂ (λ (k n : ℕ). get_or (b ∷ bs) k 0 / 2 ^ n % 2) {x = 0} {y = i / 8} {u = 8 - suc i} {v = 7 - i % 8} (omega arith) (omega arith)

unpack_high : (b : ℕ) (bs : List ℕ) (i j : ℕ) → i ≡ 8 + j → get_or (unpack bs) j 0 ≡ get_or bs (j / 8) 0 / 2 ^ (7 - j % 8) % 2
    → get_or (unpack (b ∷ bs)) i 0 ≡ get_or (b ∷ bs) (i / 8) 0 / 2 ^ (7 - i % 8) % 2
unpack_high b bs i j e h =
    ap (λ (n : ℕ). get_or (unpack (b ∷ bs)) n 0) (e ∙ ap (λ (n : ℕ). n + j) (sym (length_bits_of 8 b)))
    ∙ get_or-append-add (bits_of 8 b) (unpack bs) j 0
    ∙ h
    ∙ ap₂ (λ (k n : ℕ). get_or (b ∷ bs) k 0 / 2 ^ n % 2) byte (omega (arith, e))
  where
    byte : suc (j / 8) ≡ i / 8
    byte = omega (arith, e)

unpack_bit : (bs : List ℕ) (i : ℕ) → i < 8 * length bs → get_or (unpack bs) i 0 ≡ get_or bs (i / 8) 0 / 2 ^ (7 - i % 8) % 2
unpack_bit [] i h = absurd (omega arith)
unpack_bit (b ∷ bs) i h =
    by_order (get_or (unpack (b ∷ bs)) i 0 ≡ get_or (b ∷ bs) (i / 8) 0 / 2 ^ (7 - i % 8) % 2) i 8 (unpack_low b bs i)
    (λ k. unpack_high b bs i (i - 8) (omega arith) (unpack_bit bs (i - 8) (omega arith)))

pub length_unpack : (bs : List ℕ) → length (unpack bs) ≡ 8 * length bs
length_unpack [] = refl
length_unpack (b ∷ bs) = length-append (bits_of 8 b) (unpack bs) ∙ ap₂ ◌+◌ (length_bits_of 8 b) (length_unpack bs) ∙ omega arith

-- ---- the number at a place

module _ (s : List ℕ) where
  bit_lt : (p : ℕ) → bit s p < 2
  unfolding bit
  bit_lt p = mod-lt _ (lit< tt)

  -- n bits write a number below 2 ^ n.
  pub number_lt : (at n : ℕ) → number_at s at n < 2 ^ n
  unfolding number_at
  number_lt at zero = lit< tt
  number_lt at (suc n) = rw pow-suc (digits_lt (number_lt at n) (bit_lt (at + n)))

  bit_at : (i : ℕ) → i < 8 * length s → get_or (unpack s) i 0 ≡ bit s i
  unfolding bit
  bit_at i h = unpack_bit s i h

  -- The w bits at a place are those of the number that is read there.
  pub wrote : (w at : ℕ) → at + w ≤ 8 * length s → drop at (unpack s) ≡ bits_of w (number_at s at w) ++ drop (at + w) (unpack s)
  unfolding number_at
  wrote zero at h = ap (λ (n : ℕ). drop n (unpack s)) {x = at} {y = at + 0} (omega arith)
  wrote (suc w) at h =
      let n = number_at s at w in
      let b = bit s (at + w) in
      wrote w at (omega arith)
      ∙ ap (λ (l : List ℕ). bits_of w n ++ l) (drop-cons (unpack s) (at + w) 0 (subst (λ (k : ℕ). at + w < k) (sym (length_unpack s)) (omega arith)))
      ∙ ap₂ (λ (c k : ℕ). bits_of w n ++ c ∷ drop k (unpack s)) {x = get_or (unpack s) (at + w) 0} {y = b} {u = suc (at + w)} {v = at + suc w}
      (bit_at (at + w) (omega arith)) (omega arith)
      ∙ sym (append_snoc (bits_of w n) b (drop (at + suc w) (unpack s)))
      ∙ ap₂ (λ (q r : ℕ). bits_of w q ++ (r ∷ []) ++ drop (at + suc w) (unpack s)) (sym (half n b (bit_lt (at + w)))) (sym (odd n b (bit_lt (at + w))))

  -- The bits l stand at a place, up to the end.
  abbrev pub At : ℕ → List ℕ → Type 0
  At at l = (at ≤ 8 * length s) × (drop at (unpack s) ≡ l)

  room : (at : ℕ) (xs ys : List ℕ) → At at (xs ++ ys) → at + length xs ≤ 8 * length s
  room at xs ys h = omega (arith, h.0, sym (length-drop at (unpack s)) ∙ ap length h.1 ∙ length-append xs ys, length_unpack s)

  -- A number that was written at a place is read there.
  pub reads : (w v at : ℕ) (rest : List ℕ) → v < 2 ^ w → At at (bits_of w v ++ rest) → (number_at s at w ≡ v) × At (at + w) rest
  reads w v at rest h a =
      let n = number_at s at w in
      let behind = drop (at + w) (unpack s) in
      let fits : at + w ≤ 8 * length s = subst (λ (k : ℕ). at + k ≤ 8 * length s) (length_bits_of w v) (room at (bits_of w v) rest a) in
      let same = sym (wrote w at fits) ∙ a.1 in (
        sym (value_bits_of w n (number_lt at w))
            ∙ ap (value 0) (sym (take_at (bits_of w n) behind w (length_bits_of w n)) ∙ ap (take w) same ∙ take_at (bits_of w v) rest w (length_bits_of w v))
            ∙ value_bits_of w v h,
        (fits, sym (drop_at (bits_of w n) behind w (length_bits_of w n)) ∙ ap (drop w) same ∙ drop_at (bits_of w v) rest w (length_bits_of w v)),
      )
