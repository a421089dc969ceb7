-- Numbers as bits and bits as bytes: each is read as it was written, by induction on the width and on the bits. Assumes nothing.
use Rattle.std.proofs.Common.{◌≡◌, ℕ, zero, suc, ◌+◌, ◌*◌, ◌/◌, ◌%◌, ◌^◌, ◌<◌, List, [], ◌∷◌, ◌++◌, length, replicate, sym, refl, ap, ◌∙◌, subst, ap₂, append_assoc, append-nil, add-zero, add-suc, suc-add, pow-suc, zero-add, add-one, arith, length-append}
use lib.ListN.{replicate-append-replicate}
use Rattle.laws.specs.Lists.{cat}
use Rattle.laws.proofs.Bits.{half, odd}
use Rattle.plate.specs.Bits.{bits_of, value, unpack, byte_of, pack}

-- each is 0 or 1
abbrev pub Binary : List ℕ → Type 0
Binary [] = Unit {0}
Binary (b ∷ bs) = (b < 2) × Binary bs

-- each is a byte
abbrev pub Bytes : List ℕ → Type 0
Bytes [] = Unit {0}
Bytes (b ∷ bs) = (b < 256) × Bytes bs

-- ---- numbers

-- The last bit counts once, those before it twice.
value_snoc : (n : ℕ) (bs : List ℕ) (b : ℕ) → value n (bs ++ (b ∷ [])) ≡ value n bs * 2 + b
value_snoc n [] b = refl
value_snoc n (c ∷ cs) b = value_snoc (n * 2 + c) cs b

pub length_bits_of : (w v : ℕ) → length (bits_of w v) ≡ w
length_bits_of zero v = refl
length_bits_of (suc w) v = length-append (bits_of w (v / 2)) (v % 2 ∷ []) ∙ ap (λ (n : ℕ). n + 1) (length_bits_of w (v / 2)) ∙ omega arith

-- A number that fits w bits is read as it was written.
pub value_bits_of : (w v : ℕ) → v < 2 ^ w → value 0 (bits_of w v) ≡ v
value_bits_of zero v h = omega arith
value_bits_of (suc w) v h =
    value_snoc 0 (bits_of w (v / 2)) (v % 2) ∙ ap (λ (n : ℕ). n * 2 + v % 2) (value_bits_of w (v / 2) (omega (arith, pow-suc 2 w))) ∙ omega arith

-- Bits are written as they were read, behind the k bits of a number.
behind_bits : (k n : ℕ) (bs : List ℕ) → Binary bs → bits_of (k + length bs) (value n bs) ≡ bits_of k n ++ bs
behind_bits k n [] h = ap (λ (m : ℕ). bits_of m n) (add-zero k) ∙ sym (append-nil (bits_of k n))
behind_bits k n (b ∷ bs) h =
    ap (λ (m : ℕ). bits_of m (value (n * 2 + b) bs)) (add-suc k (length bs) ∙ sym (suc-add k (length bs)))
    ∙ behind_bits (suc k) (n * 2 + b) bs h.1
    ∙ ap₂ (λ (q r : ℕ). bits_of k q ++ (r ∷ []) ++ bs) (half n b h.0) (odd n b h.0)
    ∙ append_assoc (bits_of k n) (b ∷ []) bs

bits_of_value : (bs : List ℕ) → Binary bs → bits_of (length bs) (value 0 bs) ≡ bs
bits_of_value bs h = ap (λ (n : ℕ). bits_of n (value 0 bs)) (sym (zero-add (length bs))) ∙ behind_bits 0 0 bs h

-- Zero bits are those of 0.
pub zero_bits : (k : ℕ) → replicate k 0 ≡ bits_of k 0
zero_bits zero = refl
zero_bits (suc k) = ap (λ (n : ℕ). replicate n 0) (sym (add-one k)) ∙ sym (replicate-append-replicate k 1 0) ∙ ap (λ (l : List ℕ). l ++ (0 ∷ [])) (zero_bits k)

-- ---- what is written is bits

pub binary_append : (xs ys : List ℕ) → Binary xs → Binary ys → Binary (xs ++ ys)
binary_append [] ys h i = i
binary_append (x ∷ xs) ys h i = (h.0, binary_append xs ys h.1 i)

pub binary_bits_of : (w v : ℕ) → Binary (bits_of w v)
binary_bits_of zero v = tt
binary_bits_of (suc w) v = binary_append (bits_of w (v / 2)) (v % 2 ∷ []) (binary_bits_of w (v / 2)) (omega arith, tt)

pub binary_cat : {A : Type 0} (g : A → List ℕ) → ((a : A) → Binary (g a)) → (xs : List A) → Binary (cat g xs)
binary_cat g h [] = tt
binary_cat g h (x ∷ xs) = binary_append (g x) (cat g xs) (h x) (binary_cat g h xs)

-- ---- bytes

-- Eight bits are those of their byte.
module _ {a b c d e f g h : ℕ} where
  eight : a < 2 → b < 2 → c < 2 → d < 2 → e < 2 → f < 2 → g < 2 → h < 2 → bits_of 8 (byte_of a b c d e f g h) ≡ a ∷ b ∷ c ∷ d ∷ e ∷ f ∷ g ∷ h ∷ []
  eight p q r s t u v w = bits_of_value (a ∷ b ∷ c ∷ d ∷ e ∷ f ∷ g ∷ h ∷ []) (p, (q, (r, (s, (t, (u, (v, (w, tt))))))))

-- The bits, and fewer than eight zero bits behind them.
abbrev pub Filled : List ℕ → List ℕ → Type 0
Filled bits all = (n : ℕ) × (all ≡ bits ++ replicate n 0) × (n < 8)

z : 0 < 2
z = omega arith

-- The bits of packed bits are those bits and the fill.
pub unpack_pack : (bs : List ℕ) → Binary bs → Filled bs (unpack (pack bs))
unpack_pack [] k = (0, refl, omega arith)
unpack_pack (a ∷ []) k = (7, eight k.0 z z z z z z z, omega arith)
unpack_pack (a ∷ b ∷ []) k = (6, eight k.0 k.1.0 z z z z z z, omega arith)
unpack_pack (a ∷ b ∷ c ∷ []) k = (5, eight k.0 k.1.0 k.1.1.0 z z z z z, omega arith)
unpack_pack (a ∷ b ∷ c ∷ d ∷ []) k = (4, eight k.0 k.1.0 k.1.1.0 k.1.1.1.0 z z z z, omega arith)
unpack_pack (a ∷ b ∷ c ∷ d ∷ e ∷ []) k = (3, eight k.0 k.1.0 k.1.1.0 k.1.1.1.0 k.1.1.1.1.0 z z z, omega arith)
unpack_pack (a ∷ b ∷ c ∷ d ∷ e ∷ f ∷ []) k =
    (2, eight k.0 k.1.0 k.1.1.0 k.1.1.1.0 k.1.1.1.1.0 k.1.1.1.1.1.0 z z, omega arith)
unpack_pack (a ∷ b ∷ c ∷ d ∷ e ∷ f ∷ g ∷ []) k =
    (1, eight k.0 k.1.0 k.1.1.0 k.1.1.1.0 k.1.1.1.1.0 k.1.1.1.1.1.0 k.1.1.1.1.1.1.0 z, omega arith)
unpack_pack (a ∷ b ∷ c ∷ d ∷ e ∷ f ∷ g ∷ h ∷ more) k =
    let r = unpack_pack more k.1.1.1.1.1.1.1.1 in (
      r.0,
      ap₂ ◌++◌
          (eight k.0 k.1.0 k.1.1.0 k.1.1.1.0 k.1.1.1.1.0 k.1.1.1.1.1.0 k.1.1.1.1.1.1.0 k.1.1.1.1.1.1.1.0)
          r.1,
      r.2,
    )

-- Bytes are packed as they were unpacked.
pub pack_unpack : (s : List ℕ) → Bytes s → pack (unpack s) ≡ s
pack_unpack [] h = refl
pack_unpack (b ∷ bs) h = ap₂ ◌∷◌ (value_bits_of 8 b h.0) (pack_unpack bs h.1)

-- k is n, and n zero bits change nothing.
filled : (l : List ℕ) (k n : ℕ) → k ≡ n → pack (l ++ replicate n 0) ≡ pack l → pack (l ++ replicate k 0) ≡ pack l
filled l k n e h = subst (λ (m : ℕ). pack (l ++ replicate m 0) ≡ pack l) (sym e) h

-- Zero bits that fill the last byte change nothing.
pub pack_fill : (l : List ℕ) (k : ℕ) → k < 8 → (length l + k) % 8 ≡ 0 → pack (l ++ replicate k 0) ≡ pack l
pack_fill [] k h m = filled [] k 0 (omega arith) refl
pack_fill (a ∷ []) k h m = filled (a ∷ []) k 7 (omega arith) refl
pack_fill (a ∷ b ∷ []) k h m = filled (a ∷ b ∷ []) k 6 (omega arith) refl
pack_fill (a ∷ b ∷ c ∷ []) k h m = filled (a ∷ b ∷ c ∷ []) k 5 (omega arith) refl
pack_fill (a ∷ b ∷ c ∷ d ∷ []) k h m = filled (a ∷ b ∷ c ∷ d ∷ []) k 4 (omega arith) refl
pack_fill (a ∷ b ∷ c ∷ d ∷ e ∷ []) k h m = filled (a ∷ b ∷ c ∷ d ∷ e ∷ []) k 3 (omega arith) refl
pack_fill (a ∷ b ∷ c ∷ d ∷ e ∷ f ∷ []) k h m = filled (a ∷ b ∷ c ∷ d ∷ e ∷ f ∷ []) k 2 (omega arith) refl
pack_fill (a ∷ b ∷ c ∷ d ∷ e ∷ f ∷ g ∷ []) k h m = filled (a ∷ b ∷ c ∷ d ∷ e ∷ f ∷ g ∷ []) k 1 (omega arith) refl
pack_fill (a ∷ b ∷ c ∷ d ∷ e ∷ f ∷ g ∷ i ∷ more) k h m = ap (λ (l : List ℕ). byte_of a b c d e f g i ∷ l) (pack_fill more k h (omega arith))
