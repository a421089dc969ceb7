-- Bits, most significant first. 01, "The plate, bits most significant first". A bit is 0 or 1, a byte eight of them. Assumes nothing.
use Rattle.std.specs.Prelude.{ℕ, zero, suc, ◌+◌, ◌-◌, ◌*◌, ◌/◌, ◌%◌, ◌^◌, List, [], ◌∷◌, ◌++◌, slice_index}

-- v as w bits
abbrev pub bits_of : ℕ → ℕ → List ℕ
bits_of zero v = []
bits_of (suc w) v = bits_of w (v / 2) ++ (v % 2 ∷ [])

-- the number that bits write, behind the bits of n
abbrev pub value : ℕ → List ℕ → ℕ
value n [] = n
value n (b ∷ bs) = value (n * 2 + b) bs

-- the bits of bytes
abbrev pub unpack : List ℕ → List ℕ
unpack [] = []
unpack (b ∷ bs) = bits_of 8 b ++ unpack bs

abbrev pub byte_of : ℕ → ℕ → ℕ → ℕ → ℕ → ℕ → ℕ → ℕ → ℕ
byte_of a b c d e f g h = value 0 (a ∷ b ∷ c ∷ d ∷ e ∷ f ∷ g ∷ h ∷ [])

-- The bytes of bits. 01: "Zero bits fill the last byte."
abbrev pub pack : List ℕ → List ℕ
pack [] = []
pack (a ∷ []) = byte_of a 0 0 0 0 0 0 0 ∷ []
pack (a ∷ b ∷ []) = byte_of a b 0 0 0 0 0 0 ∷ []
pack (a ∷ b ∷ c ∷ []) = byte_of a b c 0 0 0 0 0 ∷ []
pack (a ∷ b ∷ c ∷ d ∷ []) = byte_of a b c d 0 0 0 0 ∷ []
pack (a ∷ b ∷ c ∷ d ∷ e ∷ []) = byte_of a b c d e 0 0 0 ∷ []
pack (a ∷ b ∷ c ∷ d ∷ e ∷ f ∷ []) = byte_of a b c d e f 0 0 ∷ []
pack (a ∷ b ∷ c ∷ d ∷ e ∷ f ∷ g ∷ []) = byte_of a b c d e f g 0 ∷ []
pack (a ∷ b ∷ c ∷ d ∷ e ∷ f ∷ g ∷ h ∷ more) = byte_of a b c d e f g h ∷ pack more

-- ---- reading at a bit place; past the end every bit is 0

unfoldable pub bit : List ℕ → ℕ → ℕ
bit s at = slice_index s (at / 8) / 2 ^ (7 - at % 8) % 2

-- the number that n bits from a place on write
unfoldable pub number_at : List ℕ → ℕ → ℕ → ℕ
number_at s at zero = 0
number_at s at (suc n) = number_at s at n * 2 + bit s (at + n)
