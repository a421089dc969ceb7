-- Entries and their bytes: what stands at a place, a store, a part of the buffer, and that whole entries are told by their bytes and tell them. Assumes nothing.
use Prim.Native.Nat.{ℕ, zero, suc, ◌+◌, ◌-◌, ◌*◌, ◌/◌, ◌%◌, ◌^◌, ◌≤◌, ◌<◌}
use mathlib.Core.Path.{◌≡◌, refl, sym, ap, ap₂, ◌∙◌}
use mathlib.Core.List.{List, [], ◌∷◌, ◌++◌}
use native.Mathlib.Omega.{arith}
use lib.ListN.{length, take, drop, get_or, set}
use Rattle.laws.specs.Arrays.{Each}
use lib.Pow.{field, mod-mod-pow, shr-shr}
use Rattle.entries.specs.Entries.{entry_bits, number_of, entries, entry_bytes}
use Rattle.laws.specs.Sort.{bit_of}

-- Four bytes on, place by place.
four : (i k : ℕ) → 4 * suc i + k ≡ suc (suc (suc (suc (4 * i + k))))
four i k = omega arith

four_on : (i : ℕ) → 4 * suc i ≡ suc (suc (suc (suc (4 * i))))
four_on i = omega arith

pub length_entries : (l : List ℕ) → length (entries l) ≡ length l / 4
length_entries [] = refl
length_entries (a ∷ []) = refl
length_entries (a ∷ b ∷ []) = refl
length_entries (a ∷ b ∷ c ∷ []) = refl
length_entries (a ∷ b ∷ c ∷ d ∷ l) = omega (arith, length_entries l)

-- The entry at a place is the number of its four bytes.
pub entry_here : (l : List ℕ) (i : ℕ) → 4 * i + 4 ≤ length l
    → get_or (entries l) i 0 ≡ number_of (get_or l (4 * i) 0) (get_or l (4 * i + 1) 0) (get_or l (4 * i + 2) 0) (get_or l (4 * i + 3) 0)
entry_here [] i h = absurd (omega arith)
entry_here (a ∷ []) i h = absurd (omega arith)
entry_here (a ∷ b ∷ []) i h = absurd (omega arith)
entry_here (a ∷ b ∷ c ∷ []) i h = absurd (omega arith)
entry_here (a ∷ b ∷ c ∷ d ∷ l) zero h = refl
entry_here (a ∷ b ∷ c ∷ d ∷ l) (suc i) h =
    let all = a ∷ b ∷ c ∷ d ∷ l in
    entry_here l i (omega arith)
    ∙ sym (λ j. number_of (get_or all (four_on i j) 0) (get_or all (four i 1 j) 0) (get_or all (four i 2 j) 0) (get_or all (four i 3 j) 0))

-- ---- a bit of an entry is a bit of one of its bytes

byte_bit : (n r : ℕ) → r < 8 → n % 256 / 2 ^ r % 2 ≡ n / 2 ^ r % 2
byte_bit n r h =
    ap (λ (e : ℕ). n % 2 ^ e / 2 ^ r % 2) {x = 8} {y = 8 - r + r} (omega arith)
    ∙ ap (λ (m : ℕ). m % 2) (field n (8 - r) r)
    ∙ ap (λ (e : ℕ). n / 2 ^ r % 2 ^ e % 2) {x = 8 - r} {y = 7 - r + 1} (omega arith)
    ∙ mod-mod-pow (n / 2 ^ r) (7 - r) 1

module _ (l : List ℕ) (i : ℕ) (h : 4 * i + 4 ≤ length l) (f : (k : ℕ) → get_or l k 0 < 256) where
  byte_of : (t : ℕ) → t < 4 → get_or l (4 * i + 3 - t) 0 ≡ get_or (entries l) i 0 / 2 ^ (8 * t) % 256
  byte_of zero g = ap (λ (k : ℕ). get_or l k 0) {x = 4 * i + 3 - 0} {y = 4 * i + 3} (omega arith) ∙ omega (arith, entry_here l i h, f (4 * i + 3))
  byte_of (suc zero) g =
      ap (λ (k : ℕ). get_or l k 0) {x = 4 * i + 3 - 1} {y = 4 * i + 2} (omega arith) ∙ omega (arith, entry_here l i h, f (4 * i + 3), f (4 * i + 2))
  byte_of (suc (suc zero)) g =
      ap (λ (k : ℕ). get_or l k 0) {x = 4 * i + 3 - 2} {y = 4 * i + 1} (omega arith) ∙ omega (arith, entry_here l i h, f (4 * i + 3), f (4 * i + 2), f (4 * i + 1))
  byte_of (suc (suc (suc zero))) g =
      ap (λ (k : ℕ). get_or l k 0) {x = 4 * i + 3 - 3} {y = 4 * i} (omega arith) ∙ omega (arith, entry_here l i h, f (4 * i + 3), f (4 * i + 2), f (4 * i + 1), f (4 * i))
  byte_of (suc (suc (suc (suc t)))) g = absurd (omega arith)

  pub bit_here : (w : ℕ) → w < entry_bits → get_or l (4 * i + 3 - w / 8) 0 / 2 ^ (w % 8) % 2 ≡ bit_of w (get_or (entries l) i 0)
  bit_here w g =
      let v : ℕ = get_or (entries l) i 0 in
      ap (λ (b : ℕ). b / 2 ^ (w % 8) % 2) (byte_of (w / 8) (omega arith))
      ∙ byte_bit (v / 2 ^ (8 * (w / 8))) (w % 8) (omega arith)
      ∙ ap (λ (m : ℕ). m % 2) (shr-shr v (8 * (w / 8)) (w % 8))
      ∙ ap (λ (e : ℕ). v / 2 ^ e % 2) {x = 8 * (w / 8) + w % 8} {y = w} (omega arith)

-- Four bytes in the place of four are an entry stored.
pub entry_stored : (l : List ℕ) (i a b c d : ℕ) → 4 * i + 4 ≤ length l
    → entries (take (4 * i) l ++ (a ∷ b ∷ c ∷ d ∷ drop (4 * i + 4 - 4 * i) (drop (4 * i) l))) ≡ set (entries l) i (number_of a b c d)
entry_stored [] i a b c d h = absurd (omega arith)
entry_stored (x ∷ []) i a b c d h = absurd (omega arith)
entry_stored (x ∷ y ∷ []) i a b c d h = absurd (omega arith)
entry_stored (x ∷ y ∷ z ∷ []) i a b c d h = absurd (omega arith)
entry_stored (x ∷ y ∷ z ∷ u ∷ l) zero a b c d h = refl
entry_stored (x ∷ y ∷ z ∷ u ∷ l) (suc i) a b c d h =
    let all = x ∷ y ∷ z ∷ u ∷ l in
    ap₂ (λ (m n : ℕ). entries (take m all ++ (a ∷ b ∷ c ∷ d ∷ drop n (drop m all)))) {u = 4 * suc i + 4 - 4 * suc i} {v = 4 * i + 4 - 4 * i} (four_on i) (omega arith)
    ∙ ap (λ (m : List ℕ). number_of x y z u ∷ m) (entry_stored l i a b c d (omega arith))

pub value_bytes : (v : ℕ) → number_of (v / 16777216) (v / 65536 % 256) (v / 256 % 256) (v % 256) ≡ v
value_bytes v =
    let two : v / 65536 ≡ v / 256 / 256 = omega arith in
    let three : v / 16777216 ≡ v / 256 / 256 / 256 = omega arith in
    omega arith

-- ---- parts of a buffer

pub entries_take : (m : ℕ) (l : List ℕ) → entries (take (4 * m) l) ≡ take m (entries l)
entries_take zero l = refl
entries_take (suc m) [] = ap (λ (k : ℕ). entries (take k [])) (four_on m)
entries_take (suc m) (a ∷ []) = ap (λ (k : ℕ). entries (take k (a ∷ []))) (four_on m)
entries_take (suc m) (a ∷ b ∷ []) = ap (λ (k : ℕ). entries (take k (a ∷ b ∷ []))) (four_on m)
entries_take (suc m) (a ∷ b ∷ c ∷ []) = ap (λ (k : ℕ). entries (take k (a ∷ b ∷ c ∷ []))) (four_on m)
entries_take (suc m) (a ∷ b ∷ c ∷ d ∷ l) =
    ap (λ (k : ℕ). entries (take k (a ∷ b ∷ c ∷ d ∷ l))) (four_on m) ∙ ap (λ (x : List ℕ). number_of a b c d ∷ x) (entries_take m l)

pub entries_drop : (m : ℕ) (l : List ℕ) → entries (drop (4 * m) l) ≡ drop m (entries l)
entries_drop zero l = refl
entries_drop (suc m) [] = ap (λ (k : ℕ). entries (drop k [])) (four_on m)
entries_drop (suc m) (a ∷ []) = ap (λ (k : ℕ). entries (drop k (a ∷ []))) (four_on m)
entries_drop (suc m) (a ∷ b ∷ []) = ap (λ (k : ℕ). entries (drop k (a ∷ b ∷ []))) (four_on m)
entries_drop (suc m) (a ∷ b ∷ c ∷ []) = ap (λ (k : ℕ). entries (drop k (a ∷ b ∷ c ∷ []))) (four_on m)
entries_drop (suc m) (a ∷ b ∷ c ∷ d ∷ l) = ap (λ (k : ℕ). entries (drop k (a ∷ b ∷ c ∷ d ∷ l))) (four_on m) ∙ entries_drop m l

pub entries_append : (xs ys : List ℕ) → length xs % 4 ≡ 0 → entries (xs ++ ys) ≡ entries xs ++ entries ys
entries_append [] ys h = refl
entries_append (a ∷ []) ys h = absurd (omega arith)
entries_append (a ∷ b ∷ []) ys h = absurd (omega arith)
entries_append (a ∷ b ∷ c ∷ []) ys h = absurd (omega arith)
entries_append (a ∷ b ∷ c ∷ d ∷ xs) ys h = ap (λ (x : List ℕ). number_of a b c d ∷ x) (entries_append xs ys (omega arith))

-- ---- whole entries and their bytes tell each other

abbrev pub Byte : ℕ → Type 0
Byte b = b < 256

abbrev pub AllBytes : List ℕ → Type 0
AllBytes = Each Byte

-- a number that fits an entry
abbrev pub Small : ℕ → Type 0
Small x = x < 2 ^ entry_bits

pub bytes_entries : (l : List ℕ) → AllBytes l → length l % 4 ≡ 0 → entry_bytes (entries l) ≡ l
bytes_entries [] e h = refl
bytes_entries (a ∷ []) e h = absurd (omega arith)
bytes_entries (a ∷ b ∷ []) e h = absurd (omega arith)
bytes_entries (a ∷ b ∷ c ∷ []) e h = absurd (omega arith)
bytes_entries (a ∷ b ∷ c ∷ d ∷ l) e h =
    let p : a < 256 = e.0 in
    let q : b < 256 = e.1.0 in
    let r : c < 256 = e.1.1.0 in
    let s : d < 256 = e.1.1.1.0 in
    let one : number_of a b c d / 16777216 ≡ a = omega arith in
    let two : number_of a b c d / 65536 % 256 ≡ b = omega arith in
    let three : number_of a b c d / 256 % 256 ≡ c = omega arith in
    let four : number_of a b c d % 256 ≡ d = omega arith in
    λ j. (one j) ∷ (two j) ∷ (three j) ∷ (four j) ∷ bytes_entries l e.1.1.1.1 (omega arith) j

pub entries_bytes : (l : List ℕ) → entries (entry_bytes l) ≡ l
entries_bytes [] = refl
entries_bytes (v ∷ l) = ap₂ ◌∷◌ (value_bytes v) (entries_bytes l)

pub entries_small : (l : List ℕ) → AllBytes l → Each Small (entries l)
entries_small [] e = tt
entries_small (a ∷ []) e = tt
entries_small (a ∷ b ∷ []) e = tt
entries_small (a ∷ b ∷ c ∷ []) e = tt
entries_small (a ∷ b ∷ c ∷ d ∷ l) e =
    let p : a < 256 = e.0 in
    let q : b < 256 = e.1.0 in
    let r : c < 256 = e.1.1.0 in
    let s : d < 256 = e.1.1.1.0 in
    (omega arith, entries_small l e.1.1.1.1)

pub whole_in : (l : List ℕ) (k : ℕ) → k ≤ length (entries l) → 4 * k ≤ length l
whole_in l k h = omega (arith, length_entries l)

pub length_bytes : (l : List ℕ) → length (entry_bytes l) ≡ 4 * length l
length_bytes [] = refl
length_bytes (v ∷ l) = omega (arith, length_bytes l)

pub all_bytes : (b : List ℕ) → ((k : ℕ) → get_or b k 0 < 256) → AllBytes b
all_bytes [] f = tt
all_bytes (x ∷ b) f = (f 0, all_bytes b (λ k. f (suc k)))
