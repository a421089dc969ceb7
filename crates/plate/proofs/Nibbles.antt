-- Digits of four bits tested at once: where no digit has its bit 3 and one of its bits 2 and 1, each is 0 to 9. Assumes nothing.
use Rattle.std.proofs.Common.{◌≡◌, ℕ, zero, suc, ◌+◌, ◌*◌, ◌/◌, ◌%◌, ◌^◌, ◌<◌, Bool, true, false, cond, not, ◌&&◌, eqb, leb, replicate, sym, refl, ap, ◌∙◌, subst, ap₂, mod-lt, suc-add, zero-add, arith, pow_pos, shr-shr, shr_lt, ne_eqb, le-leb}
use lib.Pow.{split}
use lib.Bits.{bit_and, bit_or, and_block, and_mask, and_zero_r, and_shr, or_shr, and_mod, or_mod}
use Rattle.laws.proofs.Many.{and_holds}
use Rattle.laws.proofs.Table.{at}
use Rattle.plate.specs.Answers.{last_digits}

-- the bits that tell of a number's digits, each in its digit's place 0
abbrev pub told : ℕ → ℕ
told v = bit_and (v / 8) (bit_or (v / 4) (v / 2))

-- the places 0 of k digits
abbrev pub places : ℕ → ℕ
places zero = 0
places (suc k) = places k * 16 + 1

-- behind the last digit they tell of the others
told_behind : (v : ℕ) → told v / 16 ≡ told (v / 16)
told_behind v =
    and_shr (v / 8) (bit_or (v / 4) (v / 2)) 4
    ∙ ap₂ bit_and (swap 3) (or_shr (v / 4) (v / 2) 4 ∙ ap₂ bit_or (swap 2) (swap 1))
  where
    swap : (k : ℕ) → v / 2 ^ k / 2 ^ 4 ≡ v / 2 ^ 4 / 2 ^ k
    swap k = shr-shr v k 4 ∙ ap (λ (e : ℕ). v / 2 ^ e) {x = k + 4} {y = 4 + k} (omega arith) ∙ sym (shr-shr v 4 k)

-- of the last digit the lowest bit tells: tried for all sixteen
abbrev fine : ℕ → Bool
fine u = eqb (bit_and (u / 8 % 2) (bit_or (u / 4 % 2) (u / 2 % 2))) 0

abbrev agree : Bool → Bool → Bool
agree a b = cond a b (not b)

agree_is : (a b : Bool) → agree a b ≡ true → a ≡ b
agree_is true true e = refl
agree_is false false e = refl
agree_is true false e = sym e
agree_is false true e = e

fine_is : (u : ℕ) → u < 16 → fine u ≡ leb u 9
fine_is u h = agree_is (fine u) (leb u 9) (at (λ (k x : ℕ). agree (fine k) (leb k 9)) (replicate 16 0) refl u h)

low_tells : (v : ℕ) → eqb (told v % 2) 0 ≡ leb (v % 16) 9
low_tells v =
    let eight : v / 8 % 2 ≡ v % 16 / 8 % 2 = omega arith in
    let four : v / 4 % 2 ≡ v % 16 / 4 % 2 = omega arith in
    let two : v / 2 % 2 ≡ v % 16 / 2 % 2 = omega arith in
    ap (λ (x : ℕ). eqb x 0) (and_mod (v / 8) (bit_or (v / 4) (v / 2)) 1 ∙ ap₂ bit_and eight (or_mod (v / 4) (v / 2) 1 ∙ ap₂ bit_or four two))
    ∙ fine_is (v % 16) (omega arith)

-- one behind the other
both_zero : (a t : ℕ) → eqb (a * 16 + t) 0 ≡ eqb t 0 && eqb a 0
both_zero zero zero = refl
both_zero (suc a) zero = ne_eqb (suc a * 16 + 0) 0 (omega arith) ∙ sym (ne_eqb (suc a) 0 (omega arith))
both_zero a (suc t) =
    ne_eqb (a * 16 + suc t) 0 (omega arith) ∙ sym (ap (λ (x : Bool). x && eqb a 0) (ne_eqb (suc t) 0 (omega arith)))

pub digits_at_once : (k v : ℕ) → eqb (bit_and (told v) (places k)) 0 ≡ last_digits k v
digits_at_once zero v = ap (λ (x : ℕ). eqb x 0) (and_zero_r (told v))
digits_at_once (suc k) v =
    ap (λ (x : ℕ). eqb x 0)
    (ap (λ (x : ℕ). bit_and x (places k * 16 + 1)) (sym (split (told v) 4))
    ∙ and_block 4 (told v / 16) (places k) (told v % 16) 1 (mod-lt (told v) (pow_pos 4)) (omega arith)
    ∙ ap₂ (λ (x y : ℕ). x * 16 + y) (ap (λ (x : ℕ). bit_and x (places k)) (told_behind v)) (and_mask (told v % 16) 1))
    ∙ both_zero (bit_and (told (v / 16)) (places k)) (told v % 16 % 2)
    ∙ ap₂ ◌&&◌ (ap (λ (x : ℕ). eqb x 0) {x = told v % 16 % 2} {y = told v % 2} (omega arith) ∙ low_tells v) (digits_at_once k (v / 16))

-- digits in front that are 0 are good
all_zero : (k v : ℕ) → v < 1 → last_digits k v ≡ true
all_zero zero v h = refl
all_zero (suc k) v h = and_holds (leb (v % 16) 9) (last_digits k (v / 16)) (le-leb (v % 16) 9 (omega arith)) ∙ all_zero k (v / 16) (omega arith)

pub zeros_in_front : (k n v : ℕ) → v < 2 ^ (4 * n) → last_digits (n + k) v ≡ last_digits n v
zeros_in_front k zero v h = ap (λ (m : ℕ). last_digits m v) (zero-add k) ∙ all_zero k v h
zeros_in_front k (suc n) v h =
    ap (λ (m : ℕ). last_digits m v) (suc-add n k)
    ∙ ap (λ (b : Bool). leb (v % 16) 9 && b) (zeros_in_front k n (v / 16) (shr_lt (4 * n) 4 (subst (λ (e : ℕ). v < 2 ^ e) {x = 4 * suc n} {y = 4 * n + 4} (omega arith) h)))
