-- The character at a place: four bytes decide it, zeros behind the end change nothing, and it lies within the bytes. Assumes nothing.
use mathlib.Core.Path.{◌≡◌, refl, sym, ap}
use mathlib.Core.Bool.{Bool, cond}
use mathlib.Core.List.{List, [], ◌∷◌}
use Prim.Native.Nat.{ℕ, ◌+◌, ◌-◌, ◌*◌, ◌%◌, ◌≤◌}
use native.Mathlib.Omega.{arith}
use lib.Dec.{leb}
use lib.ListN.{length, drop, get_or, length-drop, drop_of_length-le}
use Rattle.laws.specs.Lists.{between}
use Rattle.laws.proofs.Tests.{and_right_false}
use Rattle.chars.specs.Utf8.{tail, two, three, four, char_of}
use Rattle.chars.specs.Answers.{Reaches}
use Rattle.chars.specs.declared.Char.{Char}
use Rattle.chars.specs.declared.Char.TheVariants.{One, Bad, End}
use Rattle.chars.proofs.Exact.{Decoded, decoded_any, bytes_count, scalar_most}

-- The byte behind the last is read as 0, which is no tail byte.
three_numbers : (a : ℕ) (s : List ℕ) → three a (get_or s 0 0 ∷ get_or s 1 0 ∷ get_or s 2 0 ∷ []) ≡ three a s
three_numbers a [] = refl
three_numbers a (b ∷ []) = ap (λ (t : Bool). cond t (One (a % 16 * 4096 + b % 64 * 64 + 0) 3) Bad) (and_right_false (tail b) _ refl)
three_numbers a (b ∷ b' ∷ s) = refl

four_numbers : (a : ℕ) (s : List ℕ) → four a (get_or s 0 0 ∷ get_or s 1 0 ∷ get_or s 2 0 ∷ []) ≡ four a s
four_numbers a [] = refl
four_numbers a (b ∷ []) = ap (λ (t : Bool). cond t (One (a % 8 * 262144 + b % 64 * 4096 + 0 + 0) 4) Bad) (and_right_false (tail b) _ refl)
four_numbers a (b ∷ b' ∷ []) =
    ap (λ (t : Bool). cond t (One (a % 8 * 262144 + b % 64 * 4096 + b' % 64 * 64 + 0) 4) Bad) (and_right_false (tail b) _ (and_right_false (tail b') _ refl))
four_numbers a (b ∷ b' ∷ b'' ∷ s) = refl

two_numbers : (a : ℕ) (s : List ℕ) → two a (get_or s 0 0 ∷ get_or s 1 0 ∷ get_or s 2 0 ∷ []) ≡ two a s
two_numbers a [] = refl
two_numbers a (b ∷ s) = refl

-- The character in front is that of the first byte and of three behind it, with zeros behind the end.
pub front : (a : ℕ) (s : List ℕ) → char_of (a ∷ get_or s 0 0 ∷ get_or s 1 0 ∷ get_or s 2 0 ∷ []) ≡ char_of (a ∷ s)
front a s =
    λ i. cond (leb a 0x7F) (One a 1)
    (cond (between 0xC0 0xDF a) (two_numbers a s i)
    (cond (between 0xE0 0xEF a) (three_numbers a s i)
    (cond (between 0xF0 0xF7 a) (four_numbers a s i) Bad)))

pub numbers : (s : List ℕ) → (length s ≡ 0 → ⊥) → char_of (get_or s 0 0 ∷ get_or s 1 0 ∷ get_or s 2 0 ∷ get_or s 3 0 ∷ []) ≡ char_of s
numbers [] h = absurd (h refl)
numbers (a ∷ s) h = front a s

-- Behind the end nothing stands.
pub behind : (s : List ℕ) (at : ℕ) → length s ≤ at → End ≡ char_of (drop at s)
behind s at h = sym (ap char_of (drop_of_length-le s h))

-- What stands at a place lies within the bytes.
pub reaches : (s : List ℕ) (at : ℕ) → at ≤ length s → Reaches at (length s) (char_of (drop at s))
reaches s at h = go (char_of (drop at s)) (decoded_any (drop at s)) (length-drop at s)
  where
    go : (r : Char) → Decoded (drop at s) r → length (drop at s) ≡ length s - at → Reaches at (length s) r
    go (One c w) f n =
        let m = bytes_count c in
        let k = scalar_most c f.0 in
        let e = f.2 in
        let l = f.3 in record { some = omega arith; few = omega arith; within = omega arith; small = omega arith; is = f.0 }
    go Bad f n = omega arith
    go End f n = omega arith
