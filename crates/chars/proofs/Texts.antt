-- A text, one character at a time: what a character in front says of the text. Assumes nothing.
use mathlib.Core.Path.{◌≡◌, refl, ap}
use mathlib.Core.List.{List, [], ◌∷◌}
use Prim.Native.Nat.{ℕ, zero, suc, ◌≤◌}
use native.Mathlib.Omega.{arith}
use native.Mathlib.Numerals.{sub-one}
use lib.ListN.{drop}
use Rattle.chars.specs.Utf8.{char_of, text_from, chars_from, is_text, chars_of}
use Rattle.chars.specs.declared.Char.{Char}
use Rattle.chars.specs.declared.Char.TheVariants.{One, Bad, End}

-- A tag of each answer, to tell them apart.
abbrev pub kind : Char → ℕ
kind (One c w) = 0
kind Bad = 1
kind End = 2

-- Bytes still to pass are bytes dropped.
pub text_skip : (k : ℕ) (s : List ℕ) → text_from k s ≡ is_text (drop k s)
unfolding text_from
text_skip zero s = refl
text_skip (suc k) [] = refl
text_skip (suc k) (x ∷ xs) = text_skip k xs

pub chars_skip : (k : ℕ) (s : List ℕ) → chars_from k s ≡ chars_of (drop k s)
unfolding chars_from
chars_skip zero s = refl
chars_skip (suc k) [] = refl
chars_skip (suc k) (x ∷ xs) = chars_skip k xs

-- Behind a character the text goes on.
pub text_front : (s : List ℕ) (c w : ℕ) → char_of s ≡ One c w → 1 ≤ w → is_text s ≡ is_text (drop w s)
unfolding text_from
text_front [] c w e h = absurd (omega (arith, ap kind e))
text_front (x ∷ xs) c zero e h = absurd (omega arith)
text_front (x ∷ xs) c (suc w) e h = rw (e, sub-one) (text_skip w xs)

-- The character in front is the first of the text's characters.
pub chars_front : (s : List ℕ) (c w : ℕ) → char_of s ≡ One c w → 1 ≤ w → chars_of s ≡ c ∷ chars_of (drop w s)
unfolding chars_from
chars_front [] c w e h = absurd (omega (arith, ap kind e))
chars_front (x ∷ xs) c zero e h = absurd (omega arith)
chars_front (x ∷ xs) c (suc w) e h = rw (e, sub-one) (ap (λ (l : List ℕ). c ∷ l) (chars_skip w xs))
