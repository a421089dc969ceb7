-- UTF-8. 01: "UTF-8 is RFC 3629". Bytes and characters are numbers; a character is its code point.
-- The bytes of a character and the character of bytes are both read off the table of RFC 3629, section 3:
--     0000 to 007F        0xxxxxxx
--     0080 to 07FF        110xxxxx 10xxxxxx
--     0800 to FFFF        1110xxxx 10xxxxxx 10xxxxxx
--     10000 to 10FFFF     11110xxx 10xxxxxx 10xxxxxx 10xxxxxx
-- proofs/Exact.antt shows that each undoes the other. Assumes nothing.
use Rattle.std.specs.Prelude.{ℕ, zero, suc, ◌+◌, ◌-◌, ◌*◌, ◌/◌, ◌%◌, Bool, true, false, cond, ◌&&◌, ◌||◌, List, [], ◌∷◌, leb, length}
use Rattle.laws.specs.Lists.{between, cat}
use Rattle.chars.specs.declared.Char.{Char}
use Rattle.chars.specs.declared.Char.TheVariants.{One, Bad, End}

-- A Unicode scalar value: up to U+10FFFF, and no surrogate (U+D800 to U+DFFF).
abbrev pub scalar : ℕ → Bool
scalar c = leb c 0xD7FF || between 0xE000 0x10FFFF c

-- ---- from a character to its bytes

abbrev pub bytes_of : ℕ → List ℕ
bytes_of c =
    cond (leb c 0x7F) (c ∷ [])
    (cond (leb c 0x7FF) ((0xC0 + c / 64) ∷ (0x80 + c % 64) ∷ [])
    (cond (leb c 0xFFFF) ((0xE0 + c / 4096) ∷ (0x80 + c / 64 % 64) ∷ (0x80 + c % 64) ∷ [])
    ((0xF0 + c / 262144) ∷ (0x80 + c / 4096 % 64) ∷ (0x80 + c / 64 % 64) ∷ (0x80 + c % 64) ∷ [])))

abbrev pub bytes_of_all : List ℕ → List ℕ
bytes_of_all = cat bytes_of

-- ---- from bytes to the character in front

-- A tail byte, 10xxxxxx.
abbrev pub tail : ℕ → Bool
tail b = between 0x80 0xBF b

-- Behind a first byte a of two, three or four bytes. Bad: cut short; no tail byte where one must stand; overlong, that is, a character that fewer
-- bytes can hold; a surrogate; above U+10FFFF.
abbrev pub two : ℕ → List ℕ → Char
two a [] = Bad
two a (b ∷ s) = let c = a % 32 * 64 + b % 64 in cond (tail b && leb 0x80 c) (One c 2) Bad

abbrev pub three : ℕ → List ℕ → Char
three a [] = Bad
three a (b ∷ []) = Bad
three a (b ∷ b' ∷ s) = let c = a % 16 * 4096 + b % 64 * 64 + b' % 64 in cond (tail b && (tail b' && (leb 0x800 c && scalar c))) (One c 3) Bad

abbrev pub four : ℕ → List ℕ → Char
four a [] = Bad
four a (b ∷ []) = Bad
four a (b ∷ b' ∷ []) = Bad
four a (b ∷ b' ∷ b'' ∷ s) =
    let c = a % 8 * 262144 + b % 64 * 4096 + b' % 64 * 64 + b'' % 64 in
    cond (tail b && (tail b' && (tail b'' && (leb 0x10000 c && scalar c)))) (One c 4) Bad

-- The character that the bytes begin with, and its width. Bad also: a lone tail byte, or a first byte from F8 on.
abbrev pub char_of : List ℕ → Char
char_of [] = End
char_of (a ∷ s) =
    cond (leb a 0x7F) (One a 1)
    (cond (between 0xC0 0xDF a) (two a s)
    (cond (between 0xE0 0xEF a) (three a s)
    (cond (between 0xF0 0xF7 a) (four a s) Bad)))

-- ---- whole texts

abbrev pub is_one : Char → Bool
is_one (One c w) = true
is_one Bad = false
is_one End = false

abbrev pub code_of : Char → ℕ
code_of (One c w) = c
code_of Bad = 0
code_of End = 0

abbrev pub width_of : Char → ℕ
width_of (One c w) = w
width_of Bad = 1
width_of End = 1

-- The bytes are characters, one behind the other; k bytes of the one before are still to pass.
unfoldable pub text_from : ℕ → List ℕ → Bool
text_from k [] = true
text_from (suc k) (x ∷ xs) = text_from k xs
text_from zero (x ∷ xs) = let c = char_of (x ∷ xs) in is_one c && text_from (width_of c - 1) xs

-- Their code points, in order; k bytes of the one before are still to pass.
unfoldable pub chars_from : ℕ → List ℕ → List ℕ
chars_from k [] = []
chars_from (suc k) (x ∷ xs) = chars_from k xs
chars_from zero (x ∷ xs) = let c = char_of (x ∷ xs) in code_of c ∷ chars_from (width_of c - 1) xs

-- The bytes are UTF-8.
abbrev pub is_text : List ℕ → Bool
is_text s = text_from 0 s

-- The characters of a text.
abbrev pub chars_of : List ℕ → List ℕ
chars_of s = chars_from 0 s

-- ---- the place of a fault

-- those in front that pass a test
abbrev pub leading : (ℕ → Bool) → List ℕ → List ℕ
leading t [] = []
leading t (x ∷ xs) = cond (t x) (x ∷ leading t xs) []

-- How many bytes stand before the first sequence that is not UTF-8, k bytes of the character before being still to pass; all of them where there is none.
unfoldable pub sound_from : ℕ → List ℕ → ℕ
sound_from k [] = 0
sound_from (suc k) (x ∷ xs) = suc (sound_from k xs)
sound_from zero (x ∷ xs) = let c = char_of (x ∷ xs) in cond (is_one c) (suc (sound_from (width_of c - 1) xs)) 0

-- 02, M-101: "the first byte of the earliest sequence that is not UTF-8, also when the name simply ends too soon".
abbrev pub bad_place : List ℕ → ℕ
bad_place s = sound_from 0 s

-- the first byte of the first character that fails a test: how many bytes the characters before it take
abbrev pub fail_place : (ℕ → Bool) → List ℕ → ℕ
fail_place t s = length (bytes_of_all (leading t (chars_of s)))
