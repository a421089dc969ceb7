-- White_Space, what may stand in a name, lowercase and vowels. 01, "From name to codes". Assumes nothing.
use Rattle.std.specs.Prelude.{ℕ, ◌+◌, ◌%◌, Bool, cond, ◌&&◌, ◌||◌, eqb, ltb}
use Rattle.laws.specs.Lists.{between}

-- 01: "the 25 White_Space characters: U+0009 to 000D, 0020, 0085, 00A0, 1680, 2000 to 200A, 2028, 2029, 202F, 205F, 3000."
unfoldable pub white : ℕ → Bool
white c =
    between 0x0009 0x000D c || (eqb c 0x0020 || (eqb c 0x0085 || (eqb c 0x00A0 || (eqb c 0x1680 || (between 0x2000 0x200A c
    || (eqb c 0x2028 || (eqb c 0x2029 || (eqb c 0x202F || (eqb c 0x205F || eqb c 0x3000)))))))))

-- "below U+0180"
abbrev pub latin_end : ℕ
latin_end = 0x180

abbrev pub latin : ℕ → Bool
latin c = ltb c latin_end

-- 02, M-113: "U+0400 to U+045F"
abbrev pub cyrillic_first : ℕ
cyrillic_first = 0x400

abbrev pub cyrillic_last : ℕ
cyrillic_last = 0x45F

abbrev pub cyrillic : ℕ → Bool
cyrillic c = between cyrillic_first cyrillic_last c

-- It has an entry in a lowercase table.
abbrev pub tabled : ℕ → Bool
tabled c = latin c || cyrillic c

-- What may stand in a name. 11: "name holds a character neither White_Space nor below U+0180"; 02, M-113: "refusal 11 now excludes that range too".
abbrev pub allowed : ℕ → Bool
allowed c = white c || tabled c

-- Lowercase. 01: "a fixed lowercase table of 384 entries, U+0000 to U+017F; U+0130 gives `i`", and "lowercase [is] Unicode's".

-- Capitals whose small letter stands 32 behind: A to Z, À to Ö, Ø to Þ.
unfoldable pub capital : ℕ → Bool
capital c = between 0x41 0x5A c || (between 0xC0 0xD6 c || between 0xD8 0xDE c)

-- From U+0100 on a capital and its small letter stand side by side. The capital is the even one from Ā to į, from Ĳ to ķ and from Ŋ to ŷ.
unfoldable pub even_capital : ℕ → Bool
even_capital c = eqb (c % 2) 0 && (between 0x100 0x12F c || (between 0x132 0x137 c || between 0x14A 0x177 c))

-- It is the odd one from Ĺ to ň and from Ź to ž.
unfoldable pub odd_capital : ℕ → Bool
odd_capital c = eqb (c % 2) 1 && (between 0x139 0x148 c || between 0x179 0x17E c)

-- İ (U+0130) gives i, Ÿ (U+0178) gives ÿ (U+00FF); every other character, ſ (U+017F) among them, is its own lowercase.
abbrev pub latin_lower : ℕ → ℕ
latin_lower c =
    cond (capital c) (c + 32)
    (cond (even_capital c || odd_capital c) (c + 1)
    (cond (eqb c 0x130) 0x69
    (cond (eqb c 0x178) 0xFF c)))

-- 02, M-113: "U+0400 to 040F lower by adding 80, U+0410 to 042F by adding 32."
abbrev pub cyrillic_lower : ℕ → ℕ
cyrillic_lower c = cond (between 0x400 0x40F c) (c + 80) (cond (between 0x410 0x42F c) (c + 32) c)

unfoldable pub lower_of : ℕ → ℕ
lower_of c = cond (cyrillic c) (cyrillic_lower c) (latin_lower c)

-- 01: "a, e, i, o or u".
unfoldable pub vowel : ℕ → Bool
vowel c = eqb c 0x61 || (eqb c 0x65 || (eqb c 0x69 || (eqb c 0x6F || eqb c 0x75)))
