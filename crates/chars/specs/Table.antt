-- The lowercase tables. 01: "a fixed lowercase table of 384 entries, U+0000 to U+017F"; beside it one of 96, U+0400 to U+045F (02, M-113). Assumes nothing.
use Rattle.std.specs.Prelude.{ℕ, zero, suc, List, [], ◌∷◌}
use Rattle.chars.specs.Letters.{latin_end, cyrillic_first, lower_of}

-- the lowercase of n characters, from the character c on
abbrev pub lowers_from : ℕ → ℕ → List ℕ
lowers_from zero c = []
lowers_from (suc n) c = lower_of c ∷ lowers_from n (suc c)

unfoldable pub table : List ℕ
table = lowers_from latin_end 0

abbrev pub cyrillic_count : ℕ
cyrillic_count = 96

unfoldable pub cyrillic_table : List ℕ
cyrillic_table = lowers_from cyrillic_count cyrillic_first
