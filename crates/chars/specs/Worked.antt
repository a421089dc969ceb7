-- Each kind of ill-formed bytes, characters of each width, and the places of faults, by computation. Assumes nothing.
use Rattle.std.specs.Prelude.{ℕ, Bool, ◌&&◌, not, List, [], ◌∷◌, T, eqb, drop}
use Rattle.laws.specs.Lists.{every, same}
use Rattle.chars.specs.Utf8.{text_from, is_text, chars_from, chars_of, sound_from, bad_place, fail_place}
use Rattle.chars.specs.Letters.{capital, even_capital, odd_capital, lower_of, tabled}
use Rattle.chars.specs.Quoted.{bytes}

-- bytes that are not UTF-8
abbrev bad : List (List ℕ)
bad =
    -- overlong: U+002F in two bytes, U+07FF in three, U+FFFF in four
    (0xC0 ∷ 0xAF ∷ []) ∷ (0xE0 ∷ 0x9F ∷ 0xBF ∷ []) ∷ (0xF0 ∷ 0x8F ∷ 0xBF ∷ 0xBF ∷ [])
    -- surrogates: U+D800, U+DFFF
    ∷ (0xED ∷ 0xA0 ∷ 0x80 ∷ []) ∷ (0xED ∷ 0xBF ∷ 0xBF ∷ [])
    -- above U+10FFFF; a first byte from F8 on
    ∷ (0xF4 ∷ 0x90 ∷ 0x80 ∷ 0x80 ∷ []) ∷ (0xF8 ∷ 0x88 ∷ 0x80 ∷ 0x80 ∷ 0x80 ∷ []) ∷ (0xFF ∷ [])
    -- a lone tail, in front and behind a whole character
    ∷ (0x80 ∷ []) ∷ (0xC3 ∷ 0xA9 ∷ 0xA9 ∷ [])
    -- cut short, at the end and by a character that follows
    ∷ (0xC3 ∷ []) ∷ (0xE2 ∷ 0x82 ∷ []) ∷ (0xF0 ∷ 0x9F ∷ 0x98 ∷ []) ∷ (0xE2 ∷ 0x82 ∷ 0x61 ∷ []) ∷ (0xC3 ∷ 0xC3 ∷ 0xA9 ∷ [])
    ∷ []

abbrev refused : List ℕ → Bool
refused s = not (is_text s)

-- the last before and the first behind each edge
abbrev edges : List ℕ
edges = 0x00 ∷ 0x7F ∷ 0x80 ∷ 0x7FF ∷ 0x800 ∷ 0xD7FF ∷ 0xE000 ∷ 0xFFFF ∷ 0x10000 ∷ 0x10FFFF ∷ []

abbrev edge_bytes : List ℕ
edge_bytes =
    0x00 ∷ 0x7F ∷ 0xC2 ∷ 0x80 ∷ 0xDF ∷ 0xBF ∷ 0xE0 ∷ 0xA0 ∷ 0x80 ∷ 0xED ∷ 0x9F ∷ 0xBF ∷ 0xEE ∷ 0x80 ∷ 0x80 ∷ 0xEF ∷ 0xBF ∷ 0xBF ∷ 0xF0 ∷ 0x90 ∷ 0x80 ∷ 0x80 ∷ 0xF4
    ∷ 0x8F ∷ 0xBF ∷ 0xBF ∷ []

abbrev quoted : List ℕ
quoted = 0x61 ∷ 0xC3 ∷ 0x80 ∷ 0xE2 ∷ 0x82 ∷ 0xAC ∷ 0xF0 ∷ 0x9F ∷ 0x98 ∷ 0x80 ∷ []

-- bytes that begin with a whole character, and where the sequence begins that is not UTF-8: not at the byte that breaks it, and not counted in characters
abbrev begun : Bool
begun =
    eqb (bad_place (0x61 ∷ 0xE2 ∷ 0x82 ∷ 0x61 ∷ [])) 1 && eqb (bad_place (0xC6 ∷ 0x80 ∷ 0xFF ∷ [])) 2
    && eqb (bad_place (0x72 ∷ 0x72 ∷ 0xED ∷ 0xA0 ∷ 0x80 ∷ [])) 2 && eqb (bad_place (0xE2 ∷ 0x82 ∷ 0xAC ∷ 0xC3 ∷ [])) 3

-- where the first character from U+0180 on begins
abbrev foreign : Bool
foreign = eqb (fail_place tabled (bytes "abƀ")) 2 && eqb (fail_place tabled (bytes "éƀaѡ")) 2

-- 02, M-113: "U+0400 to 040F lower by adding 80, U+0410 to 042F by adding 32", and no character beyond the range
abbrev second : Bool
second =
    eqb (lower_of 0x400) 0x450 && eqb (lower_of 0x40F) 0x45F && eqb (lower_of 0x410) 0x430 && eqb (lower_of 0x42F) 0x44F && eqb (lower_of 0x430) 0x430
    && eqb (lower_of 0x45F) 0x45F && tabled 0x400 && tabled 0x45F && not (tabled 0x3FF) && not (tabled 0x460)

-- What is ill-formed is refused, what is well-formed is read; and no other character, and no other byte, for any of them.
pub worked : T (every refused bad && is_text edge_bytes && same (chars_of edge_bytes) edges && same (bytes "aÀ€😀") quoted
    && not (same (chars_of edge_bytes) (0x01 ∷ drop 1 edges)) && not (same (chars_of edge_bytes) (drop 1 edges)) && not (same (bytes "aÀ€😁") quoted) && begun && foreign && second)
unfolding text_from chars_from sound_from lower_of capital even_capital odd_capital
worked = tt
