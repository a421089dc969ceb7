-- From the bytes of a name to the characters that are coded. 01, "From name to codes". Assumes nothing.
use Rattle.std.specs.Prelude.{ℕ, Bool, cond, not, List, map, ltb, length}
use Rattle.laws.specs.Lists.{every, keep}
use Rattle.chars.specs.Utf8.{is_text, chars_of, bad_place, fail_place}
use Rattle.chars.specs.Letters.{white, allowed, lower_of}
use Rattle.plate.specs.Plate.{Plate}
use Rattle.plate.specs.Read.{fold_by}

-- "Drop the 25 White_Space characters"
abbrev pub inked : ℕ → Bool
inked c = not (white c)

-- "Lowercase each other character [..]. With the flag on, fold once, never again."
abbrev pub coded : Plate → ℕ → ℕ
coded p c = cond p.flag (fold_by p.foldings (lower_of c)) (lower_of c)

abbrev pub prepared : Plate → List ℕ → List ℕ
prepared p name = map (coded p) (keep inked (chars_of name))

-- A name is refused with a number of the table and a place, or its characters are coded.
pub data Named : Type 0 where
  Refused : ℕ → ℕ → Named
  Chars : List ℕ → Named

-- the most bytes of a name
abbrev pub most_name : ℕ
most_name = 256

-- 1: "name over 256 bytes"; 2: "not UTF-8"; 11: "name holds a character neither White_Space nor below U+0180". "Encode and list check [..] 1, 2, 11".
-- 02, M-101: "refusals 2 and 11 [..] return that place, all other answers return 0": the first byte of the first sequence that is not UTF-8, or of the first
-- character that is not allowed.
abbrev pub named : Plate → List ℕ → Named
named p name =
    cond (ltb most_name (length name)) (Refused 1 0)
    (cond (is_text name) (cond (every allowed (chars_of name)) (Chars (prepared p name)) (Refused 11 (fail_place allowed name))) (Refused 2 (bad_place name)))
