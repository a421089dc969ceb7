-- Names of before there was Cyrillic. 02, M-113: "Names accepted before give the same answers". What a name gave then, and that list and encode leave the
-- same for every name that could be accepted. Assumes nothing.
use Rattle.std.specs.Prelude.{ℕ, ◌≡◌, Bool, true, cond, ◌||◌, List, map, ltb, length}
use Rattle.std.proofs.Math.Option.{Option, none, some}
use Rattle.laws.specs.Lists.{every, keep}
use Rattle.chars.specs.Utf8.{is_text, chars_of, bad_place, fail_place}
use Rattle.chars.specs.Letters.{white, latin, latin_lower}
use Rattle.plate.specs.Plate.{Plate}
use Rattle.plate.specs.Read.{fold_by, read_plate}
use Rattle.branches.specs.Branches.{Use}
use Rattle.coder.specs.Name.{inked, Named, most_name}
use Rattle.coder.specs.Name.Named.{Refused, Chars}
use Rattle.coder.specs.Answer.{Coded, no_codes, answered, listed, encoded}

-- 11 was: "name holds a character neither White_Space nor below U+0180"
abbrev pub allowed_before : ℕ → Bool
allowed_before c = white c || latin c

-- lowercase was that of the one table
abbrev pub coded_before : Plate → ℕ → ℕ
coded_before p c = cond p.flag (fold_by p.foldings (latin_lower c)) (latin_lower c)

abbrev pub prepared_before : Plate → List ℕ → List ℕ
prepared_before p name = map (coded_before p) (keep inked (chars_of name))

abbrev pub named_before : Plate → List ℕ → Named
named_before p name =
    cond (ltb most_name (length name)) (Refused 1 0)
    (cond (is_text name) (cond (every allowed_before (chars_of name)) (Chars (prepared_before p name)) (Refused 11 (fail_place allowed_before name))) (Refused 2 (bad_place name)))

abbrev pub plated_before : (List Use → List ℕ → Coded) → Option Plate → List ℕ → List ℕ → Coded
plated_before call none name lent = no_codes 10 lent
plated_before call (some p) name lent = answered call p.rules (named_before p name) lent

-- a name all of whose characters are White_Space or below U+0180
abbrev pub IsLatin : List ℕ → Type 0
IsLatin name = every allowed_before (chars_of name) ≡ true

-- Number, count, place and every byte are those of before.
abbrev pub ListsLatin : List ℕ → List ℕ → List ℕ → Coded → Type 0
ListsLatin plate name lent a = IsLatin name → a ≡ plated_before listed (read_plate plate) name lent

abbrev pub EncodesLatin : List ℕ → List ℕ → List ℕ → Coded → Type 0
EncodesLatin plate name lent a = IsLatin name → a ≡ plated_before encoded (read_plate plate) name lent
