-- A lookup. 02, M-108: "A lookup, with the plate the index was made with, takes a name and lists, two bytes each, most significant first, rising and once each,
-- exactly the records that share a code with it." Assumes nothing.
use Rattle.std.specs.Prelude.{ℕ, ◌/◌, ◌%◌, Bool, cond, List, [], ◌∷◌, map, eqb, leb, length}
use Rattle.laws.specs.Lists.{some, keep, cat}
use Rattle.plate.specs.Read.{accepted}
use Rattle.ward.specs.Ward.{Written, unwritten, written}
use Rattle.laws.specs.Sort.{rising}
use Rattle.entries.specs.Entries.{entries, code_in, record_in, is_index}
use Rattle.index.specs.Index.{codes_in, refusal_of}

-- an entry's code is one of these
abbrev pub shares : List ℕ → ℕ → Bool
shares codes e = some (eqb (code_in e)) codes

-- "rising and once each, exactly the records that share a code with it"
abbrev pub records_of : List ℕ → List ℕ → List ℕ
records_of codes es = rising (map record_in (keep (shares codes) es))

-- "two bytes each, most significant first"
abbrev pub two_bytes : ℕ → List ℕ
two_bytes r = (r / 256) ∷ (r % 256) ∷ []

-- "last 9 if the records do not fit"
abbrev pub recorded : List ℕ → List ℕ → Written
recorded records lent = cond (leb (length (cat two_bytes records)) (length lent)) (written (cat two_bytes records) lent) (unwritten 9 lent)

-- "Refusal 10 first; [..] lookup also give[s] 18 for index bytes that are no whole entries, break the order or hold a code above 999,999 [..]. Lookup then gives
-- list's refusals at 447 bytes"
unfoldable pub find_answer : List ℕ → List ℕ → List ℕ → List ℕ → Written
find_answer plate index name lent =
    cond (accepted plate)
    (cond (is_index index)
    (cond (eqb (refusal_of plate name) 0) (recorded (records_of (codes_in plate name) (entries index)) lent) (unwritten (refusal_of plate name) lent)) (unwritten 18 lent))
    (unwritten 10 lent)
