-- Entries of 32 bits in a buffer of bytes, and when bytes are an index (M-108). Assumes nothing.
use Rattle.std.specs.Prelude.{ℕ, ◌+◌, ◌-◌, ◌*◌, ◌/◌, ◌%◌, ◌≡◌, Bool, true, ◌&&◌, List, [], ◌∷◌, ltb, leb, eqb, length, take, drop, set}
use Rattle.laws.specs.Lists.{every}

-- M-108: "entries of 32 bits"
abbrev pub entry_bits : ℕ
entry_bits = 32

-- the number that four bytes write, most significant first
abbrev pub number_of : ℕ → ℕ → ℕ → ℕ → ℕ
number_of a b c d = ((a * 256 + b) * 256 + c) * 256 + d

-- the whole entries of a buffer, from its front
abbrev pub entries : List ℕ → List ℕ
entries [] = []
entries (a ∷ []) = []
entries (a ∷ b ∷ []) = []
entries (a ∷ b ∷ c ∷ []) = []
entries (a ∷ b ∷ c ∷ d ∷ more) = number_of a b c d ∷ entries more

-- the bytes of entries
abbrev pub entry_bytes : List ℕ → List ℕ
entry_bytes [] = []
entry_bytes (v ∷ more) = (v / 16777216) ∷ (v / 65536 % 256) ∷ (v / 256 % 256) ∷ (v % 256) ∷ entry_bytes more

-- an entry stored at i, and nothing behind it touched
abbrev pub EntryPut : ℕ → ℕ → List ℕ → List ℕ → Type 0
EntryPut i v l m = (entries m ≡ set (entries l) i v) × (drop (4 * i + 4) m ≡ drop (4 * i + 4) l)

-- the entries of a buffer that stand before the room for the new ones
abbrev pub old_entries : List ℕ → List ℕ → List ℕ
old_entries bytes new = take (length (entries bytes) - length new) (entries bytes)

-- ---- an index

-- M-108: "From up to 4,096 names [..] numbered from 0": a record number is below this
abbrev pub most_records : ℕ
most_records = 4096

-- M-108: "a code above 999,999" is none
abbrev pub most_code : ℕ
most_code = 999999

-- M-108: "20 bits code, 12 bits record number"
abbrev pub code_in : ℕ → ℕ
code_in x = x / most_records

abbrev pub record_in : ℕ → ℕ
record_in x = x % most_records

abbrev pub is_code : ℕ → Bool
is_code x = leb (code_in x) most_code

abbrev pub record_below : ℕ → ℕ → Bool
record_below limit x = ltb (record_in x) limit

-- M-108: "Entries rise strictly."
abbrev pub rises_strictly : List ℕ → Bool
rises_strictly [] = true
rises_strictly (x ∷ []) = true
rises_strictly (x ∷ y ∷ more) = ltb x y && rises_strictly (y ∷ more)

-- M-108: "index bytes that are no whole entries, break the order or hold a code above 999,999" are no index
abbrev pub is_index : List ℕ → Bool
is_index bytes = eqb (length bytes % 4) 0 && (rises_strictly (entries bytes) && every is_code (entries bytes))
