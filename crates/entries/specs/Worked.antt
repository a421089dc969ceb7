-- Indexes by computation: each case shuts out a wrong reading of M-108. Assumes nothing.
use Rattle.std.specs.Prelude.{◌&&◌, not, [], ◌∷◌, T, eqb}
use Rattle.laws.specs.Lists.{same}
use Rattle.entries.specs.Entries.{entries, entry_bytes, is_index}
use Rattle.laws.specs.Sort.{sorted, rising, position}

-- code 430000 of record 1, and of record 4095: most significant byte first
worked : T (
    same (entry_bytes (1761280001 ∷ [])) (0x68 ∷ 0xFB ∷ 0x00 ∷ 0x01 ∷ [])
    && (same (entries (0x68 ∷ 0xFB ∷ 0x0F ∷ 0xFF ∷ 0x00 ∷ [])) (1761284095 ∷ [])
    && (same (sorted (7 ∷ 4294967295 ∷ 0 ∷ 7 ∷ [])) (0 ∷ 7 ∷ 7 ∷ 4294967295 ∷ [])
    && (same (rising (7 ∷ 4294967295 ∷ 0 ∷ 7 ∷ [])) (0 ∷ 7 ∷ 4294967295 ∷ [])
    && (eqb (position 7 (0 ∷ 6 ∷ 7 ∷ 8 ∷ [])) 2
    && (is_index []
    && (is_index (0 ∷ 0 ∷ 0 ∷ 0 ∷ [])
    -- no whole entry, an entry twice, falling records of a code, falling codes, the last code and one above it
    && (not (is_index (0 ∷ 0 ∷ 0 ∷ []))
    && (not (is_index (0 ∷ 0 ∷ 0 ∷ 1 ∷ 0 ∷ 0 ∷ 0 ∷ 1 ∷ []))
    && (not (is_index (0 ∷ 0 ∷ 1 ∷ 0 ∷ 0 ∷ 0 ∷ 0 ∷ 255 ∷ []))
    && (not (is_index (0 ∷ 0 ∷ 16 ∷ 0 ∷ 0 ∷ 0 ∷ 0 ∷ 255 ∷ []))
    && (is_index (0 ∷ 0 ∷ 0 ∷ 255 ∷ 0xF4 ∷ 0x23 ∷ 0xFF ∷ 0xFF ∷ [])
    && not (is_index (0xF4 ∷ 0x24 ∷ 0x00 ∷ 0x00 ∷ []))))))))))))))
worked = tt
