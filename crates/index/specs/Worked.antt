-- Entries and lookups by computation: each case shuts out a wrong reading of M-108. Whole calls from rule text stand in `promises`. Assumes nothing.
use Rattle.std.specs.Prelude.{ℕ, ◌&&◌, not, List, [], ◌∷◌, T, eqb, length}
use Rattle.laws.specs.Lists.{same}
use Rattle.chars.specs.Quoted.{bytes}
use Rattle.entries.specs.Entries.{entry_bytes}
use Rattle.index.specs.Index.{codes_from, code_number, entry_of, fits, made}
use Rattle.index.specs.Find.{records_of, two_bytes}

-- a line as list leaves it: two codes and a byte as lent
abbrev line : List ℕ
line = bytes "430000|043000?"

worked : T (
    -- digits are read from the front, and a leading zero counts for nothing
    eqb (code_number (bytes "430000")) 430000
    && (eqb (code_number (bytes "043000")) 43000
    && (eqb (code_number (bytes "999999")) 999999
    -- as many codes as are told, seven bytes from one to the next
    && (eqb (length (codes_from 2 line)) 2
    -- 20 bits code, 12 bits record number
    && (eqb (entry_of 1 430000) 1761280001
    && (same (entry_bytes (entry_of 4095 430000 ∷ [])) (0x68 ∷ 0xFB ∷ 0x0F ∷ 0xFF ∷ [])
    && (eqb (entry_of 4095 999999) 4095999999
    -- the records of any of the codes, rising and once each, though a code's entries stand before another's
    && (same (records_of (430000 ∷ 43000 ∷ []) (entry_of 7 43000 ∷ entry_of 0 430000 ∷ entry_of 7 430000 ∷ entry_of 3 430001 ∷ [])) (0 ∷ 7 ∷ [])
    && (same (records_of (430000 ∷ 43000 ∷ []) (entry_of 5 43000 ∷ entry_of 0 430000 ∷ [])) (0 ∷ 5 ∷ [])
    && (same (records_of (430001 ∷ []) (entry_of 7 43000 ∷ entry_of 3 430001 ∷ [])) (3 ∷ [])
    && (same (records_of [] (entry_of 7 43000 ∷ [])) []
    && (same (two_bytes 4095) (0x0F ∷ 0xFF ∷ [])
    -- bytes behind are as lent; a byte too few is refused, in the index or in the report
    && (same (made (entry_of 1 430000 ∷ []) (0 ∷ 12 ∷ []) (1 ∷ 2 ∷ 3 ∷ 4 ∷ 5 ∷ []) (6 ∷ 7 ∷ 8 ∷ [])).index (0x68 ∷ 0xFB ∷ 0x00 ∷ 0x01 ∷ 5 ∷ [])
    && (same (made (entry_of 1 430000 ∷ []) (0 ∷ 12 ∷ []) (1 ∷ 2 ∷ 3 ∷ 4 ∷ 5 ∷ []) (6 ∷ 7 ∷ 8 ∷ [])).report (0 ∷ 12 ∷ 8 ∷ [])
    && (fits (entry_of 1 430000 ∷ []) (0 ∷ 12 ∷ []) (1 ∷ 2 ∷ 3 ∷ 4 ∷ []) (6 ∷ 7 ∷ [])
    && (not (fits (entry_of 1 430000 ∷ []) (0 ∷ 12 ∷ []) (1 ∷ 2 ∷ 3 ∷ []) (6 ∷ 7 ∷ []))
    && not (fits (entry_of 1 430000 ∷ []) (0 ∷ 12 ∷ []) (1 ∷ 2 ∷ 3 ∷ 4 ∷ []) (6 ∷ []))))))))))))))))))
worked = tt
