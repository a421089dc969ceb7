-- Small lists of rules, by computation. Assumes nothing.
use Rattle.std.specs.Prelude.{ℕ, ◌≡◌, refl, false, List, [], ◌∷◌}
use Rattle.laws.specs.Once.{once}
use Rattle.chars.specs.Utf8.{chars_from}
use Rattle.chars.specs.Quoted.{bytes}
use Rattle.plate.specs.Plate.{Rule, same_pattern}
use Rattle.branches.specs.Branches.{Use}
use Rattle.coder.specs.Walk.{walk, uses}

-- a rule with one alternative in all three fields, and its use
abbrev pub rule : List ℕ → List ℕ → Rule
rule pattern code = record { pattern = pattern; start = code ∷ []; vowel = code ∷ []; other = code ∷ [] }

abbrev use_of : List ℕ → Use
use_of code = record { alternatives = code ∷ []; anyway = false }

-- Equal patterns need not be neighbours, and the fields do not matter.
pub worked_once : once same_pattern
    (rule (bytes "ab") (bytes "1") ∷ rule (bytes "ac") (bytes "2") ∷ rule (bytes "ab") (bytes "3") ∷ rule (bytes "a") (bytes "4") ∷ rule (bytes "ab") (bytes "5") ∷ [])
    ≡ rule (bytes "ab") (bytes "1") ∷ rule (bytes "ac") (bytes "2") ∷ rule (bytes "a") (bytes "4") ∷ []
worked_once = refl

-- Patterns that are not UTF-8 may read as the same characters though their bytes differ, and then the order of the two rules matters. No plate holds such.
pub not_utf8 : (uses (rule (0xFE ∷ []) (bytes "1") ∷ rule (0xFF ∷ []) (bytes "2") ∷ []) (0 ∷ []) ≡ use_of (bytes "1") ∷ [])
    × (uses (rule (0xFF ∷ []) (bytes "2") ∷ rule (0xFE ∷ []) (bytes "1") ∷ []) (0 ∷ []) ≡ use_of (bytes "2") ∷ [])
unfolding chars_from walk
not_utf8 = (refl, refl)
