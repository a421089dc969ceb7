-- Rules, names and the codes of their uses, by computation. Each case shuts out a wrong reading of 01. Examples from rule text to codes stand in `promises`.
-- Assumes nothing.
use Prim.Native.String.{String}
use Rattle.std.specs.Prelude.{Bool, not, ◌&&◌, List, [], ◌∷◌, T}
use Rattle.laws.specs.Lists as lists
use Rattle.laws.specs.Lists.{every, same, split_at}
use Rattle.chars.specs.Utf8.{chars_from}
use Rattle.chars.specs.Letters.{vowel}
use Rattle.chars.specs.Quoted.{bytes}
use Rattle.plate.specs.Plate.{Rule}
use Rattle.branches.specs.Branches.{ends_with, extend, met, step, run, codes}
use Rattle.coder.specs.Walk.{walk, uses}
use Rattle.coder.specs.Answer.{joined}

-- rules in the plate's order, a name, and its codes
pub record Case : Type 0 where
  pub rules : List Rule
  pub name : String
  pub listed : String

-- a rule's pattern and three fields, a bar between two alternatives
abbrev rule : String → String → String → String → Rule
rule p s v o = record { pattern = bytes p; start = split_at 124 (bytes s); vowel = split_at 124 (bytes v); other = split_at 124 (bytes o) }

abbrev some : List Rule
some =
    rule "a" "0" "" ""
    ∷ rule "ch" "4|5" "4|5" "4|5"
    ∷ rule "ie" "1" "" ""
    ∷ rule "mz" "6" "6" "6"
    ∷ rule "m" "6" "6" "6"
    ∷ rule "n" "6" "6" "6"
    ∷ rule "z" "1" "2" "3"
    ∷ []

abbrev under : String → String → Case
under name listed = record { rules = some; name = name; listed = listed }

abbrev holds : Case → Bool
holds c = same (joined (codes (uses c.rules (bytes c.name)))) (bytes c.listed)

abbrev cases : List Case
cases =
    -- "start, if no character with a group came before": behind a character without one, and not behind a group without a match
    under "xz" "100000"
    ∷ under "xxch" "400000|500000"
    ∷ under "iz" "300000"
    -- "else before vowel, if a, e, i, o or u follows the pattern; else default"
    ∷ under "iza" "200000"
    -- "between the group characters": one without a group does not come between, one with a group and no match does; the first character of a pattern is it
    ∷ under "mxn" "660000"
    ∷ under "min" "600000"
    ∷ under "mzn" "660000"
    -- "the longest pattern that begins here; of equal patterns the first"
    ∷ record { rules = rule "a" "1" "1" "1" ∷ rule "ab" "2" "2" "2" ∷ []; name = "ab"; listed = "200000" }
    ∷ record { rules = rule "a" "1" "1" "1" ∷ rule "a" "2" "2" "2" ∷ []; name = "a"; listed = "100000" }
    ∷ []

-- another code, a code less, a code more: none may hold
abbrev wrong : List Case
wrong = under "iz" "100000" ∷ under "xxch" "400000" ∷ under "xz" "100000|100000" ∷ []

pub worked : T (every holds cases && not (lists.some holds wrong))
unfolding chars_from vowel split_at ends_with extend met step run walk joined
worked = tt
