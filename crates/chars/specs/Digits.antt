-- ASCII digits, and what an alternative is. 01, "Numbers that come back", 7: "an alternative that is not 0 to 6 ASCII digits". Assumes nothing.
use Rattle.std.specs.Prelude.{ℕ, Bool, ◌&&◌, List, leb, length}
use Rattle.laws.specs.Lists.{between, every}

abbrev pub digit : ℕ → Bool
digit c = between 48 57 c

-- the most digits of an alternative
abbrev pub most_digits : ℕ
most_digits = 6

-- "0 to 6 ASCII digits"
abbrev pub is_alternative : List ℕ → Bool
is_alternative a = leb (length a) most_digits && every digit a
