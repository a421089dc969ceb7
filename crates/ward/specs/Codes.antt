-- What every code of a name is. Assumes nothing.
use Rattle.std.specs.Prelude.{ℕ, ◌≡◌, true, List, length}
use Rattle.laws.specs.Lists.{every}
use Rattle.chars.specs.Digits.{digit}

-- six ASCII digits
abbrev pub SixDigits : List ℕ → Type 0
SixDigits c = (length c ≡ 6) × (every digit c ≡ true)
