-- What a function that writes to the front of a lent buffer leaves. Assumes nothing.
use Rattle.std.specs.Prelude.{ℕ, ◌≡◌, List, ◌++◌, length, drop}

-- these bytes stand in front, n of them, and behind them what was lent
pub record Puts (bytes : List ℕ) (n : ℕ) (lent buffer : List ℕ) : Type 0 where
  pub count : n ≡ length bytes
  pub is : buffer ≡ bytes ++ drop (length bytes) lent
