-- Bits in front of a number of 64: what a window over a plate holds. Assumes nothing.
use Rattle.std.specs.Prelude.{◌≡◌, ℕ, ◌+◌, ◌-◌, ◌/◌, ◌^◌, ◌<◌, List, slice_index}
use Rattle.plate.specs.Bits.{number_at}

-- bytes are the n from k on; past the end they are 0
abbrev pub BytesAt : List ℕ → ℕ → ℕ → List ℕ → Type 0
BytesAt s k n bytes = (i : ℕ) → i < n → slice_index bytes i ≡ slice_index s (k + i)

-- the first n of 64 bits are those at a place
abbrev pub Holds : List ℕ → ℕ → ℕ → ℕ → Type 0
Holds s at n w = w / 2 ^ (64 - n) ≡ number_at s at n
