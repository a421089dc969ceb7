-- What the functions on shapes answer: the bits that a part in front of a window takes there, if it is of such a shape. Assumes nothing.
use Rattle.std.specs.Prelude.{◌≡◌, ℕ, ◌+◌, ◌-◌, ◌*◌, ◌/◌, ◌%◌, ◌<◌, ◌≤◌, List, Option, Some}
use Rattle.plate.specs.Window.{Holds}
use Rattle.plate.specs.Answers.{bytes_at, good_text}

-- a part stands b bits long wherever the first p bits of a window stand
abbrev pub Takes : (List ℕ → ℕ → Option ℕ) → ℕ → ℕ → ℕ → Type 0
Takes step p w b = (s : List ℕ) (at : ℕ) → Holds s at p w → Some (at + b) ≡ step s at

-- the first k bytes in front of a window pass: bytes that begin with them are good text exactly if those behind them are
abbrev pub Passes : ℕ → ℕ → Type 0
Passes k w = (s : List ℕ) (at n : ℕ) → k ≤ n → Holds s at (8 * k) w → good_text (bytes_at s (n - k) (at + 8 * k)) ≡ good_text (bytes_at s n at)

-- an ASCII byte, and not zero, stands in front of a window
abbrev pub Ascii : ℕ → Type 0
Ascii w = (72057594037927936 ≤ w) × (w < 9223372036854775808)

-- the two bytes of a character from U+0080 to U+07FF stand in front of a window: 0xC2 to 0xDF, and then the bits 10
abbrev pub Double : ℕ → Type 0
Double w = (13979173243358019584 ≤ w) × (w < 16140901064495857664) × (w / 18014398509481984 % 4 ≡ 2)
