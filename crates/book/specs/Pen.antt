-- Bits written one behind the other: whole bytes, and the bits of the next one. Assumes nothing.
use Rattle.std.specs.Prelude.{ℕ, ◌+◌, ◌*◌, ◌≤◌, ◌≡◌, List, ◌++◌, length, take, drop}
use Rattle.plate.specs.Bits.{bits_of, unpack, pack}
use Rattle.book.specs.declared.pen.Pen.{Pen}
use Rattle.book.specs.declared.pen.Sheet.{Sheet}

-- the pen stands behind n whole bytes
abbrev pub Stands : Pen → ℕ → Type 0
Stands p n = (p.bytes ≡ n) × (p.begun ≡ 0) × (p.count ≡ 0)

-- nothing is written yet into a buffer
pub record Begins (out : List ℕ) (s : Sheet) : Type 0 where
  pub lent : s.out.now ≡ out
  pub bytes : s.pen.bytes ≡ 0
  pub begun : s.pen.begun ≡ 0
  pub count : s.pen.count ≡ 0

-- the bits that stand in the buffer up to the pen
abbrev pub bits_in : Sheet → List ℕ
bits_in s = unpack (take s.pen.bytes s.out.now) ++ bits_of s.pen.count s.pen.begun

-- Bits more have room.
pub record Ready (s : Sheet) (bits : List ℕ) : Type 0 where
  pub room : 8 * s.pen.bytes + s.pen.count + length bits ≤ 8 * length s.out.now

-- The bits are written behind those that stood there, into the same buffer, and nothing behind the pen's bytes was touched.
pub record Wrote (s : Sheet) (bits : List ℕ) (s' : Sheet) : Type 0 where
  pub is : bits_in s' ≡ bits_in s ++ bits
  pub kept : drop s'.pen.bytes s'.out.now ≡ drop s'.pen.bytes s.out.now
  pub size : length s'.out.now ≡ length s.out.now
  pub moved : 8 * s'.pen.bytes + s'.pen.count ≡ 8 * s.pen.bytes + s.pen.count + length bits
  pub same : s'.out.ghost_name ≡ s.out.ghost_name

-- n bytes stand in front of what was lent
abbrev pub Stored : List ℕ → List ℕ → List ℕ → ℕ → Type 0
Stored out bytes out' n = (out' ≡ bytes ++ drop n out) × (n ≡ length bytes)

-- the bits that stood up to the pen are whole bytes in the same buffer, the pen stands behind them, and nothing behind them was touched
abbrev pub Finished : Sheet → Sheet → ℕ → Type 0
Finished s s' n =
    Stored s.out.now (pack (bits_in s)) s'.out.now n × (s.pen.bytes ≤ n) × (s'.out.ghost_name ≡ s.out.ghost_name) × Stands s'.pen n
