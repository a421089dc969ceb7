-- The bounds of a character at a place, and of a folding. Assumes nothing.
use Prim.Native.Nat.{ℕ, ◌+◌}
use native.Mathlib.Omega.{arith}
use Rattle.std.specs.Prelude.{Some}
use Rattle.chars.specs.Answers.{Reaches}
use Rattle.chars.specs.declared.Char.TheVariants.{One}
use Rattle.rule_text.specs.Answers.{From, Reads, Pairs}
use Rattle.rule_text.specs.declared.Symbol.{Symbol}

pub letter_reads : (at n c w : ℕ) → Reaches at n (One c w) → Reads at n (Some (record { code = c; next = at + w }))
letter_reads at n c w r = let a = r.some in record { some = omega arith; within = r.within; small = r.small; is = r.is }

pub folds_pairs : {n next : ℕ} {k t : Symbol} → Reads 0 n (Some k) → Reads (k.next + 1) n (Some t) → From t.next n (Some next)
    → Pairs n (Some (record { key = k.code; target = t.code; next = next }))
folds_pairs x y e =
    let y0 = y.some in
    let e0 = e.0 in record { within = e.1; some = omega arith; key_small = x.small; key_is = x.is; target_small = y.small; target_is = y.is }
