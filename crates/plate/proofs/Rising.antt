-- Plain foldings one behind the other: what the loop over them keeps. Keys rise and targets are gathered, so that only the last key and all targets together
-- need be below the surrogates. Assumes nothing.
use Rattle.std.proofs.Common.{◌≡◌, ℕ, ◌+◌, ◌-◌, ◌*◌, ◌/◌, ◌%◌, ◌^◌, ◌<◌, ◌≤◌, true, List, sym, refl, ap, ◌∙◌, arith}
use lib.Bits.{bit_or, or_add_and, and_le_l, and_le_r, or_shr, or_mod}
use Rattle.plate.specs.Bits.{number_at}
use Rattle.plate.specs.Window.{Holds}
use Rattle.plate.specs.Answers.{foldings_good}
use Rattle.plate.proofs.Windows.{front, part_is}
use Rattle.plate.proofs.Shapes.{low_key}
use Rattle.plate.proofs.Fronts.{told}
use Rattle.plate.proofs.Accepted.{folding_fits, foldings_turn}

-- the target in front of a window, or in all of them
abbrev pub target : ℕ → ℕ
target w = w / 2 ^ 22 % 2 ^ 21

-- Of the windows passed, the last key stands in front of ones, and their bits are gathered: if neither is too high, the foldings left are good exactly if all are.
pub record Passed (s : List ℕ) (n at left before all : ℕ) : Type 0 where
  pub ones : before % 8796093022208 ≡ 8796093022207
  pub kept : before / 8796093022208 ≤ 0xD7FF → target all ≤ 0x7FFF → foldings_good s at left (before / 8796093022208) ≡ foldings_good s 32 n 0

-- A target is no higher than all together.
gathered : (a b : ℕ) → target (bit_or a b) ≤ 0x7FFF → (target a ≤ 0x7FFF) × (target b ≤ 0x7FFF)
gathered a b few =
    let x = target a in
    let y = target b in
    let both : target (bit_or a b) ≡ bit_or x y = ap (λ (v : ℕ). v % 2 ^ 21) (or_shr a b 22) ∙ or_mod (a / 2 ^ 22) (b / 2 ^ 22) 21 in
    let sum = or_add_and x y in
    let under = and_le_l x y in
    let under-2 = and_le_r x y in
    (omega (arith, both, sum, under, under-2, few), omega (arith, both, sum, under, under-2, few))

pub passed_turn : (s : List ℕ) (n at left before all w : ℕ) → Passed s n at left before all → 0 < left → Holds s at 57 w → before < w → (target w ≡ 0 → ⊥)
    → Passed s n (at + 42) (left - 1) (w / 8796093022208 * 8796093022208 + 8796093022207) (bit_or all w)
passed_turn s n at left before all w p more held above some = record {
  ones = omega arith;
  kept = λ low few.
      let key = w / 8796093022208 in
      let same : (key * 8796093022208 + 8796093022207) / 8796093022208 ≡ key = omega arith in
      let is_key : key ≡ number_at s at 21 = front s at 57 w held (omega arith) 21 (omega arith) in
      let is-target : target w ≡ number_at s (at + 21) 21 = part_is s at 57 w held (omega arith) 21 21 (omega arith) in
      let ones = p.ones in
      let rising : before / 8796093022208 < key = omega (arith, ones, above) in
      let small : key ≤ 0xD7FF = omega (arith, same, low) in
      let parts = gathered all w few in
      let one = low_key s at (before / 8796093022208) key (target w) is_key is-target rising small some (omega (arith, parts.1)) in
      let good = told (folding_fits s at (before / 8796093022208)) (number_at s at 21) key one refl in
      ap (foldings_good s (at + 42) (left - 1)) same
      ∙ foldings_turn s at (before / 8796093022208) left more true (sym good.0) refl key is_key
      ∙ p.kept (omega (arith, rising, small)) parts.0;
}
