-- How far a line end reaches: its three steps, each on the part behind the one before. Assumes nothing.
use mathlib.Core.List.{List}
use Prim.Native.Nat.{ℕ, ◌+◌, ◌<◌, ◌≤◌}
use native.Mathlib.Omega.{arith}
use lib.ListN.{length}
use Rattle.std.specs.Prelude.{Some}
use Rattle.laws.proofs.Parts.{lent, lent_length, by_lt}
use Rattle.rule_text.specs.Answers.{EndsLine, From}

module _ (l : List ℕ) where
  -- Blanks, a comment or the ending takes a byte, where there is one.
  pub line_ends : (n m k : ℕ) → n ≤ length l → m ≤ length (lent n l) → EndsLine (length (lent m (lent n l))) (Some k) → EndsLine (length l) (Some (n + (m + k)))
  line_ends n m k a b c =
      let i = lent_length n l in
      let j = lent_length m (lent n l) in
      let d = c.0 in
      (omega arith, λ h. by_lt 0 (n + m) (λ lt. omega arith) (λ le. let more : 0 < length (lent m (lent n l)) = omega arith in let s = c.1 more in omega arith))

  pub at_from : (at k : ℕ) → at ≤ length l → EndsLine (length (lent at l)) (Some k) → From at (length l) (Some (at + k))
  at_from at k h e =
      let i = lent_length at l in
      let d = e.0 in (omega arith, omega arith)
