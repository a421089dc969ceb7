-- Two bytes, one behind the other. Assumes nothing.
use mathlib.Core.Path.{◌≡◌}
use mathlib.Core.Bool.{true}
use mathlib.Core.List.{List}
use Prim.Native.Nat.{ℕ, ◌+◌, ◌<◌, ◌≤◌}
use native.Mathlib.Omega.{arith}
use borrow.Author.Tests.{eqb-true}
use lib.Dec.{eqb}
use lib.ListN.{length, get_or}
use Rattle.laws.proofs.Tests.{and_true}
use Rattle.laws.proofs.Parts.{within}
use Rattle.rule_text.specs.Forms.{pair_at}

module _ (l : List ℕ) (k a b : ℕ) where
  -- A pair whose second is no zero lies within.
  pub pair_within : 0 < b → pair_at l k a b ≡ true → k + 2 ≤ length l
  unfolding pair_at
  pair_within h e =
      let t = (and_true (eqb (get_or l k 0) a) (eqb (get_or l (k + 1) 0) b) e).1 in
      let n = within l (k + 1) b h (eqb-true (get_or l (k + 1) 0) b t) in omega arith
