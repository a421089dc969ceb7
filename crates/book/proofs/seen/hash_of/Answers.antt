-- `seen::hash_of` meets its contract. The loop keeps: the hash from here on is the hash of all (Hashes.hash_turn). Assumes nothing.
use Prim.Native.Nat.{ℕ, ◌+◌, ◌*◌, ◌%◌}
use mathlib.Core.Path.{sym, ◌∙◌, ap}
use native.Mathlib.Omega.{arith}
use lib.ListN.{drop}
use Rattle.book.specs.Seen.{hashes, spread, hash_from}
use Rattle.book.proofs.Hashes.{hash_turn, hash_end}
use Rattle.book.proofs.seen.hash_of.Goals as goal

pub loop-b-preserved : goal.loop-b-preserved
loop-b-preserved c =
    let p = c.loop-b in
    let P = c.args.pattern.now in (
      omega arith,
      ap (λ (x : ℕ). hash_from ((p.hash + x) * spread % hashes) (drop (p.b-index + 1) P)) c.from.ensures ∙ hash_turn P p.b-index p.hash c.loop-b-test.true ∙ p.invariant.1,
    )

pub returns : goal.returns
returns c =
    let p = c.loop-b in
    (sym (hash_end c.args.pattern.now p.b-index p.hash c.loop-b-test.false) ∙ p.invariant.1, p.invariant.0)
