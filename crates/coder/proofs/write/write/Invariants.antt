-- `write::write` meets its contract. The loop keeps: the first k codes stand, joined, and behind them what was lent. A turn is Joined.bar or Joined.no_bar,
-- then Joined.put_on; the end is Joined.all_joined. Assumes nothing.
use Rattle.std.proofs.Common.{◌≡◌, ◌-◌, ◌*◌, ◌++◌, map, length, take, drop}
use Rattle.branches.specs.Branches.{code}
use Rattle.coder.specs.Answer.{joined}
use Rattle.coder.proofs.Joined.{Six}
use Rattle.coder.proofs.write.write.Given as goal

abbrev pub invariant-loop-k : goal.invariant-loop-k
invariant-loop-k l =
    let cs = map code l.bs in
    let o = l.initial.out in
    Six (take l.k cs) × (length l.out ≡ length o) × (l.out ≡ joined (take l.k cs) ++ drop (7 * l.k - 1) o)
