-- `walk::letters_begin` meets its contract. The loop keeps: what is left of the pattern begins the characters left exactly if the whole pattern begins them all.
-- Assumes nothing.
use Rattle.std.proofs.Common.{◌≡◌, ◌+◌, ◌-◌, ◌≤◌, length, drop}
use Rattle.laws.specs.Lists.{begins}
use Rattle.plate.specs.Read.{rule_at}
use Rattle.plate.specs.Stands.{Mark, letters_from}
use Rattle.coder.specs.Walk.{letters}
use Rattle.coder.proofs.walk.letters_begin.Given as goal

abbrev pub invariant-loop-k : goal.invariant-loop-k
invariant-loop-k l =
    let s = l.rule.bytes.now in
    let at = l.rule.at in
    (l.count ≤ l.k) × (l.k ≤ l.n) × Mark s at l.k × (l.count + length (letters_from s at l.k) ≡ length (letters (rule_at s at)))
    × (begins (letters_from s at l.k) (drop l.count l.rest) ≡ begins (letters (rule_at s at)) l.rest)

abbrev pub decreases-loop-k : goal.decreases-loop-k
decreases-loop-k l = l.n - l.k
