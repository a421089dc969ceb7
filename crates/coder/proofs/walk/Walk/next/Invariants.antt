-- `walk::Walk::next` meets its contract. The loop keeps: the uses left are those that were left at the start. A character without a match is Steps.known or
-- Steps.unknown, a rule that is taken Steps.used, the end Steps.from_end. A pattern has a character, so the place moves. Assumes nothing.
use Rattle.std.proofs.Common.{ℕ, ◌≡◌, ◌≤◌, ◌-◌, length}
use Rattle.coder.specs.Held.{left}
use Rattle.coder.proofs.walk.Walk.next.Given as goal

abbrev pub invariant-loop-self : goal.invariant-loop-self
invariant-loop-self l =
    (l.self.plate ≡ l.fn.self.plate) × (l.self.name ≡ l.fn.self.name) × (l.fn.self.at ≤ l.self.at) × ((most : ℕ) → left most l.self ≡ left most l.fn.self)

abbrev pub decreases-loop-self : goal.decreases-loop-self
decreases-loop-self l = length l.self.name.now - l.self.at
