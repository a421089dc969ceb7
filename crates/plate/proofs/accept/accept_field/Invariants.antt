-- `plate::accept::accept_field` meets its contract: a single alternative stands behind the count in the same window; of others those left are good and end
-- where all do, each turn takes the first one off, and no more than 27 bits pass. Assumes nothing.
use Rattle.std.proofs.Common.{◌≡◌, ◌+◌, ◌-◌, ◌*◌, ◌≤◌}
use Rattle.plate.specs.Most.{alternative_most}
use Rattle.plate.specs.Answers.{alternatives_step}
use Rattle.plate.proofs.accept.accept_field.Given as goal

abbrev pub invariant-loop : goal.invariant-loop
invariant-loop l =
    (l.place ≤ l.at + 4 + alternative_most * l.counter) × (alternatives_step l.plate (l.n - l.counter) l.place ≡ alternatives_step l.plate l.n (l.at + 4))
