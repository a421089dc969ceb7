-- `plate::read::field_end` meets its contract: the place behind the alternatives left is the place behind all; no more than 31 bits pass a turn. One alternative is passed by one read.
-- Assumes nothing.
use Rattle.std.proofs.Common.{◌≡◌, ◌+◌, ◌-◌, ◌*◌, ◌/◌, ◌≤◌}
use Rattle.plate.specs.Read.{past, alternative_end, field_end}
use Rattle.plate.proofs.read.field_end.Given as goal

abbrev pub invariant-loop : goal.invariant-loop
invariant-loop l = (l.place ≤ l.at + 4 + 31 * l.counter) × (past (alternative_end l.plate) (l.front / 8 - l.counter) l.place ≡ field_end l.plate l.at)
