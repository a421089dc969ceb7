-- `plate::note::NotedPlate::rules_below` meets its contract by halves (Halves.Halving): the rule in the middle tells of all before it, or of all behind it.
-- Assumes nothing.
use Rattle.std.proofs.Common.{◌-◌}
use Rattle.plate.specs.Read.{plate_in}
use Rattle.plate.proofs.Halves.{Halving}
use Rattle.plate.proofs.note.NotedPlate.rules_below.Given as goal

abbrev pub invariant-loop-low : goal.invariant-loop-low
invariant-loop-low l = Halving (plate_in l.self.bytes.now).rules l.c l.low l.high

abbrev pub decreases-loop-low : goal.decreases-loop-low
decreases-loop-low l = l.high - l.low
