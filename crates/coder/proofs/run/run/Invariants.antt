-- `run::run` meets its contract. The loop keeps Steps.Left: what comes of the uses left and the branches held is what comes of all uses and the start. The
-- last use is Steps.done, any other Steps.used_over or Steps.used_on. Each use stands behind the one before, so the loop ends. Assumes nothing.
use Rattle.std.proofs.Common.{◌≡◌, ◌-◌, length}
use Rattle.plate.specs.Read.{plate_in}
use Rattle.coder.proofs.Steps.{Left}
use Rattle.coder.proofs.run.run.Given as goal

abbrev pub invariant-loop-u : goal.invariant-loop-u
invariant-loop-u l =
    (l.walk.name.now ≡ l.name) × Left l.most l.room l.walk (plate_in l.plate.bytes.now).rules l.name l.bs

abbrev pub decreases-loop-u : goal.decreases-loop-u
decreases-loop-u l = length l.name - l.walk.at
