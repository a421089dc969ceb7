-- `name::prepare` meets its contract. The loop keeps Chars.Made: what is wanted of the bytes left is what is wanted of the name. A turn is Chars.space or
-- Chars.kept, the ways out Chars.strange, Chars.bad and Chars.end. Each turn passes a byte at least, and a character takes no more entries than bytes.
-- Assumes nothing.
use Rattle.std.proofs.Common.{◌≡◌, ◌≤◌, ◌-◌, length}
use Rattle.plate.specs.Read.{plate_in}
use Rattle.coder.proofs.Chars.{Made}
use Rattle.coder.proofs.name.prepare.Given as goal

abbrev pub invariant-loop-c : goal.invariant-loop-c
invariant-loop-c l =
    (l.count ≤ l.at) × (l.at ≤ length l.name) × (length l.chars ≡ length l.initial.chars) × Made (plate_in l.plate.bytes.now) l.name l.chars l.count l.at

abbrev pub decreases-loop-c : goal.decreases-loop-c
decreases-loop-c l = length l.name - l.at
