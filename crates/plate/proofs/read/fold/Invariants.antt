-- `plate::read::fold` meets its contract: what the foldings left say of the character is what all say. Keys rise, so below the first stands none
-- (Parts.fold_below), and the key in the middle tells which half may have it (Parts.fold_first, Parts.fold_last). Assumes nothing.
use Rattle.std.proofs.Common.{◌≡◌, ◌+◌, ◌*◌, ◌≤◌, true}
use Rattle.plate.specs.Plate.{rising}
use Rattle.plate.specs.Most.{foldings_most}
use Rattle.plate.specs.Read.{many, folding_at, folding_end, fold_by, folding_count, count_width}
use Rattle.plate.proofs.read.fold.Given as goal

abbrev pub invariant-loop-left : goal.invariant-loop-left
invariant-loop-left l =
    (1 ≤ l.left) × (l.at + 42 * l.left ≤ foldings_most) × (rising (many (folding_at l.plate) folding_end l.left l.at) ≡ true)
    × (fold_by (many (folding_at l.plate) folding_end l.left l.at) l.c ≡ fold_by (many (folding_at l.plate) folding_end (folding_count (count_width l.plate) l.plate) 32) l.c)

abbrev pub decreases-loop-left : goal.decreases-loop-left
decreases-loop-left l = l.left
