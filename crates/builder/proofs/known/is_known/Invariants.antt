-- `known::is_known` meets its contract. The loop keeps: one of the keys left has the pattern exactly if one of all has. Assumes nothing.
use mathlib.Core.Path.{◌≡◌}
use lib.ListN.{take, drop}
use Rattle.laws.specs.Lists.{some}
use Rattle.plate.specs.Plate.{of_pattern}
use Rattle.book.specs.Note.{rules_in}
use Rattle.builder.specs.Survey.{view}
use Rattle.builder.proofs.known.is_known.Given as goal

abbrev pub invariant-loop-key : goal.invariant-loop-key
invariant-loop-key l =
    let keys = take l.notes.tally.rules l.notes.keys.now in
    some (of_pattern l.pattern) (rules_in (view l.text) (drop l.key-index keys)) ≡ some (of_pattern l.pattern) (rules_in (view l.text) keys)
