-- `write::write_plate` meets its contract. The loop keeps: the rules of the keys so far are written (Inks.each_turn). Assumes nothing.
use Prim.Native.Nat.{ℕ}
use mathlib.Core.List.{List}
use lib.ListN.{take}
use Rattle.laws.specs.Lists.{cat}
use Rattle.plate.specs.Written.{rule_bits}
use Rattle.book.specs.Pen.{Wrote}
use Rattle.book.specs.Note.{place_in}
use Rattle.builder.specs.Survey.{view}
use Rattle.builder.proofs.write.write_plate.Given as goal

-- the bits of the rule that a key stands for
abbrev pub bits : List ℕ → ℕ → List ℕ
bits text key = rule_bits (view text (place_in key))

abbrev pub invariant-loop-key : goal.invariant-loop-key
invariant-loop-key l = Wrote l.initial.sheet (cat (bits l.text) (take l.key-index (take l.notes.tally.rules l.notes.keys.now))) l.sheet
