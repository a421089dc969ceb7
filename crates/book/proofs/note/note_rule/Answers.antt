-- `note::note_rule` meets its contract: a rule without fault has a short pattern, and each hash is small. Assumes nothing.
use Prim.Native.Nat.{ℕ, ◌<◌}
use mathlib.Core.Path.{sym, subst}
use Rattle.book.specs.Seen.{hashes}
use Rattle.book.specs.Note.{rule_from}
use Rattle.book.proofs.Faults.{clean}
use Rattle.book.proofs.Hashes.{hash_small}
use Rattle.book.proofs.note.note_rule.Goals as goal

pub key_of-requires : goal.key_of-requires
key_of-requires c =
    let r = rule_from c.args.parts in
    let fine = rw c.in_ok-bits.was at c.measure_rule.ensures in
    ((clean r c.args.tally.read fine.0).short, c.requires.low, subst (λ (h : ℕ). h < hashes) (sym c.requires.hashed) (hash_small r.pattern))
