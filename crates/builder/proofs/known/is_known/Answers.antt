-- `known::is_known` meets its contract: a pattern whose hash was not met is none of those noted (Doubles.none_met), and else each key of its hash is asked. Assumes nothing.
use Prim.Native.Nat.{ℕ}
use mathlib.Core.Path.{◌≡◌, sym, ◌∙◌, ap}
use mathlib.Core.Bool.{false}
use lib.ListN.{length, take, get_or}
use Rattle.plate.specs.Plate.{of_pattern}
use Rattle.book.specs.Seen.{may_hold}
use Rattle.book.specs.Note.{place_in}
use Rattle.book.proofs.Doubles.{none_met, other_hash}
use Rattle.book.proofs.Keys.{sure_at}
use Rattle.builder.specs.Survey.{view}
use Rattle.builder.proofs.Patterns.{pass}
use Rattle.builder.proofs.known.is_known.Goals as goal
use Rattle.builder.proofs.known.is_known.Goals.{else-key-hash-via-then-key-hash+else-has_pattern, else-key-hash-via-else-key-hash}

pub returns-then-not-may_hold : goal.returns-then-not-may_hold
returns-then-not-may_hold c =
    let a = c.args in
    sym (none_met (view a.text.now) (length a.text.now) a.pattern.now a.notes.now.seen.now (take a.notes.now.tally.rules a.notes.now.keys.now) c.requires.sure c.requires.met
    (ap (may_hold a.notes.now.seen.now) (sym c.requires.hashed) ∙ sym c.may_hold.ensures ∙ c.if-not-may_hold.true))

pub loop-key-preserved : goal.loop-key-preserved
loop-key-preserved c =
    let a = c.args in
    let p = c.loop-key in
    let keys = take a.notes.now.tally.rules a.notes.now.keys.now in
    let k : ℕ = get_or keys p.key-index 0 in
    let sure = sure_at (view a.text.now) (length a.text.now) keys p.key-index c.loop-key-test.true c.requires.sure in
    let other : of_pattern a.pattern.now (view a.text.now (place_in k)) ≡ false = elim c.else-key-hash.branch [
      | else-key-hash-via-then-key-hash+else-has_pattern w ↦ sym w.has_pattern.ensures ∙ w.if-has_pattern.false
      | else-key-hash-via-else-key-hash w ↦ other_hash (view a.text.now) (length a.text.now) a.pattern.now k sure (λ e. w.if-key-hash.false (e ∙ sym c.requires.hashed))
    ] in
    pass a.text.now keys a.pattern.now p.key-index c.loop-key-test.true other ∙ p.invariant
