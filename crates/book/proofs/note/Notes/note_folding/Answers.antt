-- `Notes::note_folding` meets its contract: the foldings stay in order (Noting.put_held), and the tally counts them. Assumes nothing.
use mathlib.Core.Path.{refl, sym, subst}
use native.Mathlib.Omega.{arith}
use lib.ListN.{length, take}
use Rattle.book.specs.Note.{KeysHeld}
use Rattle.book.specs.Sort.{put_pair, PairsHeld}
use Rattle.book.specs.declared.Tally.{Tally}
use Rattle.book.proofs.Noting.{put_held}
use Rattle.book.proofs.note.Notes.note_folding.Goals as goal

pub invariant_of-self-2 : goal.invariant_of-self-2
invariant_of-self-2 c =
    let a = c.args in
    let n = a.self.now in
    let a' = c.note_folding.new.foldings in
    let more = length (put_pair a.key a.target (take n.tally.foldings n.foldings.now)) in
    let q = rw c.in_ok-self.was at c.note_folding.ensures in
    record {
      rules =
          subst (λ (t : Tally). KeysHeld t n.keys.now) (sym q.2)
          (record { few = n.rules.few; few_read = n.rules.few_read; room = n.rules.room; few_bits = n.rules.few_bits });
      slotted = n.slotted;
      pairs =
          subst (λ (t : Tally). PairsHeld t.foldings a') (sym q.2)
          (put_held a.key a.target n.tally.foldings more n.foldings.now a' (omega (arith, c.requires.0)) (omega (arith, c.requires.1)) n.pairs (refl, q.0, q.1));
    }
