-- `find::put_marks` meets its contract. The loop keeps: the records before this place are written, and for the others there is room (Found.Written). A turn is
-- Found.written_take or Found.written_skip, the end Found.all_written. Assumes nothing.
use Rattle.std.proofs.Common.{ℕ, ◌≡◌, ◌+◌, ◌-◌, ◌<◌, ◌/◌, ◌%◌, [], ◌∷◌, ap, ◌∙◌, arith}
use Rattle.entries.specs.Entries.{most_records}
use Rattle.index.specs.Find.{two_bytes}
use Rattle.index.proofs.Found.{written_skip, written_take}
use Rattle.index.proofs.find.put_marks.Goals.{then-mark, else-mark}
use Rattle.index.proofs.find.put_marks.Goals as goal

-- A record's number has two bytes.
high : (k : ℕ) → k < most_records → k / 256 % 256 ∷ k % 256 ∷ [] ≡ two_bytes k
high k h = ap (λ (b : ℕ). b ∷ k % 256 ∷ []) {x = k / 256 % 256} {y = k / 256} (omega arith)

pub loop-k-preserved : goal.loop-k-preserved
loop-k-preserved c =
    let marks = c.args.marks.now in
    let lent = c.args.out.now in
    let l = c.loop-k in
    elim c.if-mark.branch [
      | then-mark w ↦ rw (w.out-is, w.to-is) (written_take marks lent l.k l.to l.out l.invariant c.loop-k-test.true w.if-mark.true (l.to + 2 - l.to) w.copy_from_slice.new.self (omega arith)
          (w.copy_from_slice.ensures.after ∙ w.to_be_bytes.ensures ∙ high l.k (omega (arith, c.loop-k-test.true, c.requires.0))))
      | else-mark w ↦ rw (w.out-is, w.to-is) (written_skip marks lent l.k l.to l.out l.invariant c.loop-k-test.true w.if-mark.false)
    ]
