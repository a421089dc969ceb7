-- `find::mark_codes` meets its contract. The loop keeps: the records of the first i codes are marked. A turn is Marks.marks_next. Assumes nothing.
use Rattle.entries.specs.Entries.{entries}
use Rattle.index.proofs.Marks.{marks_no_code, marks_next}
use Rattle.index.proofs.find.mark_codes.Goals as goal

pub loop-i-init : goal.loop-i-init
loop-i-init c = marks_no_code (entries c.args.index.now) c.args.marks.now

pub loop-i-preserved : goal.loop-i-preserved
loop-i-preserved c =
    let a = c.args in
    let l = c.loop-i in
    marks_next (entries a.index.now) a.codes.now.line.now a.marks.now l.marks c.mark_code.new.marks l.i c.code.result c.code.ensures.0 l.invariant c.mark_code.ensures
