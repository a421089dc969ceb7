-- `find::mark_code` meets its contract. The loop keeps: the records of the entries before this place are marked, and the code's place is not behind it. A turn
-- is Marks.marks_turn, an entry of another code Marks.marks_stop, the end Marks.marks_end. Assumes nothing.
use Rattle.std.proofs.Common.{◌<◌, length, arith}
use Rattle.entries.specs.Entries.{entries}
use Rattle.entries.proofs.Bytes.{length_entries}
use Rattle.index.proofs.Marks.{index_rises, marks_start, marks_turn, marks_stop, marks_end}
use Rattle.index.proofs.find.mark_code.Goals as goal

pub first_not_below-i-requires : goal.first_not_below-i-requires
first_not_below-i-requires c = index_rises c.args.index.now c.requires.0

pub loop-i-init : goal.loop-i-init
loop-i-init c =
    let a = c.args in
    let r = c.first_not_below-i in
    (omega (arith, r.ensures.0), marks_start a.code (entries a.index.now) a.marks.now (index_rises a.index.now c.requires.0) r.result r.ensures.0)

pub returns-then-e-code : goal.returns-then-e-code
returns-then-e-code c =
    let a = c.args in
    let l = c.loop-i in
    let h : l.i < length (entries a.index.now) = omega (arith, length_entries a.index.now, c.loop-i-test.true) in
    marks_stop a.code (entries a.index.now) a.marks.now (index_rises a.index.now c.requires.0) l.i l.marks l.invariant.1 c.entry_at-e.result c.entry_at-e.ensures h l.invariant.0
    c.if-e-code.true

pub loop-i-preserved : goal.loop-i-preserved
loop-i-preserved c =
    let a = c.args in
    let l = c.loop-i in
    let h : l.i < length (entries a.index.now) = omega (arith, length_entries a.index.now, c.loop-i-test.true) in (
      omega (arith, l.invariant.0),
      marks_turn a.code (entries a.index.now) a.marks.now (index_rises a.index.now c.requires.0) l.i l.marks l.invariant.1 c.entry_at-e.result c.entry_at-e.ensures h c.requires.2
          c.if-e-code.false,
    )

pub returns : goal.returns
returns c =
    let a = c.args in
    let l = c.loop-i in
    marks_end a.code (entries a.index.now) a.marks.now (index_rises a.index.now c.requires.0) l.i l.marks l.invariant.1
    (omega (arith, length_entries a.index.now, c.loop-i-test.false))
