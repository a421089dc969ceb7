-- `put_lines` meets its contract. The loop keeps: the names before those that are left have their lines, and for these there is room (Putting.Done). A turn is
-- Putting.next_done, the end Putting.all_done. Assumes nothing.
use Rattle.ward.specs.Ward.{names}
use Rattle.ward.proofs.Putting.{next_done}
use Rattle.ward.proofs.put_lines.Goals as goal

pub loop-name-preserved : goal.loop-name-preserved
loop-name-preserved c =
    let a = c.args in
    let l = c.loop-name in
    let put = c.put_line-to in
    next_done a.plate.now.bytes.now (names a.bytes.now) a.out.now l.name-iterator l.to l.out l.invariant c.in-Some.name.now c.next.new.self c.in-Some.ensures.steps put.result
    put.ensures.1 put.new.out put.ensures.0
