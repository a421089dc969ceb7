-- `answer::code_chars` meets its contract: the branches tell whether there is room, and if there is, what is written. Assumes nothing.
use Rattle.std.proofs.Common.{map, length, sym, ap, ◌∙◌, arith}
use Rattle.std.proofs.lemmas.List.{length-map}
use Rattle.plate.specs.Read.{plate_in}
use Rattle.branches.specs.Branches.{code}
use Rattle.coder.specs.Walk.{uses}
use Rattle.coder.specs.Held.{cut_all}
use Rattle.coder.proofs.Answers.{too_many, within, all_listed, told_room}
use Rattle.coder.proofs.answer.code_chars.Goals as goal

pub returns-in_err-run : goal.returns-in_err-run
returns-in_err-run c =
    let a = c.args in
    let us = cut_all a.most (uses (plate_in a.plate.now.bytes.now).rules a.chars.now) in
    told_room c.from_residual.result a.out.now c.from_residual.ensures.1
    ∙ too_many us a.out.now c.room_of.result c.room_of.ensures.0 c.in_err-run.ensures

pub write-requires : goal.write-requires
write-requires c =
    let a = c.args in
    let us = cut_all a.most (uses (plate_in a.plate.now.bytes.now).rules a.chars.now) in
    let k = within us a.out.now c.room_of.result c.room_of.ensures.0 c.in_ok-run.field-0 c.in_ok-run.ensures in
    omega (arith, k, c.room_of.ensures.2, c.once_each-bs.ensures.1)

pub returns : goal.returns
returns c =
    let a = c.args in
    let us = cut_all a.most (uses (plate_in a.plate.now.bytes.now).rules a.chars.now) in
    let o = c.once_each-bs in
    all_listed us a.out.now c.room_of.result c.room_of.ensures.0 c.in_ok-run.field-0 c.in_ok-run.ensures (map code o.result) o.ensures.0
    (length c.as_slice.result.now) c.write.new.out (length-map o.result code ∙ sym (ap length c.as_slice.ensures)) c.write.ensures
