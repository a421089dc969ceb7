-- `name::list_name` meets its contract: what is coded is what list gives into the line, and so it is what list at 447 bytes gives (Codes.is_listed). Assumes
-- nothing.
use Rattle.std.proofs.Common.{sym, ◌∙◌}
use Rattle.coder.proofs.Answers.{by_plate, list_is}
use Rattle.index.proofs.Codes.{is_listed}
use Rattle.index.proofs.name.list_name.Goals as goal

pub returns : goal.returns
returns c =
    let a = c.args in
    let plate = a.plate.now in
    let r = c.code_accepted in
    is_listed plate.bytes.now a.name.now a.line.now plate.is_accepted c.requires r.result r.new.out
    (r.ensures ∙ sym (by_plate 8 plate.bytes.now a.name.now a.line.now plate.is_accepted) ∙ list_is plate.bytes.now a.name.now a.line.now)
    (r.auto.out ∙ c.requires)
