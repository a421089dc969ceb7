-- `answer::list` meets its contract: no field has more than 8 alternatives, so 8 of each are all. Assumes nothing.
use Rattle.std.proofs.Common.{◌∙◌}
use Rattle.coder.proofs.Answers.{list_is}
use Rattle.coder.proofs.answer.list.Goals as goal

pub returns : goal.returns
returns c = let a = c.args in c.code_name.ensures ∙ list_is a.plate.now a.name.now a.out.now
