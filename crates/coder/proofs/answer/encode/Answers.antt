-- `answer::encode` meets its contract: with one alternative at each use only the start can lack room. Assumes nothing.
use Rattle.std.proofs.Common.{◌∙◌}
use Rattle.coder.proofs.Answers.{encode_is}
use Rattle.coder.proofs.answer.encode.Goals as goal

pub returns : goal.returns
returns c = let a = c.args in c.code_name.ensures ∙ encode_is a.plate.now a.name.now a.out.now
