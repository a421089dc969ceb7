-- `name::foreign_fault` meets its contract: the place of a bad sequence lies within the name (Chars.within). Assumes nothing.
use Rattle.std.proofs.Common.{rules}
use Rattle.coder.proofs.Chars.{within}
use Rattle.coder.proofs.name.foreign_fault.Goals as goal

pub overflow_add-result : goal.overflow_add-result
overflow_add-result c =
    let b = within c.args.at c.args.name.now _ c.check_text.ensures c.requires _ c.in-Err.is in
    search rules
