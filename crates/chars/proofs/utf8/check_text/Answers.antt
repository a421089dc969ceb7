-- `utf8::check_text` meets its contract: what std calls UTF-8 is what specs call so (Standard.told_text, told_bad). Assumes nothing.
use mathlib.Core.Path.{subst, sym}
use Rattle.std.specs.Str.{IsValidUpTo}
use Rattle.chars.proofs.Standard.{told_text, told_bad}
use Rattle.chars.proofs.utf8.check_text.Goals as goal

pub returns-in-Ok : goal.returns-in-Ok
returns-in-Ok c = told_text c.args.s.now c.contains.result (c.in-Ok.ensures).cases.1 c.contains.ensures.value

pub returns-in-Err : goal.returns-in-Err
returns-in-Err c =
    let h = (c.in-Err.ensures).cases in
    told_bad c.args.s.now c.valid_up_to.result h.0 (subst (IsValidUpTo c.args.s.now) (sym c.valid_up_to.ensures) h.1)
