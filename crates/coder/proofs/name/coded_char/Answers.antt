-- `name::coded_char` meets its contract: below the first key nothing is folded (Chars.left_as). Assumes nothing.
use Rattle.std.proofs.Common.{sym, ◌∙◌, arith}
use Rattle.coder.proofs.Chars.{left_as}
use Rattle.coder.proofs.name.coded_char.Goals as goal

pub returns-then-low-key : goal.returns-then-low-key
returns-then-low-key c =
    let p = c.args.plate.now in
    c.lower-low.ensures ∙ sym (left_as p.bytes.now p.is_accepted c.args.c (omega (arith, c.if-low-key.true, c.lower-low.ensures, c.requires)))
