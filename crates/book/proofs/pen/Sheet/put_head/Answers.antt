-- `Sheet::put_head` meets its contract: plate tells the head of so many rules (Scripts.told_head), and its five numbers are written one behind the other. Assumes nothing.
use mathlib.Core.Path.{◌≡◌, refl, ◌∙◌, ap}
use mathlib.Core.Bool.{Bool, true, false}
use mir.Val.{bool_byte}
use Rattle.plate.specs.Bits.{bits_of}
use Rattle.plate.specs.Written.{flag_bit}
use Rattle.book.proofs.Inks.{wrote_as}
use Rattle.book.proofs.Scripts.{told_head, wrote_head}
use Rattle.book.proofs.pen.Sheet.put_head.Goals as goal

flag_is : (b : Bool) → bool_byte b ≡ flag_bit b
flag_is true = refl
flag_is false = refl

pub returns : goal.returns
returns c =
    let a = c.args in
    let h = c.head_of-head in
    let told = told_head a.rules a.foldings a.flag h.result h.ensures in
    wrote_as told
    (wrote_head h.result.number h.result.width a.rules a.foldings a.flag (wrote_as (ap (bits_of 8) c.from.ensures) c.put.ensures)
    c.put-2.ensures c.put-3.ensures (wrote_as (ap (bits_of 1) (c.from-2.ensures ∙ flag_is a.flag)) c.put-4.ensures) c.put-5.ensures)
