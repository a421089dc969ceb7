-- `Sheet::finish` meets its contract. Zeros fill the last byte, packing does not see them, and none is held (Inks.finished). Assumes nothing.
use mathlib.Core.Path.{refl}
use native.Mathlib.Omega.{arith}
use lib.Pow.{pow_pos}
use Rattle.book.proofs.Inks.{fill_ready, finished}
use Rattle.book.proofs.pen.Sheet.finish.Goals as goal

pub put-requires : goal.put-requires
put-requires c = (omega arith, pow_pos _, fill_ready _ refl c.requires)

pub returns : goal.returns
returns c = finished _ refl c.requires c.put.ensures
