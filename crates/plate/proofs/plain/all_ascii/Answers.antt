-- `plate::plain::all_ascii` meets its contract: what a mask finds zero are ASCII bytes (Masks.low_ascii, Masks.all_low). Assumes nothing.
use Rattle.std.proofs.Common.{◌+◌, ◌%◌, arith, eqb-true}
use Rattle.plate.proofs.Masks.{low_ascii, all_low}
use Rattle.plate.proofs.plain.all_ascii.Goals as goal

pub returns : goal.returns
returns c =
    let a = c.args in
    let less = (a.w + 18374403900871474943) % 18446744073709551616 in
    λ e.
    let clear = eqb-true _ 0 e in (
      low_ascii less a.w a.n c.requires.1 clear c.requires.0 (omega arith) (omega arith) (omega arith),
      all_low less a.w a.n c.requires.1 clear c.requires.0 (omega arith) (omega arith) (omega arith),
    )
