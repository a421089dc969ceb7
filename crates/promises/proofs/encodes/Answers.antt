-- `encodes` meets its contract: dm_encode's promise gives demands 1 and 2 (proofs/Calls.antt). Assumes nothing.
use native.Mathlib.Omega.{arith}
use Rattle.promises.proofs.Calls.{bytes_of, encodes}
use Rattle.promises.proofs.encodes.Goals as goal

pub returns : goal.returns
returns c =
    let a = c.args in
    let bytes = bytes_of a.plate.now (λ k. omega (arith, c.shared_slice_known-1.given k)) in
    let p = encodes a.plate.now a.name.now a.out.now bytes c.dm_encode.result _ c.dm_encode.ensures in
    record { encode_refuses = p.0; encode_gives = p.1 }
