-- `builds` meets its contract: dm_build's promise gives demands 1 and 2 (proofs/Calls.antt). Assumes nothing.
use native.Mathlib.Omega.{arith}
use Rattle.promises.proofs.Calls.{bytes_of, builds}
use Rattle.promises.proofs.builds.Goals as goal

pub returns : goal.returns
returns c =
    let a = c.args in
    let bytes = bytes_of a.text.now (λ k. omega (arith, c.shared_slice_known-1.given k)) in
    let p = builds a.text.now a.folding a.plate.now bytes c.dm_build.result _ c.dm_build.ensures in
    record { build_refuses = p.0; build_gives = p.1 }
