-- `Sheet::put_foldings` meets its contract: of each folding the key, and the target behind it (Inks.each_turn). Assumes nothing.
use Prim.Native.Nat.{ℕ, ◌/◌, ◌%◌}
use mathlib.Core.Path.{sym}
use native.Mathlib.Omega.{arith}
use lib.ListN.{get_or}
use Rattle.plate.specs.Bits.{bits_of}
use Rattle.plate.specs.Written.{folding_bits}
use Rattle.book.specs.Sort.{folding_in}
use Rattle.book.proofs.Keys.{small_at}
use Rattle.book.proofs.Inks.{ready_first, ready_then, ready_as, wrote_then, wrote_as, each_ready, each_turn, each_end}
use Rattle.book.proofs.Scripts.{cat_map}
use Rattle.book.proofs.pen.Sheet.put_foldings.Goals as goal

pub put-requires : goal.put-requires
put-requires c =
    let a = c.args in
    let l = c.loop-folding in
    let x : ℕ = get_or a.foldings.now l.folding-index 0 in
    let small = small_at a.foldings.now l.folding-index c.loop-folding-test.true c.requires.0 in
    let room = each_ready (λ x. folding_bits (folding_in x)) a.foldings.now l.folding-index 0 c.loop-folding-test.true l.invariant (ready_as (cat_map folding_bits folding_in a.foldings.now) c.requires.1) in
    (omega arith, omega arith, ready_first (bits_of 21 (x / 2097152)) (bits_of 21 (x % 2097152)) room)

pub put-requires-in-loop-folding : goal.put-requires-in-loop-folding
put-requires-in-loop-folding c =
    let a = c.args in
    let l = c.loop-folding in
    let x : ℕ = get_or a.foldings.now l.folding-index 0 in
    let room = each_ready (λ x. folding_bits (folding_in x)) a.foldings.now l.folding-index 0 c.loop-folding-test.true l.invariant (ready_as (cat_map folding_bits folding_in a.foldings.now) c.requires.1) in
    (omega arith, omega arith, ready_then (bits_of 21 (x / 2097152)) (bits_of 21 (x % 2097152)) room c.put.ensures)

pub loop-folding-preserved : goal.loop-folding-preserved
loop-folding-preserved c =
    let a = c.args in
    let l = c.loop-folding in
    let x : ℕ = get_or a.foldings.now l.folding-index 0 in
    each_turn (λ x. folding_bits (folding_in x)) a.foldings.now l.folding-index 0 c.loop-folding-test.true l.invariant
    (wrote_then (bits_of 21 (x / 2097152)) (bits_of 21 (x % 2097152)) c.put.ensures c.put-in-loop-folding.ensures)

pub returns : goal.returns
returns c =
    let l = c.loop-folding in
    let f = c.args.foldings.now in
    wrote_as (sym (cat_map folding_bits folding_in f)) (each_end (λ x. folding_bits (folding_in x)) f l.folding-index c.loop-folding-test.false l.invariant)
