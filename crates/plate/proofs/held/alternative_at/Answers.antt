-- `plate::held::alternative_at` meets its contract: the digits stored are the first k, and the fill stands behind them; each turn stores one more
-- (Filled.digits_store). Assumes nothing.
use Rattle.std.proofs.Common.{◌≡◌, ◌<◌, sym, arith}
use Rattle.plate.proofs.Filled.{count_six, digits_store, digits_held}
use Rattle.plate.proofs.held.alternative_at.Goals as goal

pub loop-k-preserved : goal.loop-k-preserved
loop-k-preserved c =
    let a = c.args in
    let l = c.loop-k in
    let n = c.size-n in
    let six = count_six a.plate.now a.at n.result n.ensures.0 c.requires.1 in
    let h : l.k < 6 = omega (arith, c.loop-k-test.true) in
    digits_store a.plate.now a.at n.result n.ensures.0 c.bits-number.result c.bits-number.ensures.0 l.k c.loop-k-test.true h l.bytes l.invariant

pub invariant_of-result : goal.invariant_of-result
invariant_of-result c =
    let a = c.args in
    let l = c.loop-k in
    let n = c.size-n in
    let all : l.k ≡ n.result = omega arith in
    (digits_held a.plate.now a.at n.result n.ensures.0 c.requires.1 l.bytes (rw (sym all) l.invariant)).0

pub returns : goal.returns
returns c =
    let a = c.args in
    let l = c.loop-k in
    let n = c.size-n in
    let all : l.k ≡ n.result = omega arith in
    (digits_held a.plate.now a.at n.result n.ensures.0 c.requires.1 l.bytes (rw (sym all) l.invariant)).1
