-- `branches::Branches::once_each` meets its contract. The loop keeps: the codes left, merged behind those kept, are all of them once. A turn is
-- Codes.code_dropped or Codes.code_kept. Assumes nothing.
use Rattle.std.proofs.Common.{◌+◌, map, take, ap, ◌∙◌, arith}
use Rattle.laws.specs.Lists.{same}
use Rattle.laws.specs.Once.{once}
use Rattle.branches.specs.Branches.{code}
use Rattle.branches.proofs.Codes.{has_code, code_dropped, code_kept}
use Rattle.branches.proofs.Branches.once_each.Goals as goal

pub loop-b-preserved-then-has_code : goal.loop-b-preserved-then-has_code
loop-b-preserved-then-has_code c =
    let l = c.loop-b in
    let b = c.b-item in
    let t = has_code b.result (take l.n l.kept) c.code.result c.code.ensures _ (ap (take l.n) c.as_slice.ensures) c.has_code.result c.has_code.ensures in (
      l.invariant.0,
      omega (arith, l.invariant.1),
      code_dropped c.as_slice-b-items.result.now (take l.n l.kept) l.b-index (once same (map code c.args.self)) l.invariant.2 b.result b.is c.loop-b-test.true
          (t ∙ c.if-has_code.true),
    )

pub loop-b-preserved : goal.loop-b-preserved
loop-b-preserved c =
    let l = c.loop-b in
    let b = c.b-item in
    let t = has_code b.result (take l.n l.kept) c.code.result c.code.ensures _ (ap (take l.n) c.as_slice.ensures) c.has_code.result c.has_code.ensures in (
      omega (arith, c.put.ensures.long),
      omega (arith, l.invariant.1),
      code_kept c.as_slice-b-items.result.now (take l.n l.kept) l.b-index (once same (map code c.args.self)) l.invariant.2 b.result b.is c.loop-b-test.true
          (t ∙ c.if-has_code.false) (take (l.n + 1) c.put.new.self) c.put.ensures.front,
    )
