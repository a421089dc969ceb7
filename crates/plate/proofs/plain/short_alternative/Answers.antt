-- `plate::plain::short_alternative` meets its contract: each range is a shape (Shapes.no_digit, one_digit, two_digits). Assumes nothing.
use Rattle.std.proofs.Common.{arith}
use Rattle.plate.proofs.Windows.{ranged}
use Rattle.plate.proofs.Shapes.{no_digit, one_digit, two_digits}
use Rattle.plate.proofs.plain.short_alternative.Goals as goal

pub returns-then-w-lt2305843009213693952 : goal.returns-then-w-lt2305843009213693952
returns-then-w-lt2305843009213693952 c = (omega arith, λ s at held. no_digit s at c.args.w held c.if-w-lt2305843009213693952.true)

pub returns-then-w-lt3746994889972252672 : goal.returns-then-w-lt3746994889972252672
returns-then-w-lt3746994889972252672 c = (omega arith, λ s at held. one_digit s at c.args.w held c.if-w-lt2305843009213693952.false c.if-w-lt3746994889972252672.true)

pub returns-then-w-le9 : goal.returns-then-w-le9
returns-then-w-le9 c =
    let r = ranged _ _ _ (rw c.if-contains.true at c.contains.ensures.cases) in
    (omega arith, λ s at held. two_digits s at c.args.w held r.0 r.1 c.if-w-le9.true)
