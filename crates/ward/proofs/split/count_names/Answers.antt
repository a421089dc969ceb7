-- `split::count_names` meets its contract: all names are those that were taken and those that are left. There are no more names than bytes
-- (Names.names_few), so one over the most is a `usize`. Assumes nothing.
use Rattle.std.proofs.Common.{◌≡◌, ◌+◌, ◌<◌, length, sym, ap, ◌∙◌, arith}
use Rattle.ward.specs.Ward.{names}
use Rattle.ward.proofs.Names.{empty, not_empty, no_names, first_name, names_few, smaller_left, smaller_right}
use Rattle.ward.proofs.split.count_names.Goals as goal

pub loop-n-init : goal.loop-n-init
loop-n-init c = (omega (arith, ap length c.new-left.ensures), tt, tt)

-- Some are left behind the most.
over : (c : goal.Else-is_empty) → c.args.most < length (names c.args.bytes.now)
over c =
    let rest = c.left.inside.rest.now in
    let some = ap length (sym c.left.view_is ∙ first_name rest (not_empty rest c.if-is_empty.ensures)) in
    omega (arith, c.loop-n.invariant.0, c.loop-n-test.false, some)

pub overflow_add-result : goal.overflow_add-result
overflow_add-result c = omega (arith, over c, names_few c.args.bytes.now)

pub returns-then-is_empty : goal.returns-then-is_empty
returns-then-is_empty c =
    let none = ap length (sym c.left.view_is ∙ ap names (empty c.left.inside.rest.now c.if-is_empty.ensures) ∙ no_names) in
    let all : c.args.most ≡ length (names c.args.bytes.now) = omega (arith, c.loop-n.invariant.0, c.loop-n-test.false, none) in
    all ∙ smaller_right (c.args.most + 1) (length (names c.args.bytes.now)) (omega (arith, all))

pub returns-else-is_empty : goal.returns-else-is_empty
returns-else-is_empty c = smaller_left (c.args.most + 1) (length (names c.args.bytes.now)) (omega (arith, over c))
