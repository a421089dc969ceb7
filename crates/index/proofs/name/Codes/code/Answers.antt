-- `name::Codes::code` meets its contract: six digits stand at the code's place (Codes.code_here, Numbers.within). Assumes nothing.
use Rattle.std.proofs.Common.{ℕ, ◌+◌, ◌-◌, ◌*◌, take, drop, subst, arith}
use Rattle.ward.specs.Codes.{SixDigits}
use Rattle.index.proofs.Codes.{code_here}
use Rattle.index.proofs.Numbers.{within}
use Rattle.index.proofs.name.Codes.code.Goals as goal

pub overflow_mul-at : goal.overflow_mul-at
overflow_mul-at c =
    let s = c.args.self.now in
    omega (arith, within s.line.now (7 * c.args.i) (code_here SixDigits s.count s.line.now c.args.i c.requires s.digits))

pub number_of-requires : goal.number_of-requires
number_of-requires c =
    let s = c.args.self.now in
    let at = 7 * c.args.i in
    subst (λ (n : ℕ). SixDigits (take n (drop at s.line.now))) {x = 6} {y = at + 6 - at} (omega arith) (code_here SixDigits s.count s.line.now c.args.i c.requires s.digits)

pub slice_bounds-number_of-end : goal.slice_bounds-number_of-end
slice_bounds-number_of-end c =
    let s = c.args.self.now in
    within s.line.now (7 * c.args.i) (code_here SixDigits s.count s.line.now c.args.i c.requires s.digits)
