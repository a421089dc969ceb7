-- `put_list` meets its contract: what is coded is what list gives into the first 447 bytes (Putting.answered); codes stand (Putting.puts_codes), and for a refusal
-- nothing was changed and its number is put (Putting.puts_refusal). Assumes nothing.
use Rattle.std.proofs.Common.{ℕ, ◌++◌, drop, sym, refl, subst, arith, length-take-le}
use Rattle.ward.specs.Puts.{Puts}
use Rattle.ward.specs.Ward.{list_bytes, refused_line}
use Rattle.ward.proofs.Putting.{answered, some, few, puts_codes, unchanged, puts_refusal, refused, is_refused}
use Rattle.ward.proofs.put_list.Goals as goal

pub slice_bounds-code_accepted-end-2 : goal.slice_bounds-code_accepted-end-2
slice_bounds-code_accepted-end-2 c =
    let room = c.requires in
    sym (length-take-le list_bytes c.args.out.now (omega arith))

pub overflow_mul-result : goal.overflow_mul-result
overflow_mul-result c =
    let a = c.args in
    let p = a.plate.now in
    let n = few p.bytes.now a.name.now a.out.now c.requires _ (answered p.bytes.now a.name.now a.out.now p.is_accepted c.in-Ok.ensures) refl in
    record { fits = omega arith }

pub overflow_sub-result : goal.overflow_sub-result
overflow_sub-result c =
    let a = c.args in
    let p = a.plate.now in
    let n = some p.bytes.now a.name.now a.out.now c.requires _ (answered p.bytes.now a.name.now a.out.now p.is_accepted c.in-Ok.ensures) refl in
    omega arith

pub returns-in-Ok : goal.returns-in-Ok
returns-in-Ok c =
    let a = c.args in
    let p = a.plate.now in
    let is = answered p.bytes.now a.name.now a.out.now p.is_accepted c.in-Ok.ensures in
    let n = few p.bytes.now a.name.now a.out.now c.requires _ is refl in
    (puts_codes p.bytes.now a.name.now a.out.now c.requires _ is refl, omega arith)

pub returns-in-Err : goal.returns-in-Err
returns-in-Err c =
    let a = c.args in
    let p = a.plate.now in
    let e = c.in-Err.error in
    let is = answered p.bytes.now a.name.now a.out.now p.is_accepted c.in-Err.ensures in
    let put = c.put_refusal.ensures in
    let n = put.count in (
      puts_refusal p.bytes.now a.name.now a.out.now c.requires _ is c.put_refusal.result _ _ (is_refused e c.code_accepted.new.out)
          (unchanged p.bytes.now a.name.now a.out.now c.requires _ is (refused e))
          (subst (λ (n : ℕ). Puts (refused_line n) c.put_refusal.result (c.code_accepted.new.out ++ drop list_bytes a.out.now) c.put_refusal.new.out) c.number.ensures put),
      omega arith,
    )
