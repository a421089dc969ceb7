-- `find::find` meets its contract: each way out is the definition's, in its order (Finding). Assumes nothing.
use Rattle.std.proofs.Common.{ℕ, List, refl, sym, subst}
use Rattle.coder.specs.Refused.{error_number, error_place}
use Rattle.index.specs.Held.{Listed}
use Rattle.index.proofs.Finding.{no_plate, no_index, handed_on, no_name, short_buffer, all_found}
use Rattle.index.proofs.find.find.Goals as goal

pub returns-in_default : goal.returns-in_default
returns-in_default c = let a = c.args in (no_plate a.plate.now a.index.now a.name.now a.out.now (sym c.in_default.ensures.0), refl, tt)

pub returns-then-not-is_index : goal.returns-then-not-is_index
returns-then-not-is_index c =
    let a = c.args in
    (no_index a.plate.now a.index.now a.name.now a.out.now (sym c.in-Some.ensures.0) (sym c.if-not-is_index.ensures), refl, tt)

pub returns-in_err-count : goal.returns-in_err-count
returns-in_err-count c =
    let a = c.args in
    let e = c.in_err-count.field-0.0 in
    let is = c.in-Some.ensures in
    rw (handed_on c.from_residual.result e c.from_residual.ensures.0 c.from_residual.ensures.1)
    (no_name a.plate.now a.index.now a.name.now a.out.now (sym is.0) (sym c.if-not-is_index.ensures) c.list_name.new.line e
    (subst (λ (p : List ℕ). Listed p a.name.now c.list_name.new.line 0 (error_number e) (error_place e)) is.1 c.in_err-count.ensures))

pub returns-then-out-n : goal.returns-then-out-n
returns-then-out-n c =
    let a = c.args in
    let line = c.list_name.new.line in
    let count = c.in_ok-count.count in
    let is = c.in-Some.ensures in (
      short_buffer a.plate.now a.index.now a.name.now a.out.now (sym is.0) (sym c.if-not-is_index.ensures) line count
          (subst (λ (p : List ℕ). Listed p a.name.now line count 0 0) is.1 c.in_ok-count.ensures) c.mark_codes.new.marks c.mark_codes.ensures
          c.count_marks-n.result c.count_marks-n.ensures c.if-out-n.true,
      refl,
      tt,
    )

pub returns : goal.returns
returns c =
    let a = c.args in
    let line = c.list_name.new.line in
    let count = c.in_ok-count.count in
    let is = c.in-Some.ensures in (
      all_found a.plate.now a.index.now a.name.now a.out.now (sym is.0) (sym c.if-not-is_index.ensures) line count
          (subst (λ (p : List ℕ). Listed p a.name.now line count 0 0) is.1 c.in_ok-count.ensures) c.mark_codes.new.marks c.mark_codes.ensures
          c.count_marks-n.result c.count_marks-n.ensures c.if-out-n.false c.put_marks.result c.put_marks.new.out c.put_marks.ensures,
      refl,
      tt,
    )
