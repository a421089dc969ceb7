-- `note::measure_field` meets its contract: `parse_branch` says fault or count, and the bits follow from the count (Measures.field_fine). Assumes nothing.
use native.Mathlib.Omega.{arith}
use Rattle.laws.specs.Lists.{split_at}
use Rattle.book.proofs.Faults.{field_digits}
use Rattle.book.proofs.Measures.{field_within, field_few, field_fine}
use Rattle.book.proofs.note.measure_field.Goals as goal

pub overflow_sub-result : goal.overflow_sub-result
overflow_sub-result c =
    let a = c.args in
    let w = rw c.in_ok-n.was at c.parse_branch.ensures.1 in field_within a.sep a.field.now c.in_ok-n.n w.is

pub overflow_mul-result-2 : goal.overflow_mul-result-2
overflow_mul-result-2 c =
    let a = c.args in
    let w = rw c.in_ok-n.was at c.parse_branch.ensures.1 in
    let few = field_few a.sep a.field.now c.in_ok-n.n w.is w.few (field_digits (split_at a.sep a.field.now) w.fault) in omega arith

pub overflow_add-result-3 : goal.overflow_add-result-3
overflow_add-result-3 c =
    let a = c.args in
    let w = rw c.in_ok-n.was at c.parse_branch.ensures.1 in
    let most = w.few in
    let few = field_few a.sep a.field.now c.in_ok-n.n w.is w.few (field_digits (split_at a.sep a.field.now) w.fault) in omega arith

pub returns : goal.returns
returns c =
    let a = c.args in
    let w = rw c.in_ok-n.was at c.parse_branch.ensures.1 in field_fine a.sep a.field.now c.in_ok-n.n w.is w.fault w.few
