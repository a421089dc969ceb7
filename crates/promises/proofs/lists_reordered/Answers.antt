-- `lists_reordered` meets its contract: the promises of dm_build and dm_list, twice each, give M-113's statement (proofs/Order.antt). Assumes nothing.
use native.Mathlib.Omega.{arith}
use Rattle.promises.proofs.Calls.{bytes_of, within, part}
use Rattle.promises.proofs.Order.{lists_order}
use Rattle.promises.proofs.lists_reordered.Goals as goal

pub slice_bounds-dm_list-end : goal.slice_bounds-dm_list-end
slice_bounds-dm_list-end c =
    let a = c.args in
    let bytes = bytes_of a.text.now (λ k. omega (arith, c.shared_slice_known-1.given k)) in
    within a.text.now a.folding a.plate.now bytes c.dm_build-one.result _ c.dm_build-one.ensures

pub slice_bounds-dm_list-end-2 : goal.slice_bounds-dm_list-end-2
slice_bounds-dm_list-end-2 c =
    let a = c.args in
    let bytes = bytes_of a.text.now (λ k. omega (arith, c.shared_slice_known-1.given k)) in
    part a.text.now a.folding a.plate.now bytes c.dm_build-one.result _ c.dm_build-one.ensures

pub slice_bounds-dm_list-end-3 : goal.slice_bounds-dm_list-end-3
slice_bounds-dm_list-end-3 c =
    let a = c.args in
    let bytes = bytes_of a.other.now (λ k. omega (arith, c.shared_slice_known-2-1.given k)) in
    within a.other.now a.folding a.plate2.now bytes c.dm_build-two.result _ c.dm_build-two.ensures

pub slice_bounds-dm_list-end-4 : goal.slice_bounds-dm_list-end-4
slice_bounds-dm_list-end-4 c =
    let a = c.args in
    let bytes = bytes_of a.other.now (λ k. omega (arith, c.shared_slice_known-2-1.given k)) in
    part a.other.now a.folding a.plate2.now bytes c.dm_build-two.result _ c.dm_build-two.ensures

pub returns : goal.returns
returns c =
    let a = c.args in
    lists_order a.text.now a.other.now a.folding a.plate.now a.plate2.now
    (bytes_of a.text.now (λ k. omega (arith, c.shared_slice_known-1.given k))) (bytes_of a.other.now (λ k. omega (arith, c.shared_slice_known-2-1.given k)))
    c.dm_build-one.result c.dm_build-two.result _ _
    c.dm_build-one.ensures c.dm_build-two.ensures
    a.name.now a.out.now a.more.now _ _ c.dm_list-first.ensures c.dm_list-second.ensures
