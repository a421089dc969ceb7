-- `make::put_names` meets its contract. The loop keeps: the names before those that are left have their entries and their numbers in front (Making.Made). A turn
-- is Making.next_made, the end Making.all_made. Assumes nothing.
use Rattle.std.proofs.Common.{◌≡◌, ◌<◌, length, refl, ap, ◌∙◌, arith}
use Rattle.laws.proofs.Parts.{lent_length}
use Rattle.ward.specs.Ward.{names}
use Rattle.index.proofs.Entries.{codes_of_all}
use Rattle.index.proofs.Making.{none_made, room_left, index_long, numbered, report_long, next_made}
use Rattle.index.proofs.make.put_names.Goals as goal

pub loop-k-init : goal.loop-k-init
loop-k-init c =
    let a = c.args in
    let left = c.into_iter-k-iterator.result in
    let from = c.into_iter-k-iterator.ensures.into_iter_gives in
    let whole : left.iter ≡ names a.bytes.now = (λ i. (from i).iter) ∙ c.enumerate-k-items.ensures.source ∙ c.new.ensures in
    let first : left.count ≡ 0 = (λ i. (from i).count) ∙ c.enumerate-k-items.ensures.count in
    (refl, rw first (none_made a.plate.now.bytes.now (names a.bytes.now) a.index.now a.report.now left.iter whole))

pub put_entries-to-requires : goal.put_entries-to-requires
put_entries-to-requires c =
    let a = c.args in
    let plate = a.plate.now.bytes.now in
    let ns = names a.bytes.now in
    let l = c.loop-k in
    let left = l.k-iterator in
    let m = l.invariant.1 in
    let came = c.in-Some.ensures.steps in
    let listed = c.list_name-listed in
    let room = room_left plate ns a.index.now a.report.now left.iter left.count l.to l.index l.report m c.requires.bytes_in_bounds.0 in
    let long = index_long plate ns a.index.now a.report.now left.iter left.count l.to l.index l.report m c.requires.bytes_in_bounds.0 in (
      omega (arith, numbered plate ns a.index.now a.report.now left.iter left.count l.to l.index l.report m, ap length came.0, came.1, c.requires.few),
      omega (arith, room, long, ap (codes_of_all plate) came.0, listed.ensures.counted, c.unwrap_or.ensures, lent_length l.to l.index),
    )

pub bounds-report-k : goal.bounds-report-k
bounds-report-k c =
    let a = c.args in
    let plate = a.plate.now.bytes.now in
    let ns = names a.bytes.now in
    let l = c.loop-k in
    let left = l.k-iterator in
    let m = l.invariant.1 in
    let came = c.in-Some.ensures.steps in
    omega (
      arith,
      numbered plate ns a.index.now a.report.now left.iter left.count l.to l.index l.report m,
      ap length came.0,
      came.1,
      c.requires.bytes_in_bounds.1,
      report_long plate ns a.index.now a.report.now left.iter left.count l.to l.index l.report m c.requires.bytes_in_bounds.1,
    )

pub overflow_cast-k : goal.overflow_cast-k
overflow_cast-k c =
    let a = c.args in
    let l = c.loop-k in
    let left = l.k-iterator in
    let came = c.in-Some.ensures.steps in
    omega (
      arith,
      numbered a.plate.now.bytes.now (names a.bytes.now) a.index.now a.report.now left.iter left.count l.to l.index l.report l.invariant.1,
      ap length came.0,
      came.1,
      c.requires.few,
    )

pub loop-k-preserved : goal.loop-k-preserved
loop-k-preserved c =
    let a = c.args in
    let plate = a.plate.now.bytes.now in
    let ns = names a.bytes.now in
    let l = c.loop-k in
    let left = l.k-iterator in
    let m = l.invariant.1 in
    let came = c.in-Some.ensures.steps in
    let listed = c.list_name-listed in
    let put = c.put_entries-to in
    let within : left.count < length a.report.now =
    omega (arith, numbered plate ns a.index.now a.report.now left.iter left.count l.to l.index l.report m, ap length came.0, c.requires.bytes_in_bounds.1) in (
      listed.ensures.long,
      rw (c.noted.ensures, came.1, came.2)
          (next_made plate ns a.index.now a.report.now left.iter left.count l.to l.index l.report m c.in-Some.name.now c.next.new.self.iter came.0 within listed.new.line listed.result
          listed.ensures put.result put.new.out (rw (c.unwrap_or.ensures, came.1) at put.ensures)),
    )
