-- `add::add` meets its contract: each way out is the definition's, in its order (Adding). Assumes nothing.
use Rattle.std.proofs.Common.{ℕ, List, sym, subst, ◌∙◌}
use Rattle.index.specs.Held.{ListedIs}
use Rattle.index.proofs.Adding.{no_plate, many, not_good, no_note, no_room, all_added}
use Rattle.index.proofs.add.add.Goals.{then-count-via-then-count, then-count-via-else-count+then-not-good_index, then-count-via-else-count+else-not-good_index+then-report-count}
use Rattle.index.proofs.add.add.Goals as goal

pub returns-in_default : goal.returns-in_default
returns-in_default c = let a = c.args in no_plate a.plate.now a.name.now a.index.now a.used a.report.now a.count (sym c.in_default.ensures.0)

pub returns-then-count : goal.returns-then-count
returns-then-count c =
    let a = c.args in
    let is = sym c.in-Some.ensures.0 in
    elim c.then-count.branch [
      | then-count-via-then-count w ↦ many a.plate.now a.name.now a.index.now a.used a.report.now a.count is w.if-count.true
      | then-count-via-else-count+then-not-good_index w ↦
          not_good a.plate.now a.name.now a.index.now a.used a.report.now a.count is (sym w.good_index.ensures ∙ w.if-not-good_index.true)
      | then-count-via-else-count+else-not-good_index+then-report-count w ↦
          no_note a.plate.now a.name.now a.index.now a.used a.report.now a.count is (sym w.good_index.ensures ∙ w.if-not-good_index.false) w.if-count.false w.if-report-count.true
    ]

pub returns-then-index-used : goal.returns-then-index-used
returns-then-index-used c =
    let a = c.args in
    let listed = c.list_name-listed in
    no_room a.plate.now a.name.now a.index.now a.used a.report.now a.count (sym c.in-Some.ensures.0) (sym c.good_index.ensures ∙ c.if-not-good_index.false) c.if-count.false
    listed.new.line listed.result (subst (λ (p : List ℕ). ListedIs p a.name.now listed.new.line listed.result) c.in-Some.ensures.1 listed.ensures)
    (rw c.unwrap_or.ensures at c.if-index-used.true)

pub returns : goal.returns
returns c =
    let a = c.args in
    let listed = c.list_name-listed in
    rw (c.noted.ensures, c.unwrap_or.ensures)
    (all_added a.plate.now a.name.now a.index.now a.used a.report.now a.count (sym c.in-Some.ensures.0) (sym c.good_index.ensures ∙ c.if-not-good_index.false) c.if-count.false
    listed.new.line listed.result (subst (λ (p : List ℕ). ListedIs p a.name.now listed.new.line listed.result) c.in-Some.ensures.1 listed.ensures) c.if-report-count.false
    (rw c.unwrap_or.ensures at c.if-index-used.false) c.add_entries.new.index (rw c.unwrap_or.ensures at c.add_entries.ensures))
