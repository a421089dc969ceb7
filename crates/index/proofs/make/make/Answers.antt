-- `make::make` meets its contract: each way out is the definition's, in its order (Answers); the entries are put into a front that has just their length, and
-- sorted there (Answers.index_left). Assumes nothing.
use Rattle.std.proofs.Common.{ℕ, List, ◌≡◌, ◌≤◌, ◌+◌, ◌*◌, length, take, sym, ap, subst, ◌∙◌, arith}
use Rattle.coder.specs.Answer.{smaller}
use Rattle.ward.specs.Ward.{names}
use Rattle.ward.proofs.Answers.{many, exact}
use Rattle.entries.specs.Entries.{most_records}
use Rattle.index.specs.Index.{entries_from}
use Rattle.index.specs.Held.{PutsAll}
use Rattle.index.proofs.Entries.{all_count, all_few}
use Rattle.index.proofs.Answers.{no_plate, many_names, short_report, short_index, index_left, all_made}
use Rattle.index.proofs.make.make.Goals.{then-most-n-via-then-most-n, then-most-n-via-else-most-n+then-report-n}
use Rattle.index.proofs.make.make.Goals as goal

-- The names are counted, and there are not too many.
counted : (n : ℕ) (ns : List (List ℕ)) → n ≡ smaller (most_records + 1) (length ns) → n ≤ most_records → (n ≡ length ns) × (length ns ≤ most_records)
counted n ns e h = let f = exact most_records n (length ns) e h in (f, omega (arith, f, h))

pub returns-in_default : goal.returns-in_default
returns-in_default c = let a = c.args in no_plate a.plate.now a.bytes.now a.index.now a.report.now (sym c.in_default.ensures.0)

pub returns-then-most-n : goal.returns-then-most-n
returns-then-most-n c =
    let a = c.args in
    let is = sym c.in-Some.ensures.0 in
    let ns = names a.bytes.now in
    let n = c.count_names-n in
    elim c.then-most-n.branch [
      | then-most-n-via-then-most-n w ↦
          many_names a.plate.now a.bytes.now a.index.now a.report.now is (many most_records n.result (length ns) n.ensures w.if-most-n.true)
      | then-most-n-via-else-most-n+then-report-n w ↦
          let e = counted n.result ns n.ensures w.if-most-n.false in
          short_report a.plate.now a.bytes.now a.index.now a.report.now is e.1 (omega (arith, e.0, w.if-report-n.true))
    ]

pub overflow_mul-used : goal.overflow_mul-used
overflow_mul-used c =
    let plate = c.in-Some.plate.bytes.now in
    let ns = names c.args.bytes.now in
    omega (arith, c.count_entries-used.ensures, all_count plate 0 ns, all_few plate ns, (counted c.count_names-n.result ns c.count_names-n.ensures c.if-most-n.false).1)

pub returns-then-index-used : goal.returns-then-index-used
returns-then-index-used c =
    let a = c.args in
    let is = c.in-Some.ensures in
    let ns = names a.bytes.now in
    let e = counted c.count_names-n.result ns c.count_names-n.ensures c.if-most-n.false in
    short_index a.plate.now a.bytes.now a.index.now a.report.now (sym is.0) e.1
    (omega (arith, c.count_entries-used.ensures, ap (λ (p : List ℕ). length (entries_from p 0 ns)) is.1, c.if-index-used.true))

pub returns : goal.returns
returns c =
    let a = c.args in
    let is = c.in-Some.ensures in
    let ns = names a.bytes.now in
    let e = counted c.count_names-n.result ns c.count_names-n.ensures c.if-most-n.false in
    let n = c.count_entries-used.result in
    let used : 4 * n ≡ 4 * length (entries_from a.plate.now 0 ns) =
    ap (λ (k : ℕ). 4 * k) (c.count_entries-used.ensures ∙ ap (λ (p : List ℕ). length (entries_from p 0 ns)) is.1) in
    let new = c.put_names.new in
    let put = subst (λ (p : List ℕ). PutsAll p ns (take (4 * n) a.index.now) new.index a.report.now new.report) is.1 c.put_names.ensures in
    all_made a.plate.now a.bytes.now a.index.now a.report.now (sym is.0) e.1 (4 * n) c.count_names-n.result _ _ used e.0 c.if-index-used.false c.if-report-n.false
    (index_left a.plate.now (sym is.0) ns e.1 a.index.now new.index c.sort.new.bytes (4 * n) used c.if-index-used.false put.entered c.sort.ensures)
    put.reported
