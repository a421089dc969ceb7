-- `ward` meets its contract: each way out is the definition's, in its order (Answers). Assumes nothing.
use Rattle.std.proofs.Common.{ℕ, List, sym, subst}
use Rattle.laws.specs.Lists.{cat}
use Rattle.ward.specs.Ward.{names, line}
use Rattle.ward.specs.Puts.{Puts}
use Rattle.ward.proofs.Answers.{no_plate, many_names, too_small, all_written}
use Rattle.ward.proofs.ward.Goals as goal

pub returns-in_default : goal.returns-in_default
returns-in_default c = let a = c.args in no_plate a.plate.now a.bytes.now a.out.now (sym c.in_default.ensures.0)

pub returns-then-n-gt-MOST_NAMES : goal.returns-then-n-gt-MOST_NAMES
returns-then-n-gt-MOST_NAMES c =
    let a = c.args in
    many_names a.plate.now a.bytes.now a.out.now (sym c.in-Some.ensures.0) c.count_names-n.result c.count_names-n.ensures c.if-n-gt-MOST_NAMES.true

pub returns-then-out-n : goal.returns-then-out-n
returns-then-out-n c =
    let a = c.args in
    too_small a.plate.now a.bytes.now a.out.now (sym c.in-Some.ensures.0) c.count_names-n.result c.count_names-n.ensures c.if-n-gt-MOST_NAMES.false c.if-out-n.true

pub returns : goal.returns
returns c =
    let a = c.args in
    let is = c.in-Some.ensures in
    all_written a.plate.now a.bytes.now a.out.now (sym is.0) c.count_names-n.result c.count_names-n.ensures c.if-n-gt-MOST_NAMES.false c.if-out-n.false
    c.put_lines.result c.put_lines.new.out
    (subst (λ (s : List ℕ). Puts (cat (line s) (names a.bytes.now)) c.put_lines.result a.out.now c.put_lines.new.out) is.1 c.put_lines.ensures)
