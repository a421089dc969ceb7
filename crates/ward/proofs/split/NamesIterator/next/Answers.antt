-- `split::Names::next` meets its contract: the first name ends at its newline or at the end, and the others stand behind (Names.next_name). Assumes nothing.
use Rattle.std.proofs.Common.{refl, sym, ap, ◌∙◌, length, arith}
use Rattle.laws.proofs.Lists.{rest}
use Rattle.ward.specs.Ward.{names}
use Rattle.ward.proofs.Names.{no_names, next_name, empty, not_empty}
use Rattle.ward.proofs.split.NamesIterator.next.Goals as goal

pub returns-then-is_empty-clause-steps : goal.returns-then-is_empty-clause-steps
returns-then-is_empty-clause-steps c =
    let none = sym c.self.view_is ∙ ap names (empty c.self.inside.rest.now c.if-is_empty.ensures) ∙ no_names in
    (none, none)

pub returns-clause-steps : goal.returns-clause-steps
returns-clause-steps c =
    let l = c.self.inside.rest.now in
    sym c.self.view_is
    ∙ next_name l _ _ c.name_end-end.result c.min.result (not_empty l c.if-is_empty.ensures) (omega (arith, c.name_end-end.ensures.0)) refl c.min.ensures (rest c.min.result l)

pub returns-clause-goes : goal.returns-clause-goes
returns-clause-goes c =
    let e = ap length (returns-clause-steps c) in
    record {
      on = λ _. (tt, tt, omega (arith, e));
      keeps = tt;
      rests = λ _. tt;
    }
