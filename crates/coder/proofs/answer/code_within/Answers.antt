-- `answer::code_within` meets its contract: bytes that are no plate are refused first, and any other answer is the plate's. Assumes nothing.
use Rattle.std.proofs.Common.{ℕ, List, sym, ap, ◌∙◌, arith}
use Rattle.plate.specs.Read.{plate_in}
use Rattle.coder.specs.Answer.{coded_by}
use Rattle.coder.specs.Outcome.{listed_to}
use Rattle.coder.proofs.Answers.{no_plate, by_plate}
use Rattle.coder.proofs.answer.code_within.Goals as goal

pub whole_as_slice-accept : goal.whole_as_slice-accept
whole_as_slice-accept g c = let p = c.requires.1 in omega (arith, p)

pub returns-in_default : goal.returns-in_default
returns-in_default g c = let a = c.args in sym (no_plate a.most a.plate.now a.name.now a.out.now (sym c.in_default.ensures.0))

pub returns : goal.returns
returns g c =
    let a = c.args in
    let is = c.in-Some.ensures in
    c.code_accepted.ensures
    ∙ ap (λ (s : List ℕ). coded_by (listed_to a.most) (plate_in s) a.name.now a.out.now) is.1
    ∙ sym (by_plate a.most a.plate.now a.name.now a.out.now (sym is.0))
