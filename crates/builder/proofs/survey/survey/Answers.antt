-- `survey::survey` meets its contract. The loop keeps: the verdict on the items from here on, behind what is noted, is the verdict on all. Assumes nothing.
use mathlib.Core.Path.{subst}
use Rattle.std.specs.Prelude.{Ok}
use Rattle.builder.specs.Build.{Verdict}
use Rattle.builder.specs.Survey.{SurveyIs}
use Rattle.builder.proofs.Turns.{survey_end}
use Rattle.builder.proofs.survey.survey.Goals as goal

pub returns : goal.returns
returns c =
    let l = c.loop-at in
    let s = c.sort in
    let o = s.ensures.others in
    subst (λ (v : Verdict). SurveyIs c.args.text.now s.new.self v (Ok tt)) l.invariant.1
    (survey_end c.args.text.now l.at l.notes l.invariant.0 c.loop-at-test.false s.new.self s.ensures.sorted o.0 o.2)
