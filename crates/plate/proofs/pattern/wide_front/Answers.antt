-- `plate::pattern::wide_front` meets its contract: four bytes decide the character in front, with zeros behind the end (Fronts.from_four). Assumes
-- nothing.
use Rattle.std.proofs.Common.{◌≡◌, None, ⊎_elim, sym, ap, ◌∙◌}
use Rattle.plate.specs.Answers.{front_of}
use Rattle.plate.proofs.Fronts.{from_four}
use Rattle.plate.proofs.pattern.wide_front.Goals as goal

pub returns-in-One : goal.returns-in-One
returns-in-One c =
    let a = c.args in
    c.then_some.ensures ∙ sym (ap front_of c.in-One.is)
    ∙ ap front_of (from_four a.plate.now a.n a.at c.requires.1 c.byte_at-first.result c.byte_at-second.result c.byte_at-third.result
    c.byte_at-fourth.result c.char_from.result c.byte_at-first.ensures c.byte_at-second.ensures c.byte_at-third.ensures c.byte_at-fourth.ensures c.char_from.ensures)

pub returns-in-Bad : goal.returns-in-Bad
returns-in-Bad c =
    let a = c.args in
    let none : None ≡ front_of c.char_from.result = ⊎_elim (λ e. sym (ap front_of e)) (λ e. sym (ap front_of e)) c.in-Bad.is in
    none
    ∙ ap front_of (from_four a.plate.now a.n a.at c.requires.1 c.byte_at-first.result c.byte_at-second.result c.byte_at-third.result
    c.byte_at-fourth.result c.char_from.result c.byte_at-first.ensures c.byte_at-second.ensures c.byte_at-third.ensures c.byte_at-fourth.ensures c.char_from.ensures)
