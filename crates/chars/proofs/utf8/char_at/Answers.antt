-- `utf8::char_at` meets its contract. What is lent is what stands from the place on (Lists.rest), and a character there lies within the bytes (Places.reaches). Assumes nothing.
use mathlib.Core.Path.{◌≡◌, ◌∙◌, ap, sym, subst}
use lib.ListN.{length, drop}
use Rattle.laws.proofs.Lists.{rest}
use Rattle.chars.specs.Utf8.{char_of}
use Rattle.chars.specs.Answers.{Reaches}
use Rattle.chars.proofs.Places.{reaches}
use Rattle.chars.proofs.utf8.char_at.Goals as goal

pub returns-in-Some : goal.returns-in-Some
returns-in-Some c =
    let s = c.args.s.now in
    let at = c.args.at in
    let h = (c.in-Some.ensures).lookup.0 in
    let e : c.first_char.result ≡ char_of (drop at s) = c.first_char.ensures ∙ ap char_of (h.2 ∙ rest at s) in
    (e, subst (Reaches at (length s)) (sym e) (reaches s at h.0))
