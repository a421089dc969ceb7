-- `name::prepare` meets its contract. The loop keeps Chars.Made: what is wanted of the bytes left is what is wanted of the name. A turn is Chars.space or
-- Chars.kept, the ways out Chars.strange, Chars.bad and Chars.end. Each turn passes a byte at least, and a character takes no more entries than bytes.
-- Assumes nothing.
use Rattle.std.proofs.Common.{ℕ, ◌<◌, length, refl, sym, subst, ◌∙◌, arith, length-set}
use Rattle.laws.proofs.Tests.{told}
use Rattle.chars.specs.Answers.{Reaches}
use Rattle.chars.specs.declared.Char.{Char}
use Rattle.plate.specs.Read.{plate_in}
use Rattle.coder.proofs.Chars.{Stands, plain_stands, one_stands, start, bad, space, strange, kept, end}
use Rattle.coder.proofs.name.prepare.Goals.{in-Some, in_default+in-One+else-is_space+else-not-is_tabled}
use Rattle.coder.proofs.name.prepare.Goals as goal

pub loop-c-init : goal.loop-c-init
loop-c-init c =
    (omega arith, omega arith, refl, start (plate_in c.args.plate.now.bytes.now) c.args.name.now c.if-name-gt-MOST_NAME.false c.args.chars.now)

pub loop-c-preserved-then-is_space : goal.loop-c-preserved-then-is_space
loop-c-preserved-then-is_space c =
    let a = c.args in
    let l = c.loop-c in
    let i = l.invariant in
    let r = subst (λ (x : Char). Reaches l.at (length a.name.now) x) c.in-One.is c.char_at.ensures.1 in (
      omega (arith, i.0),
      r.within,
      i.2,
      space (plate_in a.plate.now.bytes.now) a.name.now l.chars l.count l.at i.3 _ c.char_at.ensures.0 _ _ c.in-One.is r.some (sym c.is_space.ensures ∙ c.if-is_space.true),
    )

pub returns-then-not-is_tabled : goal.returns-then-not-is_tabled
returns-then-not-is_tabled c =
    let a = c.args in
    let l = c.loop-c in
    let r = subst (λ (x : Char). Reaches l.at (length a.name.now) x) c.in-One.is c.char_at.ensures.1 in
    strange (plate_in a.plate.now.bytes.now) a.name.now l.chars l.count l.at l.invariant.3 _ c.char_at.ensures.0 _ _ c.in-One.is r.some
    (sym c.is_space.ensures ∙ c.if-is_space.false) (told c.is_tabled.ensures c.if-not-is_tabled.true) _ c.foreign_fault.ensures

pub returns-in-Bad : goal.returns-in-Bad
returns-in-Bad c =
    let a = c.args in
    let l = c.loop-c in
    bad (plate_in a.plate.now.bytes.now) a.name.now l.chars l.count l.at l.invariant.3 _ c.char_at.ensures.0 c.in-Bad.is

pub returns-in-End : goal.returns-in-End
returns-in-End c =
    let a = c.args in
    let l = c.loop-c in
    let n = c.if-name-gt-MOST_NAME.false in
    let behind = rw c.in-End.is at c.char_at.ensures.1 in
    (end (plate_in a.plate.now.bytes.now) a.name.now l.chars l.count l.at l.invariant.3 behind, omega arith)

pub loop-c-preserved : goal.loop-c-preserved
loop-c-preserved c =
    let a = c.args in
    let l = c.loop-c in
    let i = l.invariant in
    let here = c.match-plain_at.c in
    let s : Stands a.name.now l.at here.0 here.1 = elim c.match-plain_at.branch [
      | in-Some w ↦ subst (λ (p : ℕ × ℕ). Stands a.name.now l.at p.0 p.1) (sym w.c-is) (plain_stands a.name.now l.at w.in-Some.c w.in-Some.ensures)
      | in_default+in-One+else-is_space+else-not-is_tabled w ↦ subst (λ (p : ℕ × ℕ). Stands a.name.now l.at p.0 p.1) (sym w.c-is)
          (one_stands a.name.now l.at w.char_at.result w.in-One.c w.in-One.width w.char_at.ensures.0 w.char_at.ensures.1 w.in-One.is
          (sym w.is_space.ensures ∙ w.if-is_space.false) (sym w.is_tabled.ensures ∙ w.if-not-is_tabled.false))
    ] in
    let n = c.if-name-gt-MOST_NAME.false in
    let room : l.count < length l.chars = omega (arith, i.0, i.2, s.some, s.within, c.requires) in (
      omega (arith, i.0, s.some),
      s.within,
      length-set l.chars l.count c.coded_char.result ∙ i.2,
      kept (plate_in a.plate.now.bytes.now) a.name.now l.chars l.count l.at i.3 _ refl here.0 here.1 s.here s.some s.inked s.allowed room c.coded_char.result
          c.coded_char.ensures,
    )
