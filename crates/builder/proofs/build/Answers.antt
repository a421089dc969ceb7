-- `build::build` meets its contract. Each way out is one case of the answer (Replies), and nothing is written before the last of them. Assumes nothing.
use Prim.Native.Nat.{ℕ, ◌+◌, ◌*◌, ◌/◌}
use mathlib.Core.Path.{◌≡◌, refl, subst}
use mathlib.Core.Bool.{Bool}
use mathlib.Core.List.{List}
use native.Mathlib.Omega.{arith}
use lib.ListN.{length}
use Rattle.std.specs.Prelude.{Result, Ok}
use Rattle.rule_text.specs.Items.{items}
use Rattle.book.specs.Book.{Book, blank}
use Rattle.book.specs.Note.{book_of}
use Rattle.book.specs.Writing.{bytes_of}
use Rattle.book.specs.declared.note.Notes.{Notes}
use Rattle.book.proofs.Scripts.{plate_length}
use Rattle.builder.specs.Build.{verdict}
use Rattle.builder.specs.Survey.{view, SurveyIs}
use Rattle.builder.specs.declared.survey.FaultAt.{FaultAt}
use Rattle.builder.proofs.Replies.{too_long, not_text, holds_zero, read, faulty, no_room, plate_built}
use Rattle.builder.proofs.build.Goals as goal

-- What the survey says of a text without a fault, and how long its plate is.
module _ (text : List ℕ) (flag : Bool) (n : Notes) {r : Result (Unit {0}) FaultAt} (e : r ≡ Ok tt) (s : SurveyIs text n (verdict blank (items text)) r) where
  abbrev book : Book
  book = book_of (view text) n.tally n.keys.now n.foldings.now

  fine : SurveyIs text n (verdict blank (items text)) (Ok tt)
  fine = subst (SurveyIs text n (verdict blank (items text))) e s

  size : length (bytes_of flag book) ≡ (32 + 42 * n.tally.foldings + n.tally.bits + 7) / 8
  size = plate_length (view text) n.tally n.keys.now n.foldings.now flag fine.0 fine.1

pub returns-then-text-gt-LONGEST_TEXT : goal.returns-then-text-gt-LONGEST_TEXT
returns-then-text-gt-LONGEST_TEXT c = let a = c.args in too_long a.text.now a.flag a.out.now c.if-text-gt-LONGEST_TEXT.true

pub returns-in_default : goal.returns-in_default
returns-in_default c =
    let a = c.args in
    let m = c.in_default in
    holds_zero a.text.now a.flag a.out.now c.if-text-gt-LONGEST_TEXT.false _ m.ensures refl m.field-0-test

pub returns-in_default-2 : goal.returns-in_default-2
returns-in_default-2 c =
    let a = c.args in
    not_text a.text.now a.flag a.out.now c.if-text-gt-LONGEST_TEXT.false c.in_default.field-0 c.check_text.ensures c.in_default.is

pub returns-in-Err : goal.returns-in-Err
returns-in-Err c =
    let a = c.args in
    let m = c.in-Ok-false in
    let decided = read a.text.now a.flag a.out.now c.if-text-gt-LONGEST_TEXT.false _ m.ensures refl m.field-0-test in
    let f = c.in-Err.field-0 in
    faulty a.text.now a.flag a.out.now decided _ f.at c.line_of.ensures (rw c.in-Err.is at c.survey.ensures)

pub returns-then-out-bits : goal.returns-then-out-bits
returns-then-out-bits c =
    let a = c.args in
    let m = c.in-Ok-false in
    let decided = read a.text.now a.flag a.out.now c.if-text-gt-LONGEST_TEXT.false _ m.ensures refl m.field-0-test in
    let n = c.survey.new.notes in
    let e : c.survey.result ≡ Ok tt = c.in_default-survey.is in
    let long = size a.text.now a.flag n e c.survey.ensures in
    no_room a.text.now a.flag a.out.now decided (book a.text.now a.flag n e c.survey.ensures) (fine a.text.now a.flag n e c.survey.ensures).2 (omega arith)

pub returns : goal.returns
returns c =
    let a = c.args in
    let m = c.in-Ok-false in
    let decided = read a.text.now a.flag a.out.now c.if-text-gt-LONGEST_TEXT.false _ m.ensures refl m.field-0-test in
    let n = c.survey.new.notes in
    let e : c.survey.result ≡ Ok tt = c.in_default-survey.is in
    let long = size a.text.now a.flag n e c.survey.ensures in
    let w = c.write_plate in
    let r = w.ensures.1 in
    plate_built a.text.now a.flag a.out.now decided (book a.text.now a.flag n e c.survey.ensures) (fine a.text.now a.flag n e c.survey.ensures).2 w.result w.new.out (omega arith) w.ensures
