-- Only one answer and only the same buffers satisfy the promises of `make` and `add`: what is told says all three. Assumes nothing.
use Prim.Native.Nat.{ℕ}
use mathlib.Core.Path.{◌≡◌, refl, sym, ap, ◌∙◌}
use mathlib.Core.Bool.{cond}
use mathlib.Core.List.{List}
use lib.Dec.{eqb}
use Rattle.laws.proofs.Only.{only}
use Rattle.index.specs.Index as wanted
use Rattle.index.specs.Outcome.{file_number, told}
use Rattle.index.specs.declared.Filed.{Filed}
use Rattle.std.specs.Prelude.{Result, Ok, Err}
use Rattle.index.specs.declared.FileError.{FileError}
use Rattle.index.specs.declared.FileError.TheVariants.{NotAPlate, Unfit}

-- the answer of a number and two lengths
abbrev answer_of : wanted.Indexed → Result Filed FileError
answer_of x = cond (eqb x.number 0) (Ok (record { index = x.index_length; report = x.report_length })) (cond (eqb x.number 10) (Err NotAPlate) (Err Unfit))

told_answer : (r : Result Filed FileError) (index report : List ℕ) → answer_of (told r index report) ≡ r
told_answer (Ok f) index report = refl
told_answer (Err NotAPlate) index report = refl
told_answer (Err Unfit) index report = refl

told_index : (r : Result Filed FileError) (index report : List ℕ) → (told r index report).index ≡ index
told_index (Ok f) index report = refl
told_index (Err e) index report = refl

told_report : (r : Result Filed FileError) (index report : List ℕ) → (told r index report).report ≡ report
told_report (Ok f) index report = refl
told_report (Err e) index report = refl

-- What is told says the answer and both buffers.
pub filed : (a : wanted.Indexed) (r r' : Result Filed FileError) (index index' report report' : List ℕ) → told r index report ≡ a → told r' index' report' ≡ a
    → (r ≡ r') × (index ≡ index') × (report ≡ report')
filed a r r' index index' report report' e f = (
  sym (told_answer r index report) ∙ ap answer_of (e ∙ sym f) ∙ told_answer r' index' report',
  sym (told_index r index report) ∙ ap (λ (x : wanted.Indexed). x.index) (e ∙ sym f) ∙ told_index r' index' report',
  sym (told_report r index report) ∙ ap (λ (x : wanted.Indexed). x.report) (e ∙ sym f) ∙ told_report r' index' report',
)

pub make : (plate bytes lentIndex lentReport : List ℕ) (r r' : Result Filed FileError) (index index' report report' : List ℕ)
    → told r index report ≡ wanted.make_answer plate bytes lentIndex lentReport → told r' index' report' ≡ wanted.make_answer plate bytes lentIndex lentReport
    → (r ≡ r') × (index ≡ index') × (report ≡ report')
make plate bytes lentIndex lentReport r r' index index' report report' e f = filed (wanted.make_answer plate bytes lentIndex lentReport) r r' index index' report report' e f

pub add : (plate name lentIndex : List ℕ) (used : ℕ) (lentReport : List ℕ) (noted : ℕ) (r r' : Result Filed FileError) (index index' report report' : List ℕ)
    → told r index report ≡ wanted.add_answer plate name lentIndex used lentReport noted → told r' index' report' ≡ wanted.add_answer plate name lentIndex used lentReport noted
    → (r ≡ r') × (index ≡ index') × (report ≡ report')
add plate name lentIndex used lentReport noted r r' index index' report report' e f =
    filed (wanted.add_answer plate name lentIndex used lentReport noted) r r' index index' report report' e f

pub file_number_lem : (e : FileError) (r r' : ℕ) → r ≡ file_number e → r' ≡ file_number e → r ≡ r'
file_number_lem e r r' f g = only f g
