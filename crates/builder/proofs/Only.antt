-- Only one answer and one buffer satisfy build's promise: number, line and length give the answer back, and the buffer is said whole. Assumes nothing.
use Prim.Native.Nat.{ℕ}
use mathlib.Core.Path.{◌≡◌, refl, sym, ap, ◌∙◌}
use mathlib.Core.Bool.{Bool, cond}
use mathlib.Core.List.{List}
use lib.Dec.{eqb}
use Rattle.laws.proofs.Only.{only}
use Rattle.book.specs.declared.Flaw.TheVariants.{EmptyPattern, LongPattern, ManyAlternatives, NotDigits, TooMany}
use Rattle.std.specs.Prelude.{Result, Ok, Err}
use Rattle.builder.specs.Build as Build
use Rattle.builder.specs.Build.{build_answer}
use Rattle.builder.specs.Outcome.{told}
use Rattle.builder.specs.Survey.{fault_number}
use Rattle.builder.specs.declared.Fault.{Fault}
use Rattle.builder.specs.declared.Fault.TheVariants.{NotRecognised, Flawed}
use Rattle.builder.specs.declared.BuildError.{BuildError}
use Rattle.builder.specs.declared.BuildError.TheVariants.{LongText, NotText, Faulty, ShortBuffer}

abbrev fault_of : ℕ → Fault
fault_of n =
    cond (eqb n 3) NotRecognised
    (Flawed (cond (eqb n 4) EmptyPattern (cond (eqb n 5) LongPattern (cond (eqb n 6) ManyAlternatives (cond (eqb n 7) NotDigits TooMany)))))

-- the answer that number, line and length give
abbrev back : Build.Built → Result ℕ BuildError
back a =
    cond (eqb a.number 0) (Ok a.length)
    (cond (eqb a.number 1) (Err LongText)
    (cond (eqb a.number 2) (Err NotText) (cond (eqb a.number 9) (Err ShortBuffer) (Err (Faulty (fault_of a.number) a.line)))))

back_told : (r : Result ℕ BuildError) (out : List ℕ) → back (told r out) ≡ r
back_told (Ok n) out = refl
back_told (Err LongText) out = refl
back_told (Err NotText) out = refl
back_told (Err (Faulty NotRecognised line)) out = refl
back_told (Err (Faulty (Flawed EmptyPattern) line)) out = refl
back_told (Err (Faulty (Flawed LongPattern) line)) out = refl
back_told (Err (Faulty (Flawed ManyAlternatives) line)) out = refl
back_told (Err (Faulty (Flawed NotDigits) line)) out = refl
back_told (Err (Faulty (Flawed TooMany) line)) out = refl
back_told (Err ShortBuffer) out = refl

-- The buffer afterwards is told as it is.
pub buffer_told : (r : Result ℕ BuildError) (out : List ℕ) → (told r out).buffer ≡ out
buffer_told (Ok n) out = refl
buffer_told (Err LongText) out = refl
buffer_told (Err NotText) out = refl
buffer_told (Err (Faulty fault line)) out = refl
buffer_told (Err ShortBuffer) out = refl

pub number : (w : Fault) (r r' : ℕ) → r ≡ fault_number w → r' ≡ fault_number w → r ≡ r'
number w r r' e f = only e f

pub build : (text : List ℕ) (flag : Bool) (lent : List ℕ) (r r' : Result ℕ BuildError) (out out' : List ℕ)
    → told r out ≡ build_answer text flag lent → told r' out' ≡ build_answer text flag lent → (r ≡ r') × (out ≡ out')
build text flag lent r r' out out' e f =
    let same = only e f in (
      sym (back_told r out) ∙ ap back same ∙ back_told r' out',
      sym (buffer_told r out) ∙ ap (λ (a : Build.Built). a.buffer) same ∙ buffer_told r' out',
    )
