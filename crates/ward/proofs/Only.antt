-- Only one answer and one buffer satisfy the promise of `ward`: what is told says both; and only one number the promises of `names`. Assumes nothing.
use Prim.Native.Nat.{ℕ, ◌+◌, ◌≤◌}
use mathlib.Core.Path.{◌≡◌, refl, sym, ap, ◌∙◌}
use mathlib.Core.Bool.{cond}
use mathlib.Core.List.{List, nil≢cons, head-eq_of_cons-eq, tail-eq_of_cons-eq}
use lib.Dec.{eqb}
use lib.ListN.{length, drop}
use Rattle.std.specs.Prelude.{Result, Ok, Err, Option, Some, None}
use Rattle.std.specs.Iterator.{YieldsFirst}
use Rattle.laws.specs.Lists.{until}
use Rattle.laws.proofs.Only.{only}
use Rattle.coder.specs.Answer.{smaller}
use Rattle.ward.specs.Ward as wanted
use Rattle.ward.specs.Outcome.{error_number, told}
use Rattle.ward.specs.declared.WardError.{WardError}
use Rattle.ward.specs.declared.WardError.TheVariants.{NotAPlate, ManyNames, RoomTooSmall}

-- the answer of a number and a length
abbrev answer_of : ℕ → ℕ → Result ℕ WardError
answer_of number length = cond (eqb number 0) (Ok length) (cond (eqb number 10) (Err NotAPlate) (cond (eqb number 1) (Err ManyNames) (Err RoomTooSmall)))

told_answer : (r : Result ℕ WardError) (out : List ℕ) → answer_of (told r out).number (told r out).length ≡ r
told_answer (Ok n) out = refl
told_answer (Err NotAPlate) out = refl
told_answer (Err ManyNames) out = refl
told_answer (Err RoomTooSmall) out = refl

told_buffer : (r : Result ℕ WardError) (out : List ℕ) → (told r out).buffer ≡ out
told_buffer (Ok n) out = refl
told_buffer (Err e) out = refl

pub ward : (plate bytes lent : List ℕ) (r r' : Result ℕ WardError) (out out' : List ℕ)
    → told r out ≡ wanted.ward_answer plate bytes lent → told r' out' ≡ wanted.ward_answer plate bytes lent → (r ≡ r') × (out ≡ out')
ward plate bytes lent r r' out out' e f = (
  sym (told_answer r out) ∙ ap (λ (x : wanted.Written). answer_of x.number x.length) (e ∙ sym f) ∙ told_answer r' out',
  sym (told_buffer r out) ∙ ap (λ (x : wanted.Written). x.buffer) (e ∙ sym f) ∙ told_buffer r' out',
)

pub name_end : (bytes : List ℕ) (from r r' : ℕ) → (r ≡ from + until wanted.newline (drop from bytes)) × (r ≤ length bytes)
    → (r' ≡ from + until wanted.newline (drop from bytes)) × (r' ≤ length bytes) → r ≡ r'
name_end bytes from r r' e f = only e.0 f.0

pub count_names : (bytes : List ℕ) (most r r' : ℕ) → r ≡ smaller (most + 1) (length (wanted.names bytes)) → r' ≡ smaller (most + 1) (length (wanted.names bytes)) → r ≡ r'
count_names bytes most r r' e f = only e f

pub number_lem : (e : WardError) (r r' : ℕ) → r ≡ error_number e → r' ≡ error_number e → r ≡ r'
number_lem e r r' f g = only f g

pub new : (bytes : List ℕ) (r r' : List (List ℕ)) → r ≡ wanted.names bytes → r' ≡ wanted.names bytes → r ≡ r'
new bytes r r' e f = only e f

-- The bytes of the name, and the names that are left.
pub next : (old : List (List ℕ)) (r r' : Option (List ℕ)) (left left' : List (List ℕ)) → YieldsFirst (λ ns. ns) old r left → YieldsFirst (λ ns. ns) old r' left'
    → (r ≡ r') × (left ≡ left')
next old None None left left' e f = (refl, e.1 ∙ sym f.1)
next old None (Some y) left left' e f = absurd (nil≢cons (sym e.0 ∙ f))
next old (Some x) None left left' e f = absurd (nil≢cons (sym f.0 ∙ e))
next old (Some x) (Some y) left left' e f = let same = sym e ∙ f in (ap Some (head-eq_of_cons-eq same), tail-eq_of_cons-eq same)
