-- Only one answer and one buffer satisfy each promise of this crate: what is told says both. Assumes nothing.
use Prim.Native.Nat.{ℕ}
use mathlib.Core.Path.{◌≡◌, refl, sym, ap, ap₂, ◌∙◌}
use mathlib.Core.Bool.{cond}
use mathlib.Core.List.{List, []}
use lib.Dec.{eqb}
use Rattle.std.specs.Prelude.{Result, Ok, Err}
use Rattle.laws.proofs.Only.{only}
use Rattle.plate.specs.Read.{plate_in}
use Rattle.coder.specs.Answer as wanted
use Rattle.coder.specs.Outcome.{told, listed_to}
use Rattle.coder.specs.Refused.{error_number, error_place}
use Rattle.coder.specs.declared.CodeError.{CodeError}
use Rattle.coder.specs.declared.CodeError.TheVariants.{NotAPlate, NameTooLong, NotUtf8, CharacterNotAllowed, RoomTooSmall}

-- the answer of a number, a count and a place
abbrev answer_of : ℕ → ℕ → ℕ → Result ℕ CodeError
answer_of number count place =
    cond (eqb number 0) (Ok count)
    (cond (eqb number 10) (Err NotAPlate)
    (cond (eqb number 1) (Err NameTooLong)
    (cond (eqb number 2) (Err (NotUtf8 place))
    (cond (eqb number 11) (Err (CharacterNotAllowed place)) (Err RoomTooSmall)))))

told_answer : (r : Result ℕ CodeError) (out : List ℕ) → answer_of (told r out).number (told r out).count (told r out).place ≡ r
told_answer (Ok n) out = refl
told_answer (Err NotAPlate) out = refl
told_answer (Err NameTooLong) out = refl
told_answer (Err (NotUtf8 place)) out = refl
told_answer (Err (CharacterNotAllowed place)) out = refl
told_answer (Err RoomTooSmall) out = refl

pub told_buffer : (r : Result ℕ CodeError) (out : List ℕ) → (told r out).buffer ≡ out
told_buffer (Ok n) out = refl
told_buffer (Err e) out = refl

-- A number and a place leave one error.
pub error_once : (e e' : CodeError) → error_number e ≡ error_number e' → error_place e ≡ error_place e' → e ≡ e'
error_once e e' n p =
    same_Err (sym (told_answer (Err e) []) ∙ ap₂ (λ (x y : ℕ). answer_of x 0 y) n p ∙ told_answer (Err e') [])
  where
    error : Result ℕ CodeError → CodeError
    error (Ok n) = NotAPlate
    error (Err x) = x

    same_Err : ◌≡◌ {A = Result ℕ CodeError} (Err e) (Err e') → e ≡ e'
    same_Err f = ap error f

-- What is told leaves one answer and one buffer.
one : (a : wanted.Coded) (r r' : Result ℕ CodeError) (out out' : List ℕ) → told r out ≡ a → told r' out' ≡ a → (r ≡ r') × (out ≡ out')
one a r r' out out' e f = (
  sym (told_answer r out) ∙ ap (λ (x : wanted.Coded). answer_of x.number x.count x.place) (e ∙ sym f) ∙ told_answer r' out',
  sym (told_buffer r out) ∙ ap (λ (x : wanted.Coded). x.buffer) (e ∙ sym f) ∙ told_buffer r' out',
)

module _ (plate name lent : List ℕ) (r r' : Result ℕ CodeError) (out out' : List ℕ) where
  pub list : told r out ≡ wanted.list_answer plate name lent → told r' out' ≡ wanted.list_answer plate name lent → (r ≡ r') × (out ≡ out')
  list e f = one (wanted.list_answer plate name lent) r r' out out' e f

  pub encode : told r out ≡ wanted.encode_answer plate name lent → told r' out' ≡ wanted.encode_answer plate name lent → (r ≡ r') × (out ≡ out')
  encode e f = one (wanted.encode_answer plate name lent) r r' out out' e f

  pub code_accepted : (most : ℕ) → told r out ≡ wanted.coded_by (listed_to most) (plate_in plate) name lent
      → told r' out' ≡ wanted.coded_by (listed_to most) (plate_in plate) name lent → (r ≡ r') × (out ≡ out')
  code_accepted most e f = one (wanted.coded_by (listed_to most) (plate_in plate) name lent) r r' out out' e f

pub number_lem : (e : CodeError) (r r' : ℕ) → r ≡ error_number e → r' ≡ error_number e → r ≡ r'
number_lem e r r' f g = only f g

pub place_lem : (e : CodeError) (r r' : ℕ) → r ≡ error_place e → r' ≡ error_place e → r ≡ r'
place_lem e r r' f g = only f g
