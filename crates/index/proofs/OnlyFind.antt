-- Only one answer and one buffer satisfy the promise of `find`: what is told says both, since a refused name's number is no other refusal's. Assumes nothing.
use Prim.Native.Nat.{ℕ}
use mathlib.Core.Path.{◌≡◌, refl, sym, ap, subst, ◌∙◌}
use mathlib.Core.Bool.{true, cond, false≢true}
use mathlib.Core.List.{List}
use lib.Dec.{eqb}
use Rattle.ward.specs.Ward.{Written, unwritten}
use Rattle.laws.proofs.Only.{only}
use Rattle.index.specs.Find as wanted
use Rattle.index.specs.Outcome.{told_found, find_number, name_number, is_named}
use Rattle.std.specs.Prelude.{Result, Ok, Err}
use Rattle.coder.specs.Refused.{error_number}
use Rattle.coder.specs.declared.CodeError.{CodeError}
use Rattle.coder.specs.declared.CodeError.TheVariants as code
use Rattle.coder.proofs.Only.{error_once}
use Rattle.index.specs.Held.{NameIs}
use Rattle.index.specs.declared.FindError.{FindError}
use Rattle.index.specs.declared.FindError.TheVariants.{NotAPlate, BadIndex, Name, ShortBuffer}

-- the answer of a number and a length, with the error of a name
abbrev answer_of : Written → CodeError → Result ℕ FindError
answer_of x e =
    cond (eqb x.number 0) (Ok x.length)
    (cond (eqb x.number 10) (Err NotAPlate) (cond (eqb x.number 18) (Err BadIndex) (cond (eqb x.number 9) (Err ShortBuffer) (Err (Name e)))))

-- the error of a name, if one is told
abbrev error_in : Result ℕ FindError → CodeError
error_in (Ok n) = code.NotAPlate
error_in (Err NotAPlate) = code.NotAPlate
error_in (Err BadIndex) = code.NotAPlate
error_in (Err (Name e)) = e
error_in (Err ShortBuffer) = code.NotAPlate

-- What is told by the number of a name's error tells of a name.
by_name : (y : CodeError) → name_number (error_number y) ≡ true → (e : CodeError) (out : List ℕ) → answer_of (unwritten (error_number y) out) e ≡ Err (Name e)
by_name code.NotAPlate h e out = absurd (false≢true h)
by_name code.NameTooLong h e out = refl
by_name (code.NotUtf8 place) h e out = refl
by_name (code.CharacterNotAllowed place) h e out = refl
by_name code.RoomTooSmall h e out = refl

told_answer : (r : Result ℕ FindError) (out : List ℕ) → is_named r ≡ true → answer_of (told_found r out) (error_in r) ≡ r
told_answer (Ok n) out h = refl
told_answer (Err NotAPlate) out h = refl
told_answer (Err BadIndex) out h = refl
told_answer (Err ShortBuffer) out h = refl
told_answer (Err (Name e)) out h = by_name e h e out

told_buffer : (r : Result ℕ FindError) (out : List ℕ) → (told_found r out).buffer ≡ out
told_buffer (Ok n) out = refl
told_buffer (Err e) out = refl

-- Both are told by one number: so they tell of a name both or neither, and of the same error.
pub find : (plate index name lent : List ℕ) (r r' : Result ℕ FindError) (out out' : List ℕ)
    → (told_found r out ≡ wanted.find_answer plate index name lent) × (is_named r ≡ true) × NameIs plate name r
    → (told_found r' out' ≡ wanted.find_answer plate index name lent) × (is_named r' ≡ true) × NameIs plate name r'
    → (r ≡ r') × (out ≡ out')
find plate index name lent r r' out out' e f = (
  same r' (sym (told_answer r out e.1) ∙ ap (λ (x : Written). answer_of x (error_in r)) (e.0 ∙ sym f.0)) f.1 f.2,
  sym (told_buffer r out) ∙ ap (λ (x : Written). x.buffer) (e.0 ∙ sym f.0) ∙ told_buffer r' out',
)
  where
    same : (r' : Result ℕ FindError) → r ≡ answer_of (told_found r' out') (error_in r) → is_named r' ≡ true → NameIs plate name r' → r ≡ r'
    same (Ok n) g h b = g
    same (Err NotAPlate) g h b = g
    same (Err BadIndex) g h b = g
    same (Err ShortBuffer) g h b = g
    same (Err (Name y)) g h b =
        let named : r ≡ Err (Name (error_in r)) = g ∙ by_name y h (error_in r) out' in
        let a = subst (NameIs plate name) named e.2 in
        named ∙ ap (λ (c : CodeError). Err (Name c)) (error_once (error_in r) y (a.0 ∙ sym b.0) (a.1 ∙ sym b.1))

pub find_number_lem : (e : FindError) (r r' : ℕ) → r ≡ find_number e → r' ≡ find_number e → r ≡ r'
find_number_lem e r r' f g = only f g
