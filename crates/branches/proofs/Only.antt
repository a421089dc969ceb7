-- Only one answer satisfies each promise of this crate, for each says by an equation what is held. A branch is held in one way only, to the last byte: what
-- lies past the count of its digits, and of its last replacement, is fixed, for they can be read back from what they stand for (DigitsOk and held_again in
-- plate's specs/Field.antt, the invariant and the inverse of Digits). The digits of a branch so held are its padded code. Branches are held in one way only
-- too: those past their count are empty (BranchesOk and branches_again in specs/Held.antt). Assumes nothing.
use Rattle.std.proofs.Common.{◌≡◌, ℕ, Bool, cond, List, take, leb, length, refl, sym, ap, ◌∙◌}
use Rattle.std.proofs.lemmas.Bool.{false≢true}
use Rattle.std.specs.Prelude.{Result, Ok, Err}
use Rattle.std.specs.Result.{is_ok}
use Rattle.laws.proofs.Only.{only}
use Rattle.plate.specs.Field.{DigitsOk, held_again}
use Rattle.plate.specs.Field as field
use Rattle.branches.specs.Branches as defined
use Rattle.branches.specs.Held.{use_of}
use Rattle.branches.specs.declared.TooMany.{TooMany}

-- ---- a branch

-- "At the end zeros fill each code to six digits": they stand there already.
pub padded : (b : defined.Branch) (held : List ℕ) (n : ℕ) → DigitsOk held n → b.digits ≡ take n held → defined.code b ≡ held
padded b held n ok e = ap field.padded e ∙ (held_again held n ok).0

pub same_branch_lem : (b c : defined.Branch) (r r' : Bool) → r ≡ defined.same_branch b c → r' ≡ defined.same_branch b c → r ≡ r'
same_branch_lem b c r r' e f = only e f

pub extend : (anyway : Bool) (a : List ℕ) (b r r' : defined.Branch) → r ≡ defined.extend anyway a b → r' ≡ defined.extend anyway a b → r ≡ r'
extend anyway a b r r' e f = only e f

-- ---- each public function

pub code : (b : defined.Branch) (r r' : List ℕ) → r ≡ defined.code b → r' ≡ defined.code b → r ≡ r'
code b r r' e f = only e f

pub start : (r r' : List defined.Branch) → r ≡ defined.start → r' ≡ defined.start → r ≡ r'
start r r' e f = only e f

pub as_slice : (bs r r' : List defined.Branch) → r ≡ bs → r' ≡ bs → r ≡ r'
as_slice bs r r' e f = only e f

one_of_two : (r r' : Result (Unit {0}) TooMany) → is_ok r ≡ is_ok r' → r ≡ r'
one_of_two (Ok x) (Ok y) e = refl
one_of_two (Err x) (Err y) e = refl
one_of_two (Ok x) (Err y) e = absurd (false≢true (sym e))
one_of_two (Err x) (Ok y) e = absurd (false≢true e)

pub step : (field : List (List ℕ)) (anyway : Bool) (room : ℕ) (bs : List defined.Branch) (r r' : Result (Unit {0}) TooMany) (new new' : List defined.Branch)
    → let made = defined.step (use_of field anyway) bs in
    (is_ok r ≡ leb (length made) room) × (new ≡ cond (is_ok r) made bs) → (is_ok r' ≡ leb (length made) room) × (new' ≡ cond (is_ok r') made bs) → (r ≡ r') × (new ≡ new')
step field anyway room bs r r' new new' e f =
    let same = only e.0 f.0 in
    (one_of_two r r' same, e.1 ∙ ap (λ (t : Bool). cond t (defined.step (use_of field anyway) bs) bs) same ∙ sym f.1)
