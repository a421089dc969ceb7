-- Only one answer and one buffer satisfy the promise of `dm_ward`: what is told are both. Assumes nothing.
use Prim.Native.Nat.{ℕ}
use mathlib.Core.Path.{◌≡◌, sym, ap, ◌∙◌}
use mathlib.Core.List.{List}
use Rattle.ward.specs.Ward.{Written, ward_answer}
use Rattle.zengilvar.specs.Ward.{wrote}
use Rattle.zengilvar.specs.declared.DmWritten.{DmWritten}

pub dm_ward : (plate names lent : List ℕ) (r r' : DmWritten) (out out' : List ℕ)
    → wrote r out ≡ ward_answer plate names lent → wrote r' out' ≡ ward_answer plate names lent → (r ≡ r') × (out ≡ out')
dm_ward plate names lent r r' out out' e f =
    let same = e ∙ sym f in
    (ap (λ (w : Written). record { number = w.number; length = w.length }) same, ap (λ (w : Written). w.buffer) same)
