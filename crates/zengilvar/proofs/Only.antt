-- Only one answer and one buffer satisfy each promise of this crate: what is told are all of them. Assumes nothing.
use Prim.Native.Nat.{ℕ}
use mathlib.Core.Path.{◌≡◌, sym, ap, ◌∙◌}
use mathlib.Core.Bool.{Bool}
use mathlib.Core.List.{List}
use Rattle.builder.specs.Build.{Built, build_answer}
use Rattle.coder.specs.Answer.{Coded, list_answer, encode_answer}
use Rattle.zengilvar.specs.Numbers.{built, coded}
use Rattle.zengilvar.specs.declared.DmBuilt.{DmBuilt}
use Rattle.zengilvar.specs.declared.DmCoded.{DmCoded}

one_built : (a : Built) (r r' : DmBuilt) (out out' : List ℕ) → built r out ≡ a → built r' out' ≡ a → (r ≡ r') × (out ≡ out')
one_built a r r' out out' e f =
    let same = e ∙ sym f in
    (ap (λ (b : Built). record { number = b.number; line = b.line; length = b.length }) same, ap (λ (b : Built). b.buffer) same)

one_coded : (a : Coded) (r r' : DmCoded) (out out' : List ℕ) → coded r out ≡ a → coded r' out' ≡ a → (r ≡ r') × (out ≡ out')
one_coded a r r' out out' e f =
    let same = e ∙ sym f in
    (ap (λ (b : Coded). record { number = b.number; count = b.count; place = b.place }) same, ap (λ (b : Coded). b.buffer) same)

pub dm_build : (text : List ℕ) (folding : Bool) (lent : List ℕ) (r r' : DmBuilt) (out out' : List ℕ)
    → built r out ≡ build_answer text folding lent → built r' out' ≡ build_answer text folding lent → (r ≡ r') × (out ≡ out')
dm_build text folding lent r r' out out' e f = one_built (build_answer text folding lent) r r' out out' e f

module _ (plate name lent : List ℕ) (r r' : DmCoded) (out out' : List ℕ) where
  pub dm_encode : coded r out ≡ encode_answer plate name lent → coded r' out' ≡ encode_answer plate name lent → (r ≡ r') × (out ≡ out')
  dm_encode e f = one_coded (encode_answer plate name lent) r r' out out' e f

  pub dm_list : coded r out ≡ list_answer plate name lent → coded r' out' ≡ list_answer plate name lent → (r ≡ r') × (out ≡ out')
  dm_list e f = one_coded (list_answer plate name lent) r r' out out' e f
