-- From what the library's calls promise to the demands about them: what a call leaves is what the definition says. Assumes nothing.
use Prim.Native.Nat.{ℕ, zero, suc, ◌<◌, ◌≤◌}
use mathlib.Core.Path.{◌≡◌, refl, sym, ap, ap₂, subst, ◌∙◌}
use mathlib.Core.Bool.{Bool, true, false, false≢true}
use mathlib.Core.Option.{Option, none, some}
use mathlib.Core.List.{List, [], ◌∷◌}
use native.Mathlib.Omega.{arith}
use lib.ListN.{length, take, drop, get_or, length-append}
use lib.Seq.{take-append_seam, length-take-le}
use Rattle.plate.specs.Bits.{bit, number_at}
use Rattle.plate.specs.Plate.{Plate}
use Rattle.plate.specs.Written.{plate_bytes}
use Rattle.plate.specs.Read.{read_plate}
use Rattle.plate.proofs.Packed.{Bytes}
use Rattle.builder.specs.Build.{Built, build_answer}
use Rattle.coder.specs.Answer.{Coded, list_answer, encode_answer}
use Rattle.zengilvar.specs.Numbers.{built, coded}
use Rattle.zengilvar.specs.declared.DmBuilt.{DmBuilt}
use Rattle.zengilvar.specs.declared.DmCoded.{DmCoded}
use Rattle.promises.specs.Said.{plate_said, IsPlate}
use Rattle.promises.specs.Demands.{BuildRefuses, BuildGives, ListRefuses, ListGives, EncodeRefuses, EncodeGives, ListsChoices, EncodesFirst, PlatesKeep, TextsKeep, GivenAgain}
use Rattle.promises.proofs.CodedWhen.{plate_read}
use Rattle.promises.proofs.Wider.{said_wider}
use Rattle.promises.proofs.Refusals.{build_refuses, list_refuses, encode_refuses}
use Rattle.promises.proofs.Gives.{build_gives, list_gives, encode_gives}
use Rattle.promises.proofs.Matches.{lists_choices, encodes_first, plates_keep, given_again}

-- What is lent is bytes.
pub bytes_of : (l : List ℕ) → ((k : ℕ) → get_or l k 0 < 256) → Bytes l
bytes_of [] h = tt
bytes_of (b ∷ l) h = (h 0, bytes_of l (λ k. h (suc k)))

pub builds : (text : List ℕ) (flag : Bool) (lent : List ℕ) → Bytes text → (r : DmBuilt) (out : List ℕ) → built r out ≡ build_answer text flag lent
    → BuildRefuses text flag lent (built r out) × BuildGives text flag lent (built r out)
builds text flag lent bytes r out t =
    subst (λ (a : Built). BuildRefuses text flag lent a × BuildGives text flag lent a) (sym t)
    (build_refuses text flag lent, build_gives text flag lent bytes)

module _ (plate name lent : List ℕ) (bytes : Bytes plate) (r : DmCoded) (out : List ℕ) where
  pub lists : coded r out ≡ list_answer plate name lent
      → ListRefuses plate name lent (coded r out) × (ListGives plate name lent (coded r out) × ListsChoices plate name (coded r out))
  lists t =
      subst (λ (a : Coded). ListRefuses plate name lent a × (ListGives plate name lent a × ListsChoices plate name a)) (sym t)
      (list_refuses plate name lent bytes, (list_gives plate name lent bytes, lists_choices plate name lent bytes))

  pub encodes : coded r out ≡ encode_answer plate name lent → EncodeRefuses plate name lent (coded r out) × EncodeGives plate name lent (coded r out)
  encodes t =
      subst (λ (a : Coded). EncodeRefuses plate name lent a × EncodeGives plate name lent a) (sym t)
      (encode_refuses plate name lent bytes, encode_gives plate name lent bytes)

  module _ (other : List ℕ) (r' : DmCoded) (out' : List ℕ) (t : coded r out ≡ list_answer plate name lent) where
    -- What holds of both answers of the definitions holds of both calls.
    of_both : (P : Coded → Coded → Type 0) (b : Coded) → coded r' out' ≡ b → P (list_answer plate name lent) b → P (coded r out) (coded r' out')
    of_both P b u h =
        subst (P (coded r out)) (sym u) (subst (λ (a : Coded). P a b) (sym t) h)

    pub firsts : coded r' out' ≡ encode_answer plate name other → EncodesFirst (coded r out) other (coded r' out')
    firsts u = of_both (λ a b. EncodesFirst a other b) (encode_answer plate name other) u (encodes_first plate name lent bytes other)

    pub again : coded r' out' ≡ list_answer plate name other → GivenAgain lent other (coded r out) (coded r' out')
    again u = of_both (λ a b. GivenAgain lent other a b) (list_answer plate name other) u (given_again plate name lent other bytes)

    pub keeps : (wide : List ℕ) → Bytes wide → coded r' out' ≡ list_answer wide name other → PlatesKeep plate wide (coded r out) (coded r' out')
    keeps wide bytes' u = of_both (λ a b. PlatesKeep plate wide a b) (list_answer wide name other) u (plates_keep plate wide name lent other bytes bytes')

-- ---- 3c from texts: the plates that two builds wrote

take_bytes : (n : ℕ) (l : List ℕ) → Bytes l → Bytes (take n l)
take_bytes zero l b = tt
take_bytes (suc n) [] b = tt
take_bytes (suc n) (x ∷ l) b = (b.0, take_bytes n l b.1)

-- No bytes are no plate.
empty_none : read_plate [] ≡ none
unfolding bit number_at
empty_none = refl

no_plate : (p : Plate) → IsPlate p [] → ⊥
no_plate p w = false≢true (ap is (sym empty_none ∙ plate_read [] p w))
  where
    is : Option Plate → Bool
    is (some q) = true
    is none = false

module _ (text : List ℕ) (flag : Bool) (lent : List ℕ) (bytes : Bytes text) (r : DmBuilt) (out : List ℕ) (t : built r out ≡ build_answer text flag lent) where
  -- The length is within the buffer.
  pub within : r.length ≤ length out
  within = go r.number refl
    where
      b : BuildRefuses text flag lent (built r out) × BuildGives text flag lent (built r out)
      b = builds text flag lent bytes r out t

      go : (n : ℕ) → r.number ≡ n → r.length ≤ length out
      go zero e =
          let g = b.1 e in
          let k = g.long in
          let bytes = plate_bytes (plate_said flag text) in
          let l = ap length g.written ∙ length-append bytes (drop (length bytes) lent) in omega arith
      go (suc n) e = let k = (b.0.2 (λ z. omega arith)).0 in omega arith

  pub part : r.length ≡ length (take r.length out)
  part = sym (length-take-le r.length out within)

  -- Where the bytes written are a plate, it is the one that the text says.
  said_plate : (p : Plate) → IsPlate p (take r.length out) → IsPlate (plate_said flag text) (take r.length out)
  said_plate p w = go r.number refl
    where
      b : BuildRefuses text flag lent (built r out) × BuildGives text flag lent (built r out)
      b = builds text flag lent bytes r out t

      go : (n : ℕ) → r.number ≡ n → IsPlate (plate_said flag text) (take r.length out)
      go zero e =
          let g = b.1 e in
          (g.good, ap₂ take g.long g.written ∙ take-append_seam (plate_bytes (plate_said flag text)) (drop (length (plate_bytes (plate_said flag text))) lent))
      go (suc n) e =
          let k = (b.0.2 (λ z. omega arith)).0 in absurd (no_plate p (w.0, ap (λ (m : ℕ). take m out) (sym k) ∙ w.1))

pub texts : (text wide : List ℕ) (flag : Bool) (lent lent' : List ℕ) → Bytes text → Bytes wide
    → (r r' : DmBuilt) (out out' : List ℕ) → Bytes out → Bytes out' → built r out ≡ build_answer text flag lent → built r' out' ≡ build_answer wide flag lent'
    → (name room room' : List ℕ) (a b : DmCoded) (listed listed' : List ℕ)
    → coded a listed ≡ list_answer (take r.length out) name room → coded b listed' ≡ list_answer (take r'.length out') name room'
    → TextsKeep text wide (coded a listed) (coded b listed')
texts text wide flag lent lent' bytes bytes' r r' out out' written written' t t' name room room' a b listed listed' u u' w n n' =
    let plate = take r.length out in
    let plate' = take r'.length out' in
    let one = take_bytes r.length out written in
    let two = take_bytes r'.length out' written' in
    let g = (lists plate name room one a listed u).1.0 n in
    let g' = (lists plate' name room' two b listed' u').1.0 n' in
    keeps plate name room one a listed room' b listed' u plate' two u' (plate_said flag text) (plate_said flag wide)
    (said_plate text flag lent bytes r out t g.0 g.1) (said_plate wide flag lent' bytes' r' out' t' g'.0 g'.1) (said_wider text wide flag w) n n'
