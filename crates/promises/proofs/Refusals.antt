-- Demand 1, proved of the definitions: the number is the table's, exactly when it says; a refused call gives nothing and changes nothing. Assumes nothing.
use Prim.Native.Nat.{ℕ, ◌<◌}
use mathlib.Core.Path.{refl}
use mathlib.Core.Bool.{Bool, ◌&&◌}
use mathlib.Core.Option.{Option, none, some}
use mathlib.Core.List.{List, map}
use lib.Dec.{ltb}
use lib.ListN.{length}
use Rattle.laws.specs.Lists.{every}
use Rattle.laws.proofs.Tests.{by_test}
use Rattle.chars.specs.Utf8.{is_text}
use Rattle.rule_text.specs.Items.{items}
use Rattle.plate.specs.Plate.{Rule, Plate}
use Rattle.plate.specs.Written.{plate_bytes}
use Rattle.plate.specs.Read.{read_plate}
use Rattle.plate.proofs.Packed.{Bytes}
use Rattle.book.specs.Book.{blank, plate_of}
use Rattle.builder.specs.Build.{Verdict, verdict, Built, answered, nonzero, build_answer}
use Rattle.builder.specs.Build.Verdict.{Faulty, Fine}
use Rattle.branches.specs.Branches.{Use, start, over, codes}
use Rattle.branches.specs.Choice.{first_only}
use Rattle.coder.specs.Name.{Named, named}
use Rattle.coder.specs.Name.Named.{Refused, Chars}
use Rattle.coder.specs.Walk.{uses}
use Rattle.coder.specs.Answer as code
use Rattle.coder.specs.Answer.{Coded, room, listing, listed, encoded, plated, list_answer, encode_answer}
use Rattle.promises.specs.When.{Overfull}
use Rattle.promises.specs.Demands.{Keeps, BuildRefuses, ListRefuses, EncodeRefuses}
use Rattle.promises.proofs.Placed.{list_number, encode_number}
use Rattle.promises.proofs.BuiltWhen.{build_number}
use Rattle.promises.proofs.OnlyWhen.{build_in, coded_in}

-- ---- build

abbrev Kept : List ℕ → Built → Type 0
Kept lent a = Keeps a.number a.length lent a.buffer

verdict_keeps : (text : List ℕ) (flag : Bool) (lent : List ℕ) (v : Verdict) → Kept lent (answered text flag lent v)
verdict_keeps text flag lent (Faulty n place) = λ _. (refl, refl)
verdict_keeps text flag lent (Fine b) =
    by_test (Kept lent) (ltb (length lent) (length (plate_bytes (plate_of flag b)))) _ _ (λ e _. (refl, refl)) (λ e h. absurd (h refl))

build_keeps : (text : List ℕ) (flag : Bool) (lent : List ℕ) → Kept lent (build_answer text flag lent)
unfolding build_answer
build_keeps text flag lent =
    by_test (Kept lent) (ltb 65536 (length text)) _ _ (λ e _. (refl, refl)) λ e.
    by_test (Kept lent) (is_text text && every nonzero text) _ _ (λ f. verdict_keeps text flag lent (verdict blank (items text))) (λ f _. (refl, refl))

pub build_refuses : (text : List ℕ) (flag : Bool) (lent : List ℕ) → BuildRefuses text flag lent (build_answer text flag lent)
build_refuses text flag lent =
    let a = build_answer text flag lent in
    let n = build_number text flag lent in
    (n, build_in text flag lent a.number a.line n, build_keeps text flag lent)

-- ---- encode and list

abbrev Untouched : List ℕ → Coded → Type 0
Untouched lent a = Keeps a.number a.count lent a.buffer

-- A name that is refused, or a call that keeps.
named_keeps : (call : List Use → List ℕ → Coded) → ((us : List Use) (lent : List ℕ) → Untouched lent (call us lent)) → (rs : List Rule) (n : Named) (lent : List ℕ)
    → Untouched lent (code.answered call rs n lent)
named_keeps call h rs (Refused number place) lent = λ _. (refl, refl)
named_keeps call h rs (Chars cs) lent = h (uses rs cs) lent

plated_keeps : (call : List Use → List ℕ → Coded) → ((us : List Use) (lent : List ℕ) → Untouched lent (call us lent)) → (o : Option Plate) (name lent : List ℕ)
    → Untouched lent (plated call o name lent)
plated_keeps call h none name lent = λ _. (refl, refl)
plated_keeps call h (some p) name lent = named_keeps call h p.rules (named p name) lent

listing_keeps : (cs : List (List ℕ)) (lent : List ℕ) → Untouched lent (listing cs lent)
listing_keeps cs lent = λ h. absurd (h refl)

module _ (plate name lent : List ℕ) (bytes : Bytes plate) where
  pub list_refuses : ListRefuses plate name lent (list_answer plate name lent)
  unfolding list_answer
  list_refuses =
      let n = list_number plate name lent bytes in (
        n,
        coded_in name (Overfull plate name lent) (list_answer plate name lent).number n.0,
        plated_keeps listed (λ us l. by_test (Untouched l) (over (room l) us start) _ _ (λ e _. (refl, refl)) (λ e. listing_keeps (codes us) l)) (read_plate plate) name lent,
      )

  pub encode_refuses : EncodeRefuses plate name lent (encode_answer plate name lent)
  unfolding encode_answer
  encode_refuses =
      let n = encode_number plate name lent bytes in (
        n,
        coded_in name (length lent < 6) (encode_answer plate name lent).number n.0,
        plated_keeps encoded (λ us l. by_test (Untouched l) (ltb (length l) 6) _ _ (λ e _. (refl, refl)) (λ e. listing_keeps (codes (map first_only us)) l)) (read_plate plate) name lent,
      )
