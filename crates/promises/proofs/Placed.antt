-- The places that encode's and list's definitions give meet the conditions of specs/When.antt, and no two places meet them for one name. Assumes nothing.
use Prim.Native.Nat.{ℕ}
use mathlib.Core.Path.{◌≡◌, refl, sym, subst, ◌∙◌}
use mathlib.Core.Bool.{Bool, true, false, cond}
use mathlib.Core.Option.{Option, none, some}
use mathlib.Core.List.{List, map}
use native.Mathlib.Omega.{arith}
use borrow.Author.Tests.{eqb-true, eqb-false}
use lib.Dec.{eqb, ltb}
use lib.ListN.{length, take}
use Rattle.laws.specs.Lists.{every}
use Rattle.chars.specs.Utf8.{is_text, chars_of, bad_place, fail_place}
use Rattle.chars.specs.Letters.{allowed}
use Rattle.chars.proofs.Faults.{FailsAt, bad_stands, bad_only, fail_stands, fail_only}
use Rattle.plate.specs.Plate.{Rule, Plate}
use Rattle.plate.specs.Read.{read_plate}
use Rattle.plate.proofs.Packed.{Bytes}
use Rattle.branches.specs.Branches.{Use, start, over, codes}
use Rattle.branches.specs.Choice.{first_only}
use Rattle.coder.specs.Name.{most_name, prepared}
use Rattle.coder.specs.Walk.{uses}
use Rattle.coder.specs.Answer.{Coded, no_codes, listing, room, listed, encoded, answered, plated, list_answer, encode_answer}
use Rattle.coder.proofs.Answers.{judged}
use Rattle.promises.specs.When.{BadAt, StrangeAt, Placed, ListNumber, EncodeNumber}
use Rattle.promises.proofs.CodedWhen.{foreign, not_allowed, strange, not_strange, list_checks, encode_checks}

-- ---- one place

-- Characters none of which is strange are allowed.
all_allowed : (cs : List ℕ) → ((every allowed cs ≡ false) → ⊥) → every allowed cs ≡ true
all_allowed cs h = go (every allowed cs) refl
  where
    go : (t : Bool) → every allowed cs ≡ t → every allowed cs ≡ true
    go true e = e
    go false e = absurd (h e)

strange_only : (name : List ℕ) (place : ℕ) → StrangeAt name place → place ≡ fail_place allowed name
strange_only name place s =
    fail_only name place s.text allowed s.c s.width (all_allowed (chars_of (take place name)) (λ e. s.none (strange (take place name) e))) s.stands
    (not_allowed s.c s.foreign)

pub place_only : (name : List ℕ) (n n' place place' : ℕ) → n ≡ n' → Placed name n place → Placed name n' place' → place ≡ place'
place_only name n n' place place' e a c = go (eqb n 2) (eqb n 11) refl refl
  where
    b : Placed name n place'
    b = subst (λ (m : ℕ). Placed name m place') (sym e) c

    go : (two eleven : Bool) → eqb n 2 ≡ two → eqb n 11 ≡ eleven → place ≡ place'
    go true eleven f g =
        let x = a.bad (eqb-true n 2 f) in
        let y = b.bad (eqb-true n 2 f) in bad_only name place x.0 x.1 ∙ sym (bad_only name place' y.0 y.1)
    go false true f g = strange_only name place (a.strange (eqb-true n 11 g)) ∙ sym (strange_only name place' (b.strange (eqb-true n 11 g)))
    go false false f g = a.other (eqb-false n 2 f) (eqb-false n 11 g) ∙ sym (b.other (eqb-false n 2 f) (eqb-false n 11 g))

-- ---- the place given

-- No place with any other number.
placeless : (name : List ℕ) (n : ℕ) → (n ≡ 2 → ⊥) → (n ≡ 11 → ⊥) → Placed name n 0
placeless name n a b = record { bad = λ e. absurd (a e); strange = λ e. absurd (b e); other = λ _ _. refl }

strange_at : (name : List ℕ) → is_text name ≡ true → every allowed (chars_of name) ≡ false → StrangeAt name (fail_place allowed name)
strange_at name text fails =
    record {
      c = f.c;
      width = f.w;
      text = f.text;
      none = λ s. not_strange (take (fail_place allowed name) name) f.pass s;
      stands = f.stands;
      foreign = foreign f.c f.fails;
    }
  where
    f : FailsAt allowed name (fail_place allowed name)
    f = fail_stands allowed name text fails

-- A call's own answer is 0 or 12, and has no place.
abbrev Plain : Coded → Type 0
Plain a = (a.place ≡ 0) × (a.number ≡ 2 → ⊥) × (a.number ≡ 11 → ⊥)

plain : (name : List ℕ) (a : Coded) → Plain a → Placed name a.number a.place
plain name a h = subst (λ (p : ℕ). Placed name a.number p) (sym h.0) (placeless name a.number h.1 h.2)

tested : (t : Bool) (cs : List (List ℕ)) (lent : List ℕ) → Plain (cond t (no_codes 12 lent) (listing cs lent))
tested true cs lent = (refl, (λ e. omega arith), (λ e. omega arith))
tested false cs lent = (refl, (λ e. omega arith), (λ e. omega arith))

module _ (call : List Use → List ℕ → Coded) (own : (us : List Use) (lent : List ℕ) → Plain (call us lent)) (name lent : List ℕ) where
  judged_placed : (rs : List Rule) (cs : List ℕ) (long text fine : Bool) (foreign broken : ℕ)
      → (text ≡ false → BadAt name broken) → (text ≡ true → fine ≡ false → StrangeAt name foreign)
      → (let a = answered call rs (judged long text fine foreign broken cs) lent in Placed name a.number a.place)
  judged_placed rs cs true text fine foreign broken b s = placeless name 1 (λ e. omega arith) (λ e. omega arith)
  judged_placed rs cs false false fine foreign broken b s = record { bad = λ e. b refl; strange = λ e. absurd (omega arith); other = λ e f. absurd (e refl) }
  judged_placed rs cs false true false foreign broken b s = record { bad = λ e. absurd (omega arith); strange = λ e. s refl refl; other = λ e f. absurd (f refl) }
  judged_placed rs cs false true true foreign broken b s = plain name (call (uses rs cs) lent) (own (uses rs cs) lent)

  plated_placed : (o : Option Plate) → (let a = plated call o name lent in Placed name a.number a.place)
  plated_placed none = placeless name 10 (λ e. omega arith) (λ e. omega arith)
  plated_placed (some p) =
      judged_placed p.rules (prepared p name) (ltb most_name (length name)) (is_text name) (every allowed (chars_of name)) (fail_place allowed name) (bad_place name)
      (λ e. bad_stands name e) (λ e f. strange_at name e f)

-- ---- number and place

module _ (plate name lent : List ℕ) (bytes : Bytes plate) where
  pub list_number : (let a = list_answer plate name lent in ListNumber plate name lent a.number a.place)
  unfolding list_answer
  list_number = (
    list_checks plate name lent bytes,
    plated_placed listed (λ us l. tested (over (room l) us start) (codes us) l) name lent (read_plate plate),
  )

  pub encode_number : (let a = encode_answer plate name lent in EncodeNumber plate name lent a.number a.place)
  unfolding encode_answer
  encode_number = (
    encode_checks plate name lent bytes,
    plated_placed encoded (λ us l. tested (ltb (length l) 6) (codes (map first_only us)) l) name lent (read_plate plate),
  )
