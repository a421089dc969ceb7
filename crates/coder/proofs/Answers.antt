-- What list and encode answer, by the plate, the name and the branches: the tests of the definition in their order, and encode as list over first
-- alternatives. Assumes nothing.
use Prim.Native.Nat.{ℕ, ◌+◌, ◌/◌, ◌≤◌}
use mathlib.Core.Path.{◌≡◌, refl, sym, ap, subst, ◌∙◌}
use mathlib.Core.Bool.{Bool, true, false, cond}
use mathlib.Core.Option.{none, some}
use mathlib.Core.List.{List, map}
use lib.Dec.{ltb}
use lib.ListN.{length}
use Rattle.std.specs.Prelude.{Some, None as NoneOf, Result, Ok, Err, IsErrAnd}
use Rattle.coder.specs.declared.CodeError.{CodeError}
use Rattle.coder.specs.declared.CodeError.TheVariants.{RoomTooSmall}
use Rattle.std.proofs.lemmas.Option.{none-some, same_Some}
use Rattle.laws.specs.Lists.{every, same}
use Rattle.laws.specs.Once.{once}
use Rattle.chars.specs.Utf8.{is_text, chars_of, bad_place, fail_place}
use Rattle.chars.specs.Letters.{allowed}
use Rattle.plate.specs.Plate.{Plate}
use Rattle.plate.specs.Read.{plate_in, accepted}
use Rattle.branches.specs.Branches.{Branch, Use, start, run, over, code, codes}
use Rattle.branches.specs.Room.{outcome}
use Rattle.branches.proofs.Room.{run_fits}
use Rattle.coder.specs.Name.{prepared, Named, most_name, named}
use Rattle.coder.specs.Name.Named.{Refused, Chars}
use Rattle.coder.specs.Walk.{uses}
use Rattle.coder.specs.Answer.{Coded, no_codes, smaller, listing, room, listed, encoded, answered, coded_by, plated, list_answer, encode_answer}
use Rattle.coder.specs.Outcome.{told, listed_to, code_answer}
use Rattle.plate.proofs.Facts.{rules_good, rules_ordered}
use Rattle.coder.proofs.Firsts.{uses_good, cut_eight, encode_listed}

-- ---- the branches

module _ (us : List Use) (lent : List ℕ) (n : ℕ) (e : n ≡ smaller 64 ((length lent + 1) / 7)) where
  by_room : (t : Bool) → over n us start ≡ t → listed us lent ≡ cond t (no_codes 12 lent) (listing (codes us) lent)
  unfolding room
  by_room t g = ap (λ (b : Bool). cond b (no_codes 12 lent) (listing (codes us) lent)) (ap (λ (m : ℕ). over m us start) (sym e) ∙ g)

  -- What an outcome says.
  over_is : (t : Bool) → outcome n us start ≡ NoneOf → over n us start ≡ t → t ≡ true
  unfolding outcome
  over_is true f g = refl
  over_is false f g = absurd (none-some (run us start) (sym f ∙ ap (λ (b : Bool). cond b NoneOf (Some (run us start))) g))

  run_is : (bs : List Branch) (t : Bool) → outcome n us start ≡ Some bs → over n us start ≡ t → (t ≡ false) × (run us start ≡ bs)
  unfolding outcome
  run_is bs true f g = absurd (none-some bs (sym (ap (λ (b : Bool). cond b NoneOf (Some (run us start))) g) ∙ f))
  run_is bs false f g = (refl, same_Some (run us start) bs (sym (ap (λ (b : Bool). cond b NoneOf (Some (run us start))) g) ∙ f))

  pub too_many : outcome n us start ≡ NoneOf → no_codes 12 lent ≡ listed us lent
  too_many f = sym (by_room true (over_is (over n us start) f refl))

  module _ (bs : List Branch) (f : outcome n us start ≡ Some bs) where
    pub within : length bs ≤ n
    within = let r = run_is bs (over n us start) f refl in subst (λ (l : List Branch). length l ≤ n) r.1 (run_fits n us start r.0)

    pub all_listed : (cs : List (List ℕ)) → cs ≡ once same (map code bs) → (k : ℕ) (buffer : List ℕ) → length cs ≡ k → buffer ≡ (listing cs lent).buffer
        → record { number = 0; count = k; place = 0; buffer = buffer } ≡ listed us lent
    all_listed cs e k buffer j l =
        let r = run_is bs (over n us start) f refl in
        sym (by_room false r.0 ∙ ap (λ (x : List (List ℕ)). listing x lent) (ap (λ (x : List Branch). once same (map code x)) r.1 ∙ sym e)
        ∙ (λ y. record { number = 0; count = j y; place = 0; buffer = sym l y }))

-- An error that is refusal 12.
pub told_room : (r : Result ℕ CodeError) (lent : List ℕ) → IsErrAnd r (λ e. e ≡ RoomTooSmall) → told r lent ≡ no_codes 12 lent
told_room (Ok n) lent h = absurd h
told_room (Err e) lent h = ap (λ (x : CodeError). told (Err x) lent) h

-- ---- list and encode

-- What is known of the name decides.
pub by_name : (call : List Use → List ℕ → Coded) (p : Plate) (name lent : List ℕ) (n : Named) → n ≡ named p name → answered call p.rules n lent ≡ coded_by call p name lent
by_name call p name lent n e = ap (λ (x : Named). answered call p.rules x lent) e

-- `named`, by the outcomes of its tests; `foreign` and `broken` are the places of 11 and 2
abbrev pub judged : Bool → Bool → Bool → ℕ → ℕ → List ℕ → Named
judged long text fine foreign broken cs = cond long (Refused 1 0) (cond text (cond fine (Chars cs) (Refused 11 foreign)) (Refused 2 broken))

module _ (most : ℕ) (s name lent : List ℕ) where
  pub no_plate : accepted s ≡ false → code_answer most s name lent ≡ no_codes 10 lent
  unfolding code_answer
  no_plate h = ap (λ (t : Bool). plated (listed_to most) (cond t (some (plate_in s)) none) name lent) h

  pub by_plate : accepted s ≡ true → code_answer most s name lent ≡ coded_by (listed_to most) (plate_in s) name lent
  unfolding code_answer
  by_plate h = ap (λ (t : Bool). plated (listed_to most) (cond t (some (plate_in s)) none) name lent) h

module _ (s name lent : List ℕ) where
  abbrev plate : Plate
  plate = plate_in s

  abbrev used : List Use
  used = uses plate.rules (prepared plate name)

  -- The answer depends on a call by the uses of the name alone.
  same_call : (most : ℕ) (call : List Use → List ℕ → Coded) → (accepted s ≡ true → listed_to most used lent ≡ call used lent)
      → code_answer most s name lent ≡ plated call (cond (accepted s) (some plate) none) name lent
  unfolding code_answer
  same_call most call h = go (accepted s) h
    where
      by_name : (long text fine : Bool) → listed_to most used lent ≡ call used lent
          → answered (listed_to most) plate.rules (judged long text fine (fail_place allowed name) (bad_place name) (prepared plate name)) lent
          ≡ answered call plate.rules (judged long text fine (fail_place allowed name) (bad_place name) (prepared plate name)) lent
      by_name true text fine e = refl
      by_name false true true e = e
      by_name false true false e = refl
      by_name false false fine e = refl

      go : (t : Bool) → (t ≡ true → listed_to most used lent ≡ call used lent) → plated (listed_to most) (cond t (some plate) none) name lent ≡ plated call (cond t (some plate) none) name lent
      go false k = refl
      go true k = by_name (ltb most_name (length name)) (is_text name) (every allowed (chars_of name)) (k refl)

  -- List takes all alternatives.
  pub list_is : code_answer 8 s name lent ≡ list_answer s name lent
  unfolding list_answer
  list_is =
      same_call 8 listed
      (λ h. ap (λ (us : List Use). listed us lent) (cut_eight used (uses_good plate.rules (rules_good s h) (rules_ordered s h) (prepared plate name))))

  -- Encode takes the first.
  pub encode_is : code_answer 1 s name lent ≡ encode_answer s name lent
  unfolding encode_answer
  encode_is = same_call 1 encoded (λ h. sym (encode_listed used lent))
