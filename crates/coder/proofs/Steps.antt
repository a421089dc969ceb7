-- The uses from a place of the name on: what a character brings; and the branches from there, which are those wanted of the whole name. Assumes nothing.
use Prim.Native.Nat.{ℕ, zero, suc, ◌+◌, ◌-◌, ◌≤◌, ◌<◌}
use mathlib.Core.Path.{◌≡◌, refl, sym, ap, ◌∙◌}
use mathlib.Core.Bool.{Bool, true, false, cond, false≢true}
use mathlib.Core.Option as maybe
use mathlib.Core.List.{List, [], ◌∷◌, ◌++◌}
use native.Mathlib.Omega.{arith}
use borrow.Author.Tests.{leb-true, leb-false}
use lib.Dec.{leb}
use lib.ListN.{length, take, drop, get_or, drop_of_length-le}
use lib.Seq.{drop-cons, drop-drop}
use Rattle.std.specs.Prelude.{Option, Some, None as NoneOf, Result, Ok, Err, IsErr}
use Rattle.std.specs.Result.{result_ok}
use Rattle.branches.specs.declared.TooMany.{TooMany}
use Rattle.laws.specs.Lists.{every}
use Rattle.plate.specs.Plate.{Rule, good_rule, ordered}
use Rattle.plate.specs.Stands.{field_of}
use Rattle.branches.specs.Branches.{Branch, Use, start, step}
use Rattle.branches.specs.Room.{outcome}
use Rattle.branches.proofs.Room.{outcome_over, outcome_next, outcome_end}
use Rattle.coder.specs.Walk.{letters, vowel_follows, field, forced, Passed, walk, uses}
use Rattle.coder.specs.Search.{Hit, brings}
use Rattle.coder.specs.Search.Hit.{Taken, None}
use Rattle.coder.specs.Held.{hit_at, before_of, field_kind, cut_all, uses_left, left}
use Rattle.coder.specs.declared.walk.Walk.{Walk}
use Rattle.coder.proofs.Hits.{search_brings}
use Rattle.coder.proofs.Fields.{field_is}

-- ---- the walk at a place of the name

-- Characters still to pass are characters dropped.
walk_skip : (rs : List Rule) (before : maybe.Option ℕ) (k : ℕ) (cs : List ℕ) → walk rs before k cs ≡ walk rs before 0 (drop k cs)
unfolding walk
walk_skip rs before zero [] = refl
walk_skip rs before (suc k) [] = refl
walk_skip rs before zero (c ∷ cs) = refl
walk_skip rs before (suc k) (c ∷ cs) = walk_skip rs before k cs

walk_end : (rs : List Rule) (before : maybe.Option ℕ) (name : List ℕ) (at : ℕ) → length name ≤ at → walk rs before 0 (drop at name) ≡ []
unfolding walk
walk_end rs before name at h = rw (drop_of_length-le name h)

module _ (rs : List Rule) (name : List ℕ) (most : ℕ) where
  -- From the front they are all.
  pub from_start : uses_left most rs name NoneOf 0 ≡ cut_all most (uses rs name)
  unfolding uses_left
  from_start = refl

  -- At the end there is nothing more to use.
  pub from_end : (before : Option ℕ) (at : ℕ) → length name ≤ at → uses_left most rs name before at ≡ []
  unfolding uses_left
  from_end before at h = ap (cut_all most) (walk_end rs (before_of before) name at h)

  module _ (good : every good_rule rs ≡ true) (order : ordered rs ≡ true) (before : Option ℕ) (at : ℕ) (b : at < length name) where
    abbrev brought : Hit → Passed
    brought h = brings (before_of before) (get_or name at 0) (drop (suc at) name) h

    -- the walk, by what the search answers
    turn : (h : Hit) → hit_at false rs (drop at name) ≡ h
        → walk rs (before_of before) 0 (drop at name) ≡ (brought h).uses ++ walk rs (brought h).before 0 (drop (suc at + (brought h).skip) name)
    unfolding walk hit_at
    turn h e =
        let here = drop-cons name at 0 b in
        ap (walk rs (before_of before) 0) here
        ∙ ap (λ (p : Passed). p.uses ++ walk rs p.before p.skip (drop (suc at) name))
        (search_brings rs good order (before_of before) (get_or name at 0) (drop (suc at) name)
        ∙ ap brought (sym (ap (hit_at false rs) here) ∙ e))
        ∙ ap (λ (us : List Use). (brought h).uses ++ us)
        (walk_skip rs (brought h).before (brought h).skip (drop (suc at) name) ∙ ap (walk rs (brought h).before 0) (drop-drop (brought h).skip (suc at) name))

    -- A group without a match: this is the character before.
    pub known : hit_at false rs (drop at name) ≡ None true → uses_left most rs name (Some (get_or name at 0)) (at + 1) ≡ uses_left most rs name before at
    unfolding uses_left
    known e =
        ap (cut_all most) (sym (turn (None true) e ∙ ap (λ (k : ℕ). walk rs (maybe.some (get_or name at 0)) 0 (drop k name)) {x = suc at + 0} {y = at + 1} (omega arith)))

    -- No group: nothing changes.
    pub unknown : hit_at false rs (drop at name) ≡ None false → uses_left most rs name before (at + 1) ≡ uses_left most rs name before at
    unfolding uses_left
    unknown e =
        ap (cut_all most) (sym (turn (None false) e ∙ ap (λ (k : ℕ). walk rs (before_of before) 0 (drop k name)) {x = suc at + 0} {y = at + 1} (omega arith)))

    -- A rule is used.
    pub used : (r : Rule) (n : ℕ) → hit_at false rs (drop at name) ≡ Taken r → n ≡ length (letters r) → 0 < n → (u : Use)
        → u.alternatives ≡ take most (field_of r (field_kind before (vowel_follows (drop (at + n) name)))) → u.anyway ≡ forced (before_of before) (get_or name at 0)
        → uses_left most rs name before at ≡ u ∷ uses_left most rs name (Some (get_or name at 0)) (at + n)
    unfolding uses_left
    used r n e f some-letter u d a =
        let c = get_or name at 0 in
        let behind : drop (length (letters r)) (c ∷ drop (suc at) name) ≡ drop (at + n) name =
        ap (drop (length (letters r))) (sym (drop-cons name at 0 b)) ∙ drop-drop (length (letters r)) at name ∙ ap (λ (m : ℕ). drop (at + m) name) (sym f) in
        let skip : suc at + (length (letters r) - 1) ≡ at + n = omega arith in
        let alternatives = d ∙ ap (take most) (field_is before (drop (at + n) name) r ∙ ap (λ (x : List ℕ). field (before_of before) x r) (sym behind)) in
        ap (cut_all most) (turn (Taken r) e)
        ∙ (λ i. record { alternatives = sym alternatives i; anyway = sym a i } ∷ cut_all most (walk rs (maybe.some c) 0 (drop (skip i) name)))

-- ---- the branches from a place on

-- what comes of the uses left along a walk is what comes of all
pub record Left (most room : ℕ) (w : Walk) (rs : List Rule) (name : List ℕ) (bs : List Branch) : Type 0 where
  pub fits : length bs ≤ room
  pub is : outcome room (left most w) bs ≡ outcome room (cut_all most (uses rs name)) start

module _ (most room : ℕ) (rs : List Rule) (name : List ℕ) where
  -- No room: over at the start.
  pub no_room : room < 1 → outcome room (cut_all most (uses rs name)) start ≡ NoneOf
  no_room h = outcome_over room (cut_all most (uses rs name)) start h

  -- From the start they are all.
  pub begin : (w : Walk) (bs : List Branch) → 1 ≤ room → left most w ≡ cut_all most (uses rs name) → bs ≡ start → Left most room w rs name bs
  begin w bs h e f = rw f (record { fits = h; is = ap (λ (us : List Use). outcome room us start) e })

  module _ (w v : Walk) (bs : List Branch) (l : Left most room w rs name bs) where
    -- No use is left: these are all branches.
    pub done : left most w ≡ [] → outcome room (cut_all most (uses rs name)) start ≡ Some bs
    done e = sym l.is ∙ ap (λ (us : List Use). outcome room us bs) e ∙ outcome_end room bs l.fits

    -- One is: the branches meet it.
    module _ (u : Use) (e : left most w ≡ u ∷ left most v) (ok : Bool) (f : ok ≡ leb (length (step u bs)) room) where
      next : outcome room (left most v) (step u bs) ≡ outcome room (cut_all most (uses rs name)) start
      next = sym (ap (λ (us : List Use). outcome room us bs) e ∙ outcome_next room u (left most v) bs l.fits) ∙ l.is

      pub used_over : ok ≡ false → outcome room (cut_all most (uses rs name)) start ≡ NoneOf
      used_over g = sym next ∙ outcome_over room (left most v) (step u bs) (leb-false (length (step u bs)) room (sym f ∙ g))

      pub used_on : ok ≡ true → (to : List Branch) → to ≡ cond ok (step u bs) bs → Left most room v rs name to
      used_on g to h = rw (h, g) (record { fits = leb-true (length (step u bs)) room (sym f ∙ g); is = next })

-- An error has no branches.
pub failed : (r : Result (List Branch) TooMany) → IsErr r → result_ok r ≡ NoneOf
failed (Ok bs) h = absurd (false≢true h)
failed (Err e) h = refl
