-- A use of an accepted plate's rule has at most 8 alternatives: cut to 8 it stays as it is. Cut to its first it keeps one branch one: encode is list over
-- first alternatives. Assumes nothing.
use Prim.Native.Nat.{ℕ, zero, suc, ◌+◌, ◌/◌, ◌≤◌, ◌<◌}
use mathlib.Core.Path.{◌≡◌, refl, sym, ap, ap₂, ◌∙◌}
use mathlib.Core.Bool.{Bool, true, false, cond, ◌&&◌, ◌||◌}
use mathlib.Core.Option.{Option, none, some}
use mathlib.Core.List.{List, [], ◌∷◌}
use native.Mathlib.Omega.{arith}
use borrow.Author.Tests.{lt-ltb, le-ltb, leb-true}
use lib.Dec.{ltb, leb}
use lib.ListN.{length, take, drop}
use lib.Seq.{take_all}
use Rattle.laws.specs.Lists.{every, between, begins}
use Rattle.laws.proofs.Tests.{and_true, both_true, by_test, between_true}
use Rattle.laws.proofs.Bits.{by_order}
use Rattle.laws.proofs.Many.{every_append}
use Rattle.chars.specs.Digits.{is_alternative}
use Rattle.plate.specs.Plate.{Rule, good_rule, good_pattern, good_field, ordered}
use Rattle.branches.specs.Branches.{Use, start, over, codes}
use Rattle.branches.specs.Choice.{Single}
use Rattle.branches.proofs.Room.{no_room, single_fits}
use Rattle.coder.specs.Walk.{letters, starts_with, group, vowel_follows, field, Passed, passed, walk, uses}
use Rattle.coder.specs.Search.{Hit, hit_from, brings}
use Rattle.coder.specs.Search.Hit.{Taken, None}
use Rattle.coder.specs.Answer.{no_codes, listing, room, listed, encoded}
use Rattle.coder.specs.Held.{cut_all}
use Rattle.coder.proofs.Hits.{search_brings}

-- 1 to 8 alternatives
abbrev pub good_use : Use → Bool
good_use u = between 1 8 (length u.alternatives)

-- ---- each use is good

abbrev GoodHit : Hit → Type 0
GoodHit (Taken r) = good_rule r ≡ true
GoodHit (None known) = Unit {0}

hit_good : (known : Bool) (rs : List Rule) (c : ℕ) (cs : List ℕ) → every good_rule rs ≡ true → GoodHit (hit_from known rs c cs)
unfolding hit_from
hit_good known [] c cs g = tt
hit_good known (r ∷ more) c cs g =
    let b = and_true (good_rule r) (every good_rule more) g in
    by_test GoodHit (begins (letters r) (c ∷ cs)) (Taken r) (hit_from (known || starts_with c (letters r)) more c cs) (λ _. b.0)
    (λ _. hit_good (known || starts_with c (letters r)) more c cs b.1)

count_good : (f : List (List ℕ)) → good_field f ≡ true → between 1 8 (length f) ≡ true
count_good f g = (and_true (between 1 8 (length f)) (every is_alternative f) g).0

-- Each field of a good rule is good.
fields_good : (r : Rule) → good_rule r ≡ true → (good_field r.start ≡ true) × (good_field r.vowel ≡ true) × (good_field r.other ≡ true)
fields_good r g =
    let fields = (and_true (good_pattern r.pattern) (good_field r.start && (good_field r.vowel && good_field r.other)) g).1 in
    let first = and_true (good_field r.start) (good_field r.vowel && good_field r.other) fields in
    let others = and_true (good_field r.vowel) (good_field r.other) first.1 in
    (first.0, others.0, others.1)

field_good : (before : Option ℕ) (behind : List ℕ) (r : Rule) → good_rule r ≡ true → between 1 8 (length (field before behind r)) ≡ true
field_good none behind r g = count_good r.start (fields_good r g).0
field_good (some before) behind r g =
    by_test (λ (f : List (List ℕ)). between 1 8 (length f) ≡ true) (vowel_follows behind) r.vowel r.other
    (λ _. count_good r.vowel (fields_good r g).1)
    (λ _. count_good r.other (fields_good r g).2)

brings_good : (before : Option ℕ) (c : ℕ) (cs : List ℕ) (h : Hit) → GoodHit h → every good_use (brings before c cs h).uses ≡ true
brings_good before c cs (Taken r) g = both_true (field_good before (drop (length (letters r)) (c ∷ cs)) r g) refl
brings_good before c cs (None true) g = refl
brings_good before c cs (None false) g = refl

module _ (rs : List Rule) (good : every good_rule rs ≡ true) (order : ordered rs ≡ true) where
  walk_good : (before : Option ℕ) (k : ℕ) (cs : List ℕ) → every good_use (walk rs before k cs) ≡ true
  unfolding walk
  walk_good before k [] = refl
  walk_good before (suc k) (c ∷ cs) = walk_good before k cs
  walk_good before zero (c ∷ cs) =
      let p = passed before c cs (group rs c) in
      every_append good_use p.uses (walk rs p.before p.skip cs)
      ∙ both_true (ap (λ (q : Passed). every good_use q.uses) (search_brings rs good order before c cs) ∙ brings_good before c cs (hit_from false rs c cs) (hit_good false rs c cs good))
      (walk_good p.before p.skip cs)

  pub uses_good : (cs : List ℕ) → every good_use (uses rs cs) ≡ true
  uses_good cs = walk_good none 0 cs

-- ---- cut to 8

pub cut_eight : (us : List Use) → every good_use us ≡ true → cut_all 8 us ≡ us
cut_eight [] g = refl
cut_eight (u ∷ more) g =
    let b = and_true (good_use u) (every good_use more) g in
    ap₂ ◌∷◌ (ap (λ (f : List (List ℕ)). record { alternatives = f; anyway = u.anyway }) (take_all 8 u.alternatives (between_true 1 8 (length u.alternatives) b.0).1))
    (cut_eight more b.1)

-- ---- cut to the first

-- One alternative at each use: only the start can be over.
single : (us : List Use) → Single (cut_all 1 us)
single [] = tt
single (u ∷ more) = (go u.alternatives, single more)
  where
    go : (f : List (List ℕ)) → length (take 1 f) ≤ 1
    go [] = omega arith
    go (a ∷ f) = omega arith

one_over : (n : ℕ) (us : List Use) → over n (cut_all 1 us) start ≡ ltb n 1
one_over n us =
    by_order (over n (cut_all 1 us) start ≡ ltb n 1) n 1
    (λ h. let z : n ≡ 0 = omega arith in ap (λ (m : ℕ). over m (cut_all 1 us) start) z ∙ no_room (cut_all 1 us) ∙ sym (lt-ltb n 1 h))
    (λ h. single_fits n (cut_all 1 us) start h (single us) (omega arith) ∙ sym (le-ltb n 1 h))

-- There is no room for one code exactly under six bytes.
under_six : (lent : List ℕ) → ltb (room lent) 1 ≡ ltb (length lent) 6
unfolding room
under_six lent =
    by_order (ltb (room lent) 1 ≡ ltb (length lent) 6) (length lent) 6
    (λ h. lt-ltb (room lent) 1 (by_test (λ (m : ℕ). m < 1) (leb 64 ((length lent + 1) / 7)) 64 ((length lent + 1) / 7) (λ e. let l = leb-true 64
    ((length lent + 1) / 7) e in absurd (omega arith)) (λ e. omega arith)) ∙ sym (lt-ltb (length lent) 6 h))
    (λ h. le-ltb (room lent) 1 (by_test (λ (m : ℕ). 1 ≤ m) (leb 64 ((length lent + 1) / 7)) 64 ((length lent + 1) / 7) (λ e. omega arith) (λ e. omega arith)) ∙ sym (le-ltb (length lent) 6 h))

-- Encode is list over first alternatives.
pub encode_listed : (us : List Use) (lent : List ℕ) → encoded us lent ≡ listed (cut_all 1 us) lent
encode_listed us lent =
    ap (λ (t : Bool). cond t (no_codes 12 lent) (listing (codes (cut_all 1 us)) lent)) (sym (one_over (room lent) us ∙ under_six lent))
