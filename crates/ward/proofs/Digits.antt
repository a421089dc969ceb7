-- Every code is six ASCII digits: the alternatives of good rules are digits, a branch holds at most six of them, and zeros fill it up. Assumes nothing.
use Prim.Native.Nat.{ℕ, zero, suc, ◌+◌, ◌-◌, ◌≤◌}
use mathlib.Core.Path.{◌≡◌, refl, sym, ap, subst, ◌∙◌}
use mathlib.Core.Logic.{inl, inr}
use mathlib.Core.Bool.{Bool, true, not, ◌&&◌, ◌||◌}
use mathlib.Core.Option.{Option, none, some}
use mathlib.Core.List.{List, [], ◌∷◌, ◌++◌}
use native.Mathlib.Omega.{arith}
use lib.Dec.{ltb, leb}
use lib.ListN.{length, take, drop, replicate, length-append, length-take, length-replicate}
use Rattle.laws.specs.Lists.{In, every, keep, between, begins}
use Rattle.laws.specs.Arrays.{Each}
use Rattle.laws.proofs.Tests.{and_true, both_true, by_test}
use Rattle.laws.proofs.Cuts.{every_take}
use Rattle.laws.proofs.Many.{every_append}
use Rattle.laws.proofs.Members.{in_every}
use Rattle.chars.specs.Digits.{digit, is_alternative}
use Rattle.plate.specs.Plate.{Rule, good_pattern, good_field, good_rule}
use Rattle.branches.specs.Branches.{Branch, Use, ends_with, extend, code, codes}
use Rattle.branches.specs.Choice.{Chosen, follow, yielded}
use Rattle.branches.proofs.Choice.{listed_chosen}
use Rattle.coder.specs.Walk.{letters, starts_with, group, longer, longest, match, vowel_follows, field, matched, passed, walk, uses}
use Rattle.ward.specs.Codes.{SixDigits}

-- ---- the alternatives of each use

abbrev usable : Use → Bool
usable u = every is_alternative u.alternatives

abbrev Good : Option Rule → Type 0
Good none = Unit {0}
Good (some r) = good_rule r ≡ true

every_keep : {A : Type 0} (t s : A → Bool) (l : List A) → every t l ≡ true → every t (keep s l) ≡ true
every_keep t s [] h = refl
every_keep t s (x ∷ l) h =
    let b = and_true (t x) (every t l) h in
    by_test (λ r. every t r ≡ true) (s x) (x ∷ keep s l) (keep s l) (λ e. both_true b.0 (every_keep t s l b.1)) (λ e. every_keep t s l b.1)

longest_good : (rs : List Rule) → every good_rule rs ≡ true → Good (longest rs)
longest_good [] h = tt
longest_good (r ∷ rs) h = let b = and_true (good_rule r) (every good_rule rs) h in go (longest rs) b.0 (longest_good rs b.1)
  where
    go : (o : Option Rule) → good_rule r ≡ true → Good o → Good (longer r o)
    go none g k = g
    go (some q) g k = by_test Good (ltb (length (letters r)) (length (letters q))) (some q) (some r) (λ e. k) (λ e. g)

-- the three fields of a good rule
fields : (r : Rule) → good_rule r ≡ true → (every is_alternative r.start ≡ true) × (every is_alternative r.vowel ≡ true) × (every is_alternative r.other ≡ true)
fields r h =
    let a = and_true (good_pattern r.pattern) (good_field r.start && (good_field r.vowel && good_field r.other)) h in
    let b = and_true (good_field r.start) (good_field r.vowel && good_field r.other) a.1 in
    let c = and_true (good_field r.vowel) (good_field r.other) b.1 in
    (one r.start b.0, one r.vowel c.0, one r.other c.1)
  where
    one : (f : List (List ℕ)) → good_field f ≡ true → every is_alternative f ≡ true
    one f h = let a = and_true (between 1 8 (length f)) (every is_alternative f) h in a.1

field_usable : (before : Option ℕ) (behind : List ℕ) (r : Rule) → good_rule r ≡ true → every is_alternative (field before behind r) ≡ true
field_usable none behind r h = let f = fields r h in f.0
field_usable (some b) behind r h =
    let f = fields r h in
    by_test (λ (l : List (List ℕ)). every is_alternative l ≡ true) (vowel_follows behind) r.vowel r.other (λ e. f.1) (λ e. f.2)

passed_usable : (before : Option ℕ) (c : ℕ) (cs : List ℕ) (rs : List Rule) → every good_rule rs ≡ true → every usable (passed before c cs rs).uses ≡ true
passed_usable before c cs [] h = refl
passed_usable before c cs (r ∷ rs) h =
    go (match (r ∷ rs) (c ∷ cs)) (longest_good (keep (λ q. begins (letters q) (c ∷ cs)) (r ∷ rs)) (every_keep good_rule (λ q. begins (letters q) (c ∷ cs)) (r ∷ rs) h))
  where
    go : (o : Option Rule) → Good o → every usable (matched before c cs o).uses ≡ true
    go none g = refl
    go (some q) g = both_true (field_usable before (drop (length (letters q)) (c ∷ cs)) q g) refl

walk_usable : (rs : List Rule) → every good_rule rs ≡ true → (before : Option ℕ) (k : ℕ) (cs : List ℕ) → every usable (walk rs before k cs) ≡ true
unfolding walk
walk_usable rs h before k [] = refl
walk_usable rs h before (suc k) (c ∷ cs) = walk_usable rs h before k cs
walk_usable rs h before zero (c ∷ cs) =
    let p = passed before c cs (group rs c) in
    every_append usable p.uses (walk rs p.before p.skip cs)
    ∙ both_true (passed_usable before c cs (group rs c) (every_keep good_rule (λ r. starts_with c (letters r)) rs h)) (walk_usable rs h p.before p.skip cs)

uses_usable : (rs : List Rule) → every good_rule rs ≡ true → (cs : List ℕ) → every usable (uses rs cs) ≡ true
uses_usable rs h cs = walk_usable rs h none 0 cs

-- ---- a branch

abbrev Few : Branch → Type 0
Few b = (length b.digits ≤ 6) × (every digit b.digits ≡ true)

extend_few : (anyway : Bool) (a : List ℕ) (b : Branch) → is_alternative a ≡ true → Few b → Few (extend anyway a b)
unfolding extend
extend_few anyway a b h f =
    let d = and_true (leb (length a) 6) (every digit a) h in
    by_test (λ (l : List ℕ). (length l ≤ 6) × (every digit l ≡ true)) (anyway || not (ends_with b.last a)) (take 6 (b.digits ++ a)) b.digits
    (λ e. (shorter (b.digits ++ a), every_take digit 6 (b.digits ++ a) (every_append digit b.digits a ∙ both_true f.1 d.1))) (λ e. f)
  where
    shorter : (l : List ℕ) → length (take 6 l) ≤ 6
    shorter l = let e = length-take 6 l in omega arith

follow_few : (us : List Use) (choice : List (List ℕ)) (b : Branch) → every usable us ≡ true → Chosen us choice → Few b → Few (follow us choice b)
follow_few [] choice b h c f = f
follow_few (u ∷ us) [] b h c f = f
follow_few (u ∷ us) (a ∷ choice) b h c f =
    let d = and_true (usable u) (every usable us) h in
    follow_few us choice (extend u.anyway a b) d.1 c.1 (extend_few u.anyway a b (in_every is_alternative u.alternatives a d.0 c.0) f)

zeros : (n : ℕ) → every digit (replicate n 48) ≡ true
zeros zero = refl
zeros (suc n) = zeros n

filled_up : (b : Branch) → Few b → SixDigits (code b)
filled_up b f =
    let few = f.0 in
    let n = 6 - length b.digits in (
      length-append b.digits (replicate n 48) ∙ ap (λ (m : ℕ). length b.digits + m) (length-replicate n 48) ∙ omega arith,
      every_append digit b.digits (replicate n 48) ∙ both_true f.1 (zeros n),
    )

-- ---- the codes

module _ (rs : List Rule) (good : every good_rule rs ≡ true) (cs : List ℕ) where
  pub yielded_six : (choice : List (List ℕ)) → Chosen (uses rs cs) choice → SixDigits (yielded (uses rs cs) choice)
  yielded_six choice c =
      filled_up (follow (uses rs cs) choice (record { digits = []; last = [] }))
      (follow_few (uses rs cs) choice (record { digits = []; last = [] }) (uses_usable rs good cs) c (omega arith, refl))

  code_six : (k : List ℕ) → In k (codes (uses rs cs)) → SixDigits k
  code_six k h = let r = listed_chosen (uses rs cs) k h in subst SixDigits (sym r.2) (yielded_six r.0 r.1)

  pub codes_six : Each SixDigits (codes (uses rs cs))
  codes_six = all (codes (uses rs cs)) code_six
    where
      all : (l : List (List ℕ)) → ((k : List ℕ) → In k l → SixDigits k) → Each SixDigits l
      all [] h = tt
      all (k ∷ l) h = (h k (inl refl), all l (λ j i. h j (inr i)))
