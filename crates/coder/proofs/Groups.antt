-- The search in a character's group alone brings what the search over all rules brings: rules that begin with another character are neither taken nor make
-- it known, before the group and behind it. Assumes nothing.
use Prim.Native.Nat.{ℕ, ◌+◌, ◌<◌, ◌≤◌}
use mathlib.Core.Path.{◌≡◌, refl, sym, ap, ap₂, ◌∙◌}
use mathlib.Core.Bool.{Bool, true, false, cond, not, ◌||◌, false≢true}
use mathlib.Core.List.{List, [], ◌∷◌, ◌++◌, append-nil}
use native.Mathlib.Numerals.{add-one}
use native.Mathlib.Omega.{arith}
use borrow.Author.Tests.{eq-eqb, eqb-true, le-ltb, lt-ltb}
use lib.Dec.{ltb}
use lib.ListN.{length, take, drop, get_or, take-append-drop}
use lib.Seq.{slice, slice_empty, slice-cons, take-take}
use Rattle.laws.specs.Lists.{every, begins}
use Rattle.laws.proofs.Tests.{and_true}
use Rattle.laws.proofs.Cuts.{every_take, every_drop}
use Rattle.plate.specs.Plate.{Rule, good_rule, first_code}
use Rattle.plate.specs.Read.{rule_at, plate_in, accepted}
use Rattle.plate.specs.Stands.{Here}
use Rattle.plate.specs.Noted.{is_of, is_other, GroupIs}
use Rattle.plate.proofs.Facts.{rules_good}
use Rattle.coder.specs.Walk.{letters, starts_with}
use Rattle.coder.specs.Search.{Hit, hit_from}
use Rattle.coder.specs.Search.Hit.{Taken, None}
use Rattle.coder.specs.Held.{hit_at}
use Rattle.coder.proofs.Longest.{first_is}
use Rattle.coder.proofs.Patterns.{hit_end, hit, other, miss}

module _ (c : ℕ) (cs : List ℕ) where
  one_other : (known : Bool) (r : Rule) (more : List Rule) → good_rule r ≡ true → is_other c r ≡ true → hit_from known (r ∷ more) c cs ≡ hit_from known more c cs
  unfolding hit_at
  one_other known r more g o =
      let f = first_is r g in
      other (r ∷ more) known r more refl (c ∷ cs) (first_code r) f.0 f.1 (omega arith) (λ e. false≢true (sym (ap not (eq-eqb (first_code r) c e)) ∙ o))

  -- Rules of other characters before.
  pub skip : (known : Bool) (xs more : List Rule) → every good_rule xs ≡ true → every (is_other c) xs ≡ true → hit_from known (xs ++ more) c cs ≡ hit_from known more c cs
  skip known [] more g o = refl
  skip known (r ∷ xs) more g o =
      let b = and_true (good_rule r) (every good_rule xs) g in
      let d = and_true (is_other c r) (every (is_other c) xs) o in
      one_other known r (xs ++ more) b.0 d.0 ∙ skip known xs more b.1 d.1

  -- Rules of other characters behind.
  pub stop : (known : Bool) (ys xs : List Rule) → every good_rule xs ≡ true → every (is_other c) xs ≡ true → hit_from known (ys ++ xs) c cs ≡ hit_from known ys c cs
  unfolding hit_from
  stop known [] xs g o = ap (λ (l : List Rule). hit_from known l c cs) (sym (append-nil xs)) ∙ skip known xs [] g o
  stop known (y ∷ ys) xs g o = ap (λ (h : Hit). cond (begins (letters y) (c ∷ cs)) (Taken y) h) (stop (known || starts_with c (letters y)) ys xs g o)

  -- So the group decides.
  group_hit : (rs : List Rule) (first behind : ℕ) → every good_rule rs ≡ true → GroupIs rs c first behind → hit_from false rs c cs ≡ hit_from false (slice first behind rs) c cs
  group_hit rs first behind g h =
      let front : take first rs ++ slice first behind rs ≡ take behind rs = ap (λ (l : List Rule). l ++ slice first behind rs) (sym (take-take first behind rs
      h.rising)) ∙ take-append-drop first (take behind rs) in
      let whole : take first rs ++ slice first behind rs ++ drop behind rs ≡ rs = ap (λ (l : List Rule). l ++ drop behind rs) front ∙ take-append-drop behind rs in
      ap (λ (l : List Rule). hit_from false l c cs) (sym whole)
      ∙ stop false (take first rs ++ slice first behind rs) (drop behind rs) (every_drop good_rule behind rs g) h.after
      ∙ skip false (take first rs) (slice first behind rs) (every_take good_rule first rs g) h.before

in_group : (rs : List Rule) (first behind : ℕ) → every good_rule rs ≡ true → (rest : List ℕ) → 0 < length rest → GroupIs rs (get_or rest 0 0) first behind
    → hit_at (ltb first first) (slice first behind rs) rest ≡ hit_at false rs rest
unfolding hit_at
in_group rs first behind g [] l h = absurd (omega arith)
in_group rs first behind g (c ∷ cs) l h =
    ap (λ (t : Bool). hit_from t (slice first behind rs) c cs) (le-ltb first first (omega arith)) ∙ sym (group_hit c cs rs first behind g h)

-- ---- the loop over a group's rules

module _ (s rest : List ℕ) (first behind : ℕ) where
  abbrev rules : List Rule
  rules = (plate_in s).rules

  -- From rule i on it is as from the first, and the rules left are the group's.
  pub record Left (i : ℕ) : Type 0 where
    pub from : first ≤ i
    pub to : i ≤ behind
    pub group : every (is_of (get_or rest 0 0)) (slice i behind rules) ≡ true
    pub hit : hit_at (ltb first i) (slice i behind rules) rest ≡ hit_at false rules rest

  module _ (a : accepted s ≡ true) (g : GroupIs rules (get_or rest 0 0) first behind) (l : 0 < length rest) where
    pub left_start : Left first
    left_start = record { from = omega arith; to = g.rising; group = g.inside; hit = in_group rules first behind (rules_good s a) rest l g }

    pub left_end : (i : ℕ) → behind ≤ i → Left i → (t : Bool) → ltb first behind ≡ t → hit_at false rules rest ≡ None t
    left_end i h k t e =
        let same : i ≡ behind = let b = k.to in omega arith in
        sym k.hit ∙ ap (λ (m : ℕ). hit_at (ltb first m) (slice m behind rules) rest) same
        ∙ hit_end (slice behind behind rules) (ltb first behind) rest (slice_empty behind rules)
        ∙ ap None e

    -- There are none.
    pub no_group : behind ≤ first → hit_at false rules rest ≡ None false
    no_group h = left_end first h left_start false (le-ltb first behind h)

    -- None of them fits.
    pub no_match : (i : ℕ) → first < behind → behind ≤ i → Left i → hit_at false rules rest ≡ None true
    no_match i f h k = left_end i h k true (lt-ltb first behind f)

    -- the rule number i
    module _ (i : ℕ) (h : i < behind) (k : Left i) (r : Rule) (is : (d : Rule) → get_or rules i d ≡ r) (good : good_rule r ≡ true) where
      pub counted : i < length rules
      counted = let w = g.within in omega arith

      next : slice i behind rules ≡ r ∷ slice (i + 1) behind rules
      next = slice-cons i behind rules r h g.within ∙ ap₂ (λ (q : Rule) (m : ℕ). q ∷ slice m behind rules) (is r) (sym (add-one i))

      pub left_hit : begins (letters r) rest ≡ true → hit_at false rules rest ≡ Taken r
      left_hit b = sym k.hit ∙ hit (slice i behind rules) (ltb first i) r (slice (i + 1) behind rules) next rest l b

      pub left_miss : begins (letters r) rest ≡ false → Left (i + 1)
      left_miss b =
          let all = and_true (is_of (get_or rest 0 0) r) (every (is_of (get_or rest 0 0)) (slice (i + 1) behind rules)) (ap (every (is_of (get_or rest 0 0))) (sym next) ∙ k.group) in
          let f = first_is r good in
          let low = k.from in record {
            from = omega arith;
            to = omega arith;
            group = all.1;
            hit = ap (λ (t : Bool). hit_at t (slice (i + 1) behind rules) rest) (lt-ltb first (i + 1) (omega arith))
                ∙ sym (miss (slice i behind rules) (ltb first i) r (slice (i + 1) behind rules) next rest (first_code r) f.0 f.1 l
                (eqb-true (first_code r) (get_or rest 0 0) all.0) b)
                ∙ k.hit;
          }

-- A pattern has a character.
pub one_letter : (s : List ℕ) (at : ℕ) → Here s at → 0 < length (letters (rule_at s at))
one_letter s at h = let f = first_is (rule_at s at) h.good in let n = ap length f.1 in omega arith
