-- Along every name rules that differ only in further alternatives are used at the same places: which rule is used rests on patterns alone. Assumes nothing.
use mathlib.Core.Path.{◌≡◌, refl, sym, ap, ap₂, subst}
use mathlib.Core.Bool.{Bool, true, false, cond}
use mathlib.Core.Option.{Option, none, some}
use mathlib.Core.List.{List, [], ◌∷◌, ◌++◌}
use Prim.Native.Nat.{ℕ, zero, suc, ◌-◌}
use lib.Dec.{ltb}
use lib.ListN.{length, drop}
use Rattle.laws.specs.Lists.{keep, begins}
use Rattle.plate.specs.Plate.{Rule}
use Rattle.branches.specs.Branches.{Use}
use Rattle.branches.specs.Choice.{Wider}
use Rattle.coder.specs.Walk.{letters, starts_with, group, longer, longest, match, field, vowel_follows, Passed, matched, passed, walk, uses}
use Rattle.coder.specs.Wider.{Further, WiderRule, WiderRules}

keep_wider : (t : List ℕ → Bool) (rs qs : List Rule) → WiderRules rs qs → WiderRules (keep (λ r. t (letters r)) rs) (keep (λ r. t (letters r)) qs)
keep_wider t [] [] w = tt
keep_wider t [] (q ∷ qs) w = absurd w
keep_wider t (r ∷ rs) [] w = absurd w
keep_wider t (r ∷ rs) (q ∷ qs) w =
    subst (λ (b : Bool). WiderRules (keep (λ x. t (letters x)) (r ∷ rs)) (cond b (q ∷ keep (λ x. t (letters x)) qs) (keep (λ x. t (letters x)) qs))) (sym (same w.0.same))
    (go (t (letters r)) (keep_wider t rs qs w.1))
  where
    same : q.pattern ≡ r.pattern → t (letters q) ≡ t (letters r)
    same e i = t (letters (record { pattern = e i; start = []; vowel = []; other = [] }))

    go : (b : Bool) → WiderRules (keep (λ x. t (letters x)) rs) (keep (λ x. t (letters x)) qs)
        → WiderRules (cond b (r ∷ keep (λ x. t (letters x)) rs) (keep (λ x. t (letters x)) rs)) (cond b (q ∷ keep (λ x. t (letters x)) qs) (keep (λ x. t (letters x)) qs))
    go true below = (w.0, below)
    go false below = below

abbrev WiderOption : Option Rule → Option Rule → Type 0
WiderOption none none = Unit {0}
WiderOption none (some q) = ⊥
WiderOption (some r) none = ⊥
WiderOption (some r) (some q) = WiderRule r q

letters_same : (r q : Rule) → WiderRule r q → letters q ≡ letters r
letters_same r q w i = letters (record { pattern = w.same i; start = []; vowel = []; other = [] })

longest_wider : (rs qs : List Rule) → WiderRules rs qs → WiderOption (longest rs) (longest qs)
longest_wider [] [] w = tt
longest_wider [] (q ∷ qs) w = absurd w
longest_wider (r ∷ rs) [] w = absurd w
longest_wider (r ∷ rs) (q ∷ qs) w = go (longest rs) (longest qs) (longest_wider rs qs w.1)
  where
    pick : (x y : Rule) → WiderRule x y → (b : Bool) → WiderOption (cond b (some x) (some r)) (cond b (some y) (some q))
    pick x y h true = h
    pick x y h false = w.0

    go : (o p : Option Rule) → WiderOption o p → WiderOption (longer r o) (longer q p)
    go none none h = w.0
    go none (some y) h = absurd h
    go (some x) none h = absurd h
    go (some x) (some y) h =
        subst (λ (b : Bool). WiderOption (longer r (some x)) (cond b (some y) (some q)))
        (ap₂ (λ (k l : List ℕ). ltb (length k) (length l)) (sym (letters_same r q w.0)) (sym (letters_same x y h)))
        (pick x y h (ltb (length (letters r)) (length (letters x))))

field_wider : (before : Option ℕ) (behind : List ℕ) (r q : Rule) → WiderRule r q → Further (field before behind r) (field before behind q)
field_wider none behind r q w = w.start
field_wider (some b) behind r q w = go (vowel_follows behind)
  where
    go : (v : Bool) → Further (cond v r.vowel r.other) (cond v q.vowel q.other)
    go true = w.vowel
    go false = w.other

abbrev WiderPassed : Passed → Passed → Type 0
WiderPassed p q = Wider p.uses q.uses × (q.before ≡ p.before) × (q.skip ≡ p.skip)

matched_wider : (before : Option ℕ) (c : ℕ) (cs : List ℕ) (o p : Option Rule) → WiderOption o p → WiderPassed (matched before c cs o) (matched before c cs p)
matched_wider before c cs none none w = (tt, refl, refl)
matched_wider before c cs none (some q) w = absurd w
matched_wider before c cs (some r) none w = absurd w
matched_wider before c cs (some r) (some q) w = (
  (
    subst (λ (l : List ℕ). Further (field before (drop (length (letters r)) (c ∷ cs)) r) (field before (drop (length l) (c ∷ cs)) q)) (sym (letters_same r q w))
        (field_wider before (drop (length (letters r)) (c ∷ cs)) r q w),
    refl,
    tt,
  ),
  refl,
  ap (λ (l : List ℕ). length l - 1) (letters_same r q w),
)

passed_wider : (before : Option ℕ) (c : ℕ) (cs : List ℕ) (rs qs : List Rule) → WiderRules rs qs → WiderPassed (passed before c cs rs) (passed before c cs qs)
passed_wider before c cs [] [] w = (tt, refl, refl)
passed_wider before c cs [] (q ∷ qs) w = absurd w
passed_wider before c cs (r ∷ rs) [] w = absurd w
passed_wider before c cs (r ∷ rs) (q ∷ qs) w =
    matched_wider before c cs (match (r ∷ rs) (c ∷ cs)) (match (q ∷ qs) (c ∷ cs))
    (longest_wider (keep (λ x. begins (letters x) (c ∷ cs)) (r ∷ rs)) (keep (λ x. begins (letters x) (c ∷ cs)) (q ∷ qs)) (keep_wider (λ p. begins p (c ∷ cs)) (r ∷ rs) (q ∷ qs) w))

append_wider : (us vs xs ys : List Use) → Wider us vs → Wider xs ys → Wider (us ++ xs) (vs ++ ys)
append_wider [] [] xs ys w z = z
append_wider [] (v ∷ vs) xs ys w z = absurd w
append_wider (u ∷ us) [] xs ys w z = absurd w
append_wider (u ∷ us) (v ∷ vs) xs ys w z = (w.0, w.1, append_wider us vs xs ys w.2 z)

walk_wider : (rs qs : List Rule) → WiderRules rs qs → (before : Option ℕ) (k : ℕ) (cs : List ℕ) → Wider (walk rs before k cs) (walk qs before k cs)
unfolding walk
walk_wider rs qs w before k [] = tt
walk_wider rs qs w before (suc k) (c ∷ cs) = walk_wider rs qs w before k cs
walk_wider rs qs w before zero (c ∷ cs) =
    go (passed before c cs (group rs c)) (passed before c cs (group qs c)) (passed_wider before c cs (group rs c) (group qs c) (keep_wider (starts_with c) rs qs w))
    (λ b k. walk_wider rs qs w b k cs)
  where
    go : (p q : Passed) → WiderPassed p q → ((b : Option ℕ) (k : ℕ) → Wider (walk rs b k cs) (walk qs b k cs))
        → Wider (p.uses ++ walk rs p.before p.skip cs) (q.uses ++ walk qs q.before q.skip cs)
    go p q h below =
        append_wider p.uses q.uses (walk rs p.before p.skip cs) (walk qs q.before q.skip cs) h.0
        (subst (λ (b : Option ℕ). Wider (walk rs p.before p.skip cs) (walk qs b q.skip cs)) (sym h.1)
        (subst (λ (k : ℕ). Wider (walk rs p.before p.skip cs) (walk qs p.before k cs)) (sym h.2) (below p.before p.skip)))

-- Wider rules are used at the same places of every name, with further alternatives perhaps.
pub uses_wider : (rs qs : List Rule) → WiderRules rs qs → (cs : List ℕ) → Wider (uses rs cs) (uses qs cs)
uses_wider rs qs w cs = walk_wider rs qs w none 0 cs
