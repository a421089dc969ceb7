-- Which rules are used along a name rests on the first rule of each pattern alone. Assumes nothing.
use Prim.Native.Nat.{ℕ, zero, suc, ◌≤◌}
use mathlib.Core.Path.{◌≡◌, refl, sym, ap, ap₂, subst, ◌∙◌}
use mathlib.Core.Logic.{inl, inr}
use mathlib.Core.Bool.{Bool, true, false, cond, false≢true}
use mathlib.Core.Option.{Option, none, some}
use mathlib.Core.List.{List, [], ◌∷◌, ◌++◌}
use native.Mathlib.Nat.{le_trans}
use native.Mathlib.Omega.{arith}
use borrow.Author.Tests.{ltb-true, ltb-false, eqb-true}
use lib.Dec.{ltb, eqb}
use lib.ListN.{length}
use Rattle.laws.specs.Lists.{In, keep, same, begins}
use Rattle.laws.proofs.Tests.{and_true}
use Rattle.laws.proofs.Members.{in_keep}
use Rattle.laws.proofs.Same.{same_equal, equal_same, lengths_differ}
use Rattle.plate.specs.Plate.{Rule}
use Rattle.branches.specs.Branches.{Use}
use Rattle.coder.specs.Walk.{letters, starts_with, group, longer, longest, match, Passed, matched, passed, walk, uses}
use Rattle.order.specs.First.{rule_for, SameFirsts}

-- ---- the first rule of a pattern

-- some rule is not none
not_none : (r : Rule) → none ≡ some r → ⊥
not_none r e = false≢true (ap is_some e)
  where
    is_some : Option Rule → Bool
    is_some none = false
    is_some (some x) = true

the_same : (r q : Rule) → some r ≡ some q → r ≡ q
the_same r q e = ap held e
  where
    held : Option Rule → Rule
    held none = r
    held (some x) = x

-- It is the first of a list, if that has the pattern.
for_first : (r : Rule) (more : List Rule) → rule_for (letters r) (r ∷ more) ≡ some r
for_first r more = rw (equal_same (letters r))

-- It stands in the list.
for_in : (l : List ℕ) (rs : List Rule) (r : Rule) → rule_for l rs ≡ some r → In r rs
for_in l [] r e = absurd (not_none r e)
for_in l (q ∷ more) r e = go (same (letters q) l) e (for_in l more r)
  where
    go : (t : Bool) → cond t (some q) (rule_for l more) ≡ some r → (rule_for l more ≡ some r → In r more) → In r (q ∷ more)
    go true e below = inl (sym (the_same q r e))
    go false e below = inr (below e)

-- Among the rules whose characters pass a test it is the same where its own pass, and there is none where they do not.
for_keep : (t : List ℕ → Bool) (l : List ℕ) (rs : List Rule) → rule_for l (keep (λ r. t (letters r)) rs) ≡ cond (t l) (rule_for l rs) none
for_keep t l [] = sym (both (t l))
  where
    both : (b : Bool) → cond {A = Option Rule} b none none ≡ none
    both true = refl
    both false = refl
for_keep t l (r ∷ more) = go (t (letters r)) (same (letters r) l) refl refl (for_keep t l more)
  where
    go : (b s : Bool) → t (letters r) ≡ b → same (letters r) l ≡ s → rule_for l (keep (λ q. t (letters q)) more) ≡ cond (t l) (rule_for l more) none
        → rule_for l (cond b (r ∷ keep (λ q. t (letters q)) more) (keep (λ q. t (letters q)) more)) ≡ cond (t l) (cond s (some r) (rule_for l more)) none
    go true true e f below = rw (f, sym (ap t (same_equal (letters r) l f)) ∙ e)
    go true false e f below = rw f below
    go false true e f below = let g : t l ≡ false = sym (ap t (same_equal (letters r) l f)) ∙ e in rw g at below ∙ rw g
    go false false e f below = below

-- So lists with the same firsts have the same firsts among those that pass.
keep_same : (t : List ℕ → Bool) (rs qs : List Rule) → SameFirsts rs qs → SameFirsts (keep (λ r. t (letters r)) rs) (keep (λ r. t (letters r)) qs)
keep_same t rs qs s l = for_keep t l rs ∙ ap (λ (o : Option Rule). cond (t l) o none) (s l) ∙ sym (for_keep t l qs)

-- A list with a rule has not the firsts of one without.
not_empty : (q : Rule) (qs : List Rule) → SameFirsts [] (q ∷ qs) → ⊥
not_empty q qs s = not_none q (s (letters q) ∙ for_first q qs)

-- ---- the longest

-- how many characters a rule's pattern has
abbrev size : Rule → ℕ
size r = length (letters r)

-- What `longest` answers: none where there is no rule; else the first rule of its pattern, and no other is longer.
abbrev Best : List Rule → Option Rule → Type 0
Best l none = l ≡ []
Best l (some r) = (rule_for (letters r) l ≡ some r) × ((q : Rule) → In q l → size q ≤ size r)

none_longer : (q r : Rule) (more : List Rule) → size r ≤ size q → ((x : Rule) → In x more → size x ≤ size q) → (x : Rule) → In x (r ∷ more) → size x ≤ size q
none_longer q r more h f x (inl e) = subst (λ (y : Rule). size y ≤ size q) (sym e) h
none_longer q r more h f x (inr i) = f x i

longest_best : (l : List Rule) → Best l (longest l)
longest_best [] = refl
longest_best (r ∷ more) = go (longest more) (longest_best more)
  where
    pick : (q : Rule) → Best more (some q) → (t : Bool) → ltb (size r) (size q) ≡ t → Best (r ∷ more) (cond t (some q) (some r))
    pick q h true e =
        let k = ltb-true (size r) (size q) e in
        (rw (lengths_differ (letters r) (letters q) (λ f. omega arith)) h.0, none_longer q r more (omega arith) h.1)
    pick q h false e =
        let k = ltb-false (size r) (size q) e in
        (for_first r more, none_longer r r more (omega arith) (λ x i. le_trans (h.1 x i) k))

    go : (o : Option Rule) → Best more o → Best (r ∷ more) (longer r o)
    go none e = (for_first r more, none_longer r r more (omega arith) (λ x i. absurd (subst (In x) e i)))
    go (some q) h = pick q h (ltb (size r) (size q)) refl

-- Of two that begin one text, those with as many characters are the same.
begins_same : (p q cs : List ℕ) → begins p cs ≡ true → begins q cs ≡ true → length p ≡ length q → p ≡ q
begins_same [] [] cs b c h = refl
begins_same [] (y ∷ q) cs b c h = absurd (omega arith)
begins_same (x ∷ p) [] cs b c h = absurd (omega arith)
begins_same (x ∷ p) (y ∷ q) [] b c h = absurd (false≢true b)
begins_same (x ∷ p) (y ∷ q) (z ∷ cs) b c h =
    let s = and_true (eqb x z) (begins p cs) b in
    let t = and_true (eqb y z) (begins q cs) c in
    ap₂ ◌∷◌ (eqb-true x z s.0 ∙ sym (eqb-true y z t.0)) (begins_same p q cs s.1 t.1 (omega arith))

-- a rule fits here
abbrev fits : List ℕ → Rule → Bool
fits cs r = begins (letters r) cs

-- Rules that fit here, with the same firsts: the longest is the same.
longest_same : (cs : List ℕ) (rs qs : List Rule) → ((r : Rule) → In r rs → fits cs r ≡ true) → ((q : Rule) → In q qs → fits cs q ≡ true) → SameFirsts rs qs
    → longest rs ≡ longest qs
longest_same cs rs qs f g s = go (longest rs) (longest qs) (longest_best rs) (longest_best qs)
  where
    go : (o p : Option Rule) → Best rs o → Best qs p → o ≡ p
    go none none h k = refl
    go none (some q) h k = absurd (not_none q (ap (rule_for (letters q)) (sym h) ∙ s (letters q) ∙ k.0))
    go (some r) none h k = absurd (not_none r (ap (rule_for (letters r)) (sym k) ∙ sym (s (letters r)) ∙ h.0))
    go (some r) (some q) h k =
        let there = sym (s (letters r)) ∙ h.0 in
        let here = s (letters q) ∙ k.0 in
        let i = for_in (letters r) qs r there in
        let j = for_in (letters q) rs q here in
        let long = h.1 q j in
        let short = k.1 r i in
        let l = begins_same (letters r) (letters q) cs (g r i) (f q j) (omega arith) in
        sym there ∙ ap (λ (x : List ℕ). rule_for x qs) l ∙ k.0

-- ---- the walk

match_same : (rs qs : List Rule) → SameFirsts rs qs → (cs : List ℕ) → match rs cs ≡ match qs cs
match_same rs qs s cs =
    longest_same cs (keep (fits cs) rs) (keep (fits cs) qs) (λ r i. (in_keep (fits cs) rs r i).1) (λ q i. (in_keep (fits cs) qs q i).1)
    (keep_same (λ l. begins l cs) rs qs s)

passed_same : (before : Option ℕ) (c : ℕ) (cs : List ℕ) (rs qs : List Rule) → SameFirsts rs qs → passed before c cs rs ≡ passed before c cs qs
passed_same before c cs [] [] s = refl
passed_same before c cs [] (q ∷ qs) s = absurd (not_empty q qs s)
passed_same before c cs (r ∷ rs) [] s = absurd (not_empty r rs (λ l. sym (s l)))
passed_same before c cs (r ∷ rs) (q ∷ qs) s = ap (matched before c cs) (match_same (r ∷ rs) (q ∷ qs) s (c ∷ cs))

walk_same : (rs qs : List Rule) → SameFirsts rs qs → (before : Option ℕ) (k : ℕ) (cs : List ℕ) → walk rs before k cs ≡ walk qs before k cs
unfolding walk
walk_same rs qs s before k [] = refl
walk_same rs qs s before (suc k) (c ∷ cs) = walk_same rs qs s before k cs
walk_same rs qs s before zero (c ∷ cs) =
    let p = passed before c cs (group rs c) in
    ap (λ (l : List Use). p.uses ++ l) (walk_same rs qs s p.before p.skip cs)
    ∙ ap (λ (x : Passed). x.uses ++ walk qs x.before x.skip cs) (passed_same before c cs (group rs c) (group qs c) (keep_same (starts_with c) rs qs s))

-- Rules whose patterns have the same firsts are used alike along every name.
pub uses_same : (rs qs : List Rule) → SameFirsts rs qs → (cs : List ℕ) → uses rs cs ≡ uses qs cs
uses_same rs qs s cs = walk_same rs qs s none 0 cs
