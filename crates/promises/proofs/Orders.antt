-- `Reordered` is what it should be: symmetric, holds for a swap of two neighbours that are no rivals and for no swap of rivals, and it is what such swaps
-- generate. Assumes nothing.
use Prim.Native.Nat.{ℕ}
use mathlib.Core.Path.{◌≡◌, refl, sym, ap, subst, ◌∙◌}
use mathlib.Core.Bool.{Bool, true, false, cond, not, false≢true}
use mathlib.Core.List.{List, [], ◌∷◌, ◌++◌}
use borrow.Author.Tests.{eq-eqb, eqb-true, not-true}
use Rattle.laws.specs.Lists.{every, keep}
use Rattle.laws.proofs.Tests.{and_true, both_true}
use Rattle.laws.proofs.Many.{every_append}
use Rattle.laws.proofs.Same.{same_equal, equal_same}
use Rattle.rule_text.specs.Items.{Saying}
use Rattle.rule_text.specs.Items.Saying.{RuleItem, FoldingItem, LineEndItem, CommentItem, UnknownItem}
use Rattle.promises.specs.Order.{pattern_is, key_is, Reordered, rivals, telling, Swaps, Permutes}
use Rattle.promises.specs.Order.Swaps.{Done, Both, Swap, Then}
use Rattle.order.proofs.Keeps.{all_kept}

-- ---- an equivalence

reordered_refl : (is : List Saying) → Reordered is is
reordered_refl is = record { rules = λ p. refl; foldings = λ k. refl }

reordered_sym : (is js : List Saying) → Reordered is js → Reordered js is
reordered_sym is js h = record { rules = λ p. sym (h.rules p); foldings = λ k. sym (h.foldings k) }

reordered_trans : (is js ks : List Saying) → Reordered is js → Reordered js ks → Reordered is ks
reordered_trans is js ks h g = record { rules = λ p. h.rules p ∙ g.rules p; foldings = λ k. h.foldings k ∙ g.foldings k }

-- ---- one more in front of both, and one less

keep_cons : (t : Saying → Bool) (i : Saying) (is js : List Saying) → keep t is ≡ keep t js → keep t (i ∷ is) ≡ keep t (i ∷ js)
keep_cons t i is js e = ap (λ (l : List Saying). cond (t i) (i ∷ l) l) e

reordered_cons : (i : Saying) (is js : List Saying) → Reordered is js → Reordered (i ∷ is) (i ∷ js)
reordered_cons i is js h = record { rules = λ p. keep_cons (pattern_is p) i is js (h.rules p); foldings = λ k. keep_cons (key_is k) i is js (h.foldings k) }

abbrev behind : List Saying → List Saying
behind [] = []
behind (i ∷ is) = is

keep_less : (t : Saying → Bool) (i : Saying) (is js : List Saying) → keep t (i ∷ is) ≡ keep t (i ∷ js) → keep t is ≡ keep t js
keep_less t i is js e = go (t i) e
  where
    go : (b : Bool) → cond b (i ∷ keep t is) (keep t is) ≡ cond b (i ∷ keep t js) (keep t js) → keep t is ≡ keep t js
    go true e = ap behind e
    go false e = e

reordered_less : (i : Saying) (is js : List Saying) → Reordered (i ∷ is) (i ∷ js) → Reordered is js
reordered_less i is js h = record { rules = λ p. keep_less (pattern_is p) i is js (h.rules p); foldings = λ k. keep_less (key_is k) i is js (h.foldings k) }

-- ---- two neighbours that are no rivals

-- Of two that are no rivals not both are rules of one pattern, nor foldings of one key.
not_both_rules : (p : List ℕ) (i j : Saying) → rivals i j ≡ false → pattern_is p i ≡ true → pattern_is p j ≡ false
not_both_rules p (RuleItem q s v o) j h e = subst (λ (x : List ℕ). pattern_is x j ≡ false) (same_equal q p e) h
not_both_rules p (FoldingItem key target) j h e = absurd (false≢true e)
not_both_rules p LineEndItem j h e = absurd (false≢true e)
not_both_rules p CommentItem j h e = absurd (false≢true e)
not_both_rules p UnknownItem j h e = absurd (false≢true e)

not_both_foldings : (k : ℕ) (i j : Saying) → rivals i j ≡ false → key_is k i ≡ true → key_is k j ≡ false
not_both_foldings k (RuleItem q s v o) j h e = absurd (false≢true e)
not_both_foldings k (FoldingItem key target) j h e = subst (λ (x : ℕ). key_is x j ≡ false) (eqb-true key k e) h
not_both_foldings k LineEndItem j h e = absurd (false≢true e)
not_both_foldings k CommentItem j h e = absurd (false≢true e)
not_both_foldings k UnknownItem j h e = absurd (false≢true e)

keep_swap : (t : Saying → Bool) (i j : Saying) (is : List Saying) → (t i ≡ true → t j ≡ false) → keep t (i ∷ j ∷ is) ≡ keep t (j ∷ i ∷ is)
keep_swap t i j is h = go (t i) (t j) h
  where
    go : (a b : Bool) → (a ≡ true → b ≡ false)
        → cond a (i ∷ cond b (j ∷ keep t is) (keep t is)) (cond b (j ∷ keep t is) (keep t is)) ≡ cond b (j ∷ cond a (i ∷ keep t is) (keep t is)) (cond a (i ∷ keep t is) (keep t is))
    go true true h = absurd (false≢true (sym (h refl)))
    go true false h = refl
    go false b h = refl

swap_reordered : (i j : Saying) (is : List Saying) → rivals i j ≡ false → Reordered (i ∷ j ∷ is) (j ∷ i ∷ is)
swap_reordered i j is h = record {
  rules = λ p. keep_swap (pattern_is p) i j is (not_both_rules p i j h);
  foldings = λ k. keep_swap (key_is k) i j is (not_both_foldings k i j h);
}

-- Two neighbours that are no rivals may be swapped anywhere.
pub neighbours : (is js : List Saying) (i j : Saying) → rivals i j ≡ false → Reordered (is ++ (i ∷ j ∷ js)) (is ++ (j ∷ i ∷ js))
neighbours [] js i j h = swap_reordered i j js h
neighbours (x ∷ is) js i j h = reordered_cons x (is ++ (i ∷ j ∷ js)) (is ++ (j ∷ i ∷ js)) (neighbours is js i j h)

-- ---- two rivals

abbrev first : Saying → List Saying → Saying
first d [] = d
first d (i ∷ is) = i

rival_self : (i : Saying) → telling i ≡ true → rivals i i ≡ true
rival_self (RuleItem p s v o) e = equal_same p
rival_self (FoldingItem key target) e = eq-eqb key key refl
rival_self LineEndItem e = absurd (false≢true e)
rival_self CommentItem e = absurd (false≢true e)
rival_self UnknownItem e = absurd (false≢true e)

rival_tells : (i j : Saying) → rivals i j ≡ true → telling i ≡ true
rival_tells (RuleItem p s v o) j e = refl
rival_tells (FoldingItem key target) j e = refl
rival_tells LineEndItem j e = e
rival_tells CommentItem j e = e
rival_tells UnknownItem j e = e

-- The rivals of an item are the same.
rivals_same : (is js : List Saying) → Reordered is js → (i : Saying) → telling i ≡ true → keep (rivals i) is ≡ keep (rivals i) js
rivals_same is js h (RuleItem p s v o) e = h.rules p
rivals_same is js h (FoldingItem key target) e = h.foldings key
rivals_same is js h LineEndItem e = absurd (false≢true e)
rivals_same is js h CommentItem e = absurd (false≢true e)
rivals_same is js h UnknownItem e = absurd (false≢true e)

-- A swap of two rivals is no such order, unless they are equal: two rules of one pattern must keep theirs, and two foldings of one key.
pub rivals_stay_lem : (is js : List Saying) (i j : Saying) → rivals i j ≡ true → Reordered (is ++ (i ∷ j ∷ js)) (is ++ (j ∷ i ∷ js)) → i ≡ j
rivals_stay_lem (x ∷ is) js i j h r = rivals_stay_lem is js i j h (reordered_less x (is ++ (i ∷ j ∷ js)) (is ++ (j ∷ i ∷ js)) r)
rivals_stay_lem [] js i j h r =
    let e = rivals_same (i ∷ j ∷ js) (j ∷ i ∷ js) r i (rival_tells i j h) in
    ap (first i) (rw (h, rival_self i (rival_tells i j h)) at e)

-- ---- the same by swaps

swaps_refl : (is : List Saying) → Swaps is is
swaps_refl [] = Done
swaps_refl (i ∷ is) = Both i (swaps_refl is)

-- Swaps of neighbours that are no rivals keep the order of each pattern and of each key.
swaps_keep : (is js : List Saying) → Swaps is js → Reordered is js
swaps_keep is js Done = reordered_refl []
swaps_keep is js (Both i {is = xs} {js = ys} s) = reordered_cons i xs ys (swaps_keep xs ys s)
swaps_keep is js (Swap i j l h) = swap_reordered i j l h
swaps_keep is js (Then {js = xs} s t) = reordered_trans is xs js (swaps_keep is xs s) (swaps_keep xs js t)

-- The first that passes, and those before it.
split : (t : Saying → Bool) (i : Saying) (rest js : List Saying) → keep t js ≡ i ∷ rest → (xs ys : List Saying) × (js ≡ xs ++ (i ∷ ys)) × (every (λ x. not (t x)) xs ≡ true)
split t i rest [] e = absurd (no_item e)
  where
    any : List Saying → Bool
    any [] = false
    any (x ∷ xs) = true

    no_item : [] ≡ i ∷ rest → ⊥
    no_item e = false≢true (ap any e)
split t i rest (j ∷ js) e = go (t j) refl e (split t i rest js)
  where
    go : (b : Bool) → t j ≡ b → cond b (j ∷ keep t js) (keep t js) ≡ i ∷ rest → (keep t js ≡ i ∷ rest → (xs ys : List Saying) × (js ≡ xs ++ (i ∷ ys)) × (every (λ x. not (t x)) xs ≡ true))
        → (xs ys : List Saying) × (j ∷ js ≡ xs ++ (i ∷ ys)) × (every (λ x. not (t x)) xs ≡ true)
    go true f e below = ([], js, ap (λ (x : Saying). x ∷ js) (ap (first i) e), refl)
    go false f e below =
        let s = below e in
        (j ∷ s.0, s.1, ap (λ (l : List Saying). j ∷ l) s.2, both_true (ap not f) s.3)

-- An item moves past those that are no rivals of it.
move : (i : Saying) (xs ys : List Saying) → every (λ x. not (rivals i x)) xs ≡ true → Swaps (i ∷ (xs ++ ys)) (xs ++ (i ∷ ys))
move i [] ys h = swaps_refl (i ∷ ys)
move i (x ∷ xs) ys h =
    let b = and_true (not (rivals i x)) (every (λ z. not (rivals i z)) xs) h in
    Then (Swap i x (xs ++ ys) (not-true (rivals i x) b.0)) (Both x (move i xs ys b.1))

without : (i : Saying) (xs ys : List Saying) → every telling (xs ++ (i ∷ ys)) ≡ true → every telling (xs ++ ys) ≡ true
without i xs ys h =
    let b = and_true (every telling xs) (every telling (i ∷ ys)) (sym (every_append telling xs (i ∷ ys)) ∙ h) in
    every_append telling xs ys ∙ both_true b.0 (and_true (telling i) (every telling ys) b.1).1

-- Every such order of rules and foldings comes by such swaps.
keep_swaps : (is js : List Saying) → every telling is ≡ true → every telling js ≡ true → Reordered is js → Swaps is js
keep_swaps [] [] a b h = Done
keep_swaps [] (j ∷ js) a b h =
    let t = (and_true (telling j) (every telling js) b).0 in
    let s = split (rivals j) j (keep (rivals j) js) [] (rivals_same [] (j ∷ js) h j t ∙ rw (rival_self j t)) in
    absurd (none s.0 s.1 s.2)
  where
    any : List Saying → Bool
    any [] = false
    any (x ∷ xs) = true

    none : (xs ys : List Saying) → [] ≡ xs ++ (j ∷ ys) → ⊥
    none [] ys e = false≢true (ap any e)
    none (x ∷ xs) ys e = false≢true (ap any e)
keep_swaps (i ∷ is) js a b h =
    let t = and_true (telling i) (every telling is) a in
    let s = split (rivals i) i (keep (rivals i) is) js (sym (rivals_same (i ∷ is) js h i t.0) ∙ rw (rival_self i t.0)) in
    let xs = s.0 in
    let ys = s.1 in
    let m = move i xs ys s.3 in
    let h' : Reordered (i ∷ is) (xs ++ (i ∷ ys)) = subst (Reordered (i ∷ is)) s.2 h in
    let r = reordered_less i is (xs ++ ys)
    (reordered_trans (i ∷ is) (xs ++ (i ∷ ys)) (i ∷ (xs ++ ys)) h' (reordered_sym (i ∷ (xs ++ ys)) (xs ++ (i ∷ ys)) (swaps_keep (i ∷ (xs ++ ys)) (xs ++ (i ∷ ys)) m))) in
    let c = without i xs ys (subst (λ (l : List Saying). every telling l ≡ true) s.2 b) in
    subst (Swaps (i ∷ is)) (sym s.2) (Then (Both i (keep_swaps is (xs ++ ys) t.1 c r)) m)

-- ---- line ends and comments do not matter

keep_telling : (t : Saying → Bool) → ((i : Saying) → t i ≡ true → telling i ≡ true) → (is : List Saying) → keep t (keep telling is) ≡ keep t is
keep_telling t f [] = refl
keep_telling t f (i ∷ is) = go (t i) (telling i) refl refl (f i) (keep_telling t f is)
  where
    go : (a b : Bool) → t i ≡ a → telling i ≡ b → (t i ≡ true → telling i ≡ true) → keep t (keep telling is) ≡ keep t is
        → keep t (cond b (i ∷ keep telling is) (keep telling is)) ≡ cond a (i ∷ keep t is) (keep t is)
    go true true e g h below = rw e (ap (λ (l : List Saying). i ∷ l) below)
    go true false e g h below = absurd (false≢true (sym g ∙ h e))
    go false true e g h below = rw e below
    go false false e g h below = below

rule_tells : (p : List ℕ) (i : Saying) → pattern_is p i ≡ true → telling i ≡ true
rule_tells p (RuleItem q s v o) e = refl
rule_tells p (FoldingItem key target) e = refl
rule_tells p LineEndItem e = e
rule_tells p CommentItem e = e
rule_tells p UnknownItem e = e

folding_tells : (k : ℕ) (i : Saying) → key_is k i ≡ true → telling i ≡ true
folding_tells k (RuleItem q s v o) e = refl
folding_tells k (FoldingItem key target) e = refl
folding_tells k LineEndItem e = e
folding_tells k CommentItem e = e
folding_tells k UnknownItem e = e

told_reordered : (is : List Saying) → Reordered (keep telling is) is
told_reordered is = record { rules = λ p. keep_telling (pattern_is p) (rule_tells p) is; foldings = λ k. keep_telling (key_is k) (folding_tells k) is }

-- ---- both definitions agree

swaps_reordered : (is js : List Saying) → Swaps (keep telling is) (keep telling js) → Reordered is js
swaps_reordered is js s =
    reordered_trans is (keep telling is) js (reordered_sym (keep telling is) is (told_reordered is))
    (reordered_trans (keep telling is) (keep telling js) js (swaps_keep (keep telling is) (keep telling js) s) (told_reordered js))

reordered_swaps : (is js : List Saying) → Reordered is js → Swaps (keep telling is) (keep telling js)
reordered_swaps is js h =
    let back = reordered_trans is js (keep telling js) h (reordered_sym (keep telling js) js (told_reordered js)) in
    keep_swaps (keep telling is) (keep telling js) (all_kept telling is) (all_kept telling js) (reordered_trans (keep telling is) is (keep telling js) (told_reordered is) back)

pub permutes : Permutes
permutes = record {
  symmetric = reordered_sym;
  transitive = reordered_trans;
  neighbours = neighbours;
  rivals_stay = rivals_stay_lem;
  by_swaps = reordered_swaps;
  of_swaps = swaps_reordered;
}
