-- M-113, of rules and foldings: rules in another order, those of one pattern keeping theirs, are used alike, where patterns are UTF-8. Assumes nothing.
use Prim.Native.Nat.{ℕ}
use mathlib.Core.Path.{◌≡◌, refl, sym, ap, subst, ◌∙◌}
use mathlib.Core.Bool.{Bool, true, false, cond, false≢true}
use mathlib.Core.Option.{some}
use mathlib.Core.List.{List, [], ◌∷◌, map}
use Rattle.laws.specs.Lists.{every, keep, same}
use Rattle.laws.specs.Once.{once}
use Rattle.laws.proofs.Tests.{and_true}
use Rattle.laws.proofs.Same.{same_equal, equal_same}
use Rattle.chars.specs.Utf8.{chars_of, bytes_of_all}
use Rattle.chars.specs.Letters.{lower_of}
use Rattle.plate.specs.Plate.{Rule, Plate, good_rule, good_plate, of_pattern, same_pattern}
use Rattle.plate.specs.Read.{fold_by}
use Rattle.plate.proofs.Round.{good_is}
use Rattle.coder.specs.Name.{inked, prepared}
use Rattle.coder.specs.Walk.{letters, uses}
use Rattle.coder.proofs.Longest.{pattern_is}
use Rattle.order.specs.First.{rule_for, SameFirsts}
use Rattle.order.specs.Order.{SameRules}
use Rattle.order.proofs.Keeps.{keep_once}
use Rattle.order.proofs.First.{uses_same}
use Rattle.order.proofs.Calls.{UsedAlike}

-- ---- each pattern once

-- Each pattern once, the rules of each are still the same.
pub once_rules : (rs qs : List Rule) → SameRules rs qs → SameRules (once same_pattern rs) (once same_pattern qs)
once_rules rs qs s p = kept rs ∙ ap (once same_pattern) (s p) ∙ sym (kept qs)
  where
    kept : (l : List Rule) → keep (of_pattern p) (once same_pattern l) ≡ once same_pattern (keep (of_pattern p) l)
    kept l = keep_once (of_pattern p) same_pattern (λ r q e. ap (λ (x : List ℕ). same x p) (sym (same_equal q.pattern r.pattern e))) l

-- ---- from bytes of patterns to their characters

-- Good patterns are UTF-8, so those of the same characters are of the same bytes.
for_pattern : (l : List ℕ) (rs : List Rule) → every good_rule rs ≡ true → rule_for l rs ≡ rule_for l (keep (of_pattern (bytes_of_all l)) rs)
for_pattern l [] h = refl
for_pattern l (r ∷ more) h =
    let b = and_true (good_rule r) (every good_rule more) h in
    go (same (letters r) l) refl (of_pattern (bytes_of_all l) r) refl b.0 (for_pattern l more b.1)
  where
    kept : same (letters r) l ≡ true → good_rule r ≡ true → of_pattern (bytes_of_all l) r ≡ true
    kept e g = subst (λ (x : List ℕ). same r.pattern x ≡ true) (pattern_is r g ∙ ap bytes_of_all (same_equal (letters r) l e)) (equal_same r.pattern)

    go : (s : Bool) → same (letters r) l ≡ s → (t : Bool) → of_pattern (bytes_of_all l) r ≡ t → good_rule r ≡ true → rule_for l more ≡ rule_for l (keep (of_pattern (bytes_of_all l)) more)
        → cond s (some r) (rule_for l more) ≡ rule_for l (cond t (r ∷ keep (of_pattern (bytes_of_all l)) more) (keep (of_pattern (bytes_of_all l)) more))
    go true e true f g below = rw e
    go true e false f g below = absurd (false≢true (sym f ∙ kept e g))
    go false e true f g below = rw e below
    go false e false f g below = below

same_firsts : (rs qs : List Rule) → every good_rule rs ≡ true → every good_rule qs ≡ true → SameRules rs qs → SameFirsts rs qs
same_firsts rs qs h k s l = for_pattern l rs h ∙ ap (rule_for l) (s (bytes_of_all l)) ∙ sym (for_pattern l qs k)

-- ---- plates

-- Foldings that fold alike prepare names alike.
prepared_alike : (p q : Plate) → p.flag ≡ q.flag → ((c : ℕ) → fold_by p.foldings c ≡ fold_by q.foldings c) → (name : List ℕ) → prepared p name ≡ prepared q name
prepared_alike p q e h name i = map (λ (c : ℕ). cond (e i) (h (lower_of c) i) (lower_of c)) (keep inked (chars_of name))

-- Plates with the same flag, the same rules of each pattern in the same order and foldings that fold alike are used alike.
pub order_alike : (p q : Plate) → good_plate p ≡ true → good_plate q ≡ true → p.flag ≡ q.flag → ((c : ℕ) → fold_by p.foldings c ≡ fold_by q.foldings c)
    → SameRules p.rules q.rules → UsedAlike p q
order_alike p q g h e f s name =
    uses_same p.rules q.rules (same_firsts p.rules q.rules (good_is p g).rules (good_is q h).rules s) (prepared p name)
    ∙ ap (uses q.rules) (prepared_alike p q e f name)
