-- The search, one rule and one character at a time: a rule whose pattern begins the characters is taken, any other is passed, and its first character tells
-- whether it belongs to the group. Assumes nothing.
use Prim.Native.Nat.{ℕ, ◌+◌, ◌≤◌, ◌<◌}
use mathlib.Core.Path.{◌≡◌, refl, ap, ◌∙◌}
use mathlib.Core.Bool.{Bool, true, false, ◌||◌}
use mathlib.Core.List.{List, [], ◌∷◌}
use native.Mathlib.Omega.{arith}
use native.Mathlib.Numerals.{add-one}
use borrow.Author.Tests.{eq-eqb, ne_eqb}
use lib.ListN.{length, drop, get_or, drop_of_length-le}
use lib.Seq.{drop-cons}
use Rattle.laws.specs.Lists.{begins}
use Rattle.laws.proofs.Tests.{or_false, or_right}
use Rattle.chars.specs.Utf8.{chars_from}
use Rattle.plate.specs.Plate.{Rule}
use Rattle.plate.specs.Read.{pattern_at, rule_at}
use Rattle.plate.specs.Stands.{letters_from}
use Rattle.coder.specs.Walk.{letters, starts_with}
use Rattle.coder.specs.Search.{hit_from}
use Rattle.coder.specs.Search.Hit.{Taken, None}
use Rattle.coder.specs.Held.{hit_at}

-- ---- what is left of a pattern, against the characters from place j on

module _ (q cs : List ℕ) (j : ℕ) where
  pub all : q ≡ [] → begins q (drop j cs) ≡ true
  all e = ap (λ (l : List ℕ). begins l (drop j cs)) e

  module _ (p : ℕ) (more : List ℕ) (e : q ≡ p ∷ more) where
    pub ends : length cs ≤ j → begins q (drop j cs) ≡ false
    ends g = rw (e, drop_of_length-le cs g)

    pub differs : j < length cs → (p ≡ get_or cs j 0 → ⊥) → begins q (drop j cs) ≡ false
    differs g d = rw (e, drop-cons cs j 0 g, ne_eqb p (get_or cs j 0) d)

    pub agrees : j < length cs → p ≡ get_or cs j 0 → begins more (drop (j + 1) cs) ≡ begins q (drop j cs)
    agrees g d = rw (e, drop-cons cs j 0 g, eq-eqb p (get_or cs j 0) d, add-one)

-- ---- one rule of the search

module _ (rs : List Rule) (known : Bool) where
  pub hit_end : (cs : List ℕ) → rs ≡ [] → hit_at known rs cs ≡ None known
  unfolding hit_at hit_from
  hit_end [] e = refl
  hit_end (c ∷ cs) e = rw e

  module _ (r : Rule) (more : List Rule) (e : rs ≡ r ∷ more) where
    pub hit : (cs : List ℕ) → 0 < length cs → begins (letters r) cs ≡ true → hit_at known rs cs ≡ Taken r
    unfolding hit_at hit_from
    hit [] g b = absurd (omega arith)
    hit (c ∷ cs) g b = rw (e, b)

    passes : (c : ℕ) (cs : List ℕ) (s : Bool) → begins (letters r) (c ∷ cs) ≡ false → starts_with c (letters r) ≡ s
        → hit_at known rs (c ∷ cs) ≡ hit_at (known || s) more (c ∷ cs)
    unfolding hit_at hit_from
    passes c cs s b f = rw (e, b, f)

    -- Its first character is another.
    pub other : (cs : List ℕ) (p : ℕ) (ps : List ℕ) → letters r ≡ p ∷ ps → 0 < length cs → (p ≡ get_or cs 0 0 → ⊥) → hit_at known rs cs ≡ hit_at known more cs
    other [] p ps f g d = absurd (omega arith)
    other (c ∷ cs) p ps f g d =
        passes c cs false (differs (letters r) (c ∷ cs) 0 p ps f g d) (ap (starts_with c) f ∙ ne_eqb p c d)
        ∙ ap (λ (b : Bool). hit_at b more (c ∷ cs)) (or_false known)

    -- Its first character agrees, but not all.
    pub miss : (cs : List ℕ) (p : ℕ) (ps : List ℕ) → letters r ≡ p ∷ ps → 0 < length cs → p ≡ get_or cs 0 0 → begins (letters r) cs ≡ false
        → hit_at known rs cs ≡ hit_at true more cs
    miss [] p ps f g d b = absurd (omega arith)
    miss (c ∷ cs) p ps f g d b =
        passes c cs true b (ap (starts_with c) f ∙ eq-eqb p c d) ∙ ap (λ (t : Bool). hit_at t more (c ∷ cs)) (or_right known true refl)

-- ---- the characters of a pattern, from its first byte on and behind its last

module _ (s : List ℕ) (at : ℕ) where
  pub pattern_start : letters_from s at 0 ≡ letters (rule_at s at)
  unfolding letters_from
  pattern_start = refl

  pub pattern_end : (k : ℕ) → length (pattern_at s at) ≤ k → letters_from s at k ≡ []
  unfolding letters_from chars_from
  pattern_end k h = rw (drop_of_length-le (pattern_at s at) h)
