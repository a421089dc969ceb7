-- The first fault of a list, and what a rule without fault is. Assumes nothing.
use Prim.Native.Nat.{ℕ, zero, suc, ◌<◌, ◌≤◌}
use mathlib.Core.Path.{◌≡◌, refl, ◌∙◌}
use mathlib.Core.Bool.{Bool, true, false, cond}
use mathlib.Core.List.{List, [], ◌∷◌}
use native.Mathlib.Omega.{arith}
use borrow.Author.Tests.{eqb-false, ltb-false, leb-false}
use lib.Dec.{ltb, leb, eqb, lit<}
use lib.ListN.{length}
use Rattle.laws.specs.Lists.{every}
use Rattle.chars.specs.Digits.{is_alternative}
use Rattle.plate.specs.Plate.{Rule}
use Rattle.plate.specs.Most.{most_rules}
use Rattle.book.specs.Book.{when, first_fault, field_fault, rule_fault}

-- A field without fault has at most 8 alternatives, and each is one.
pub field_fine : (f : List (List ℕ)) → field_fault f ≡ 0 → (leb (length f) 8 ≡ true) × (every is_alternative f ≡ true)
field_fine f e = go (leb (length f) 8) (every is_alternative f) e
  where
    go : (few digits : Bool) → ◌≡◌ {A = ℕ} (cond few (cond digits 0 7) 6) 0 → (few ≡ true) × (digits ≡ true)
    go true true z = (refl, refl)
    go true false z = absurd (omega arith)
    go false digits z = absurd (omega arith)

pub field_digits : (f : List (List ℕ)) → field_fault f ≡ 0 → every is_alternative f ≡ true
field_digits f e = (field_fine f e).1

-- ---- the first fault of a list

pub pass : (a : ℕ) (more : List ℕ) → a ≡ 0 → first_fault (a ∷ more) ≡ first_fault more
pass zero more e = refl
pass (suc a) more e = absurd (omega arith)

-- each is 0
abbrev Zeros : List ℕ → Type 0
Zeros [] = Unit {0}
Zeros (n ∷ more) = (n ≡ 0) × Zeros more

no_fault : (l : List ℕ) → first_fault l ≡ 0 → Zeros l
no_fault [] e = tt
no_fault (zero ∷ more) e = (refl, no_fault more e)
no_fault (suc n ∷ more) e = absurd (omega arith)

no_faults : (l : List ℕ) → Zeros l → first_fault l ≡ 0
no_faults [] z = refl
no_faults (n ∷ more) z = pass n more z.0 ∙ no_faults more z.1

pub not_when : (b : Bool) (n : ℕ) → 0 < n → when b n ≡ 0 → b ≡ false
not_when true n h e = absurd (omega arith)
not_when false n h e = refl

-- What a rule without fault is: it has none as the first rule either.
pub record Clean (r : Rule) (n : ℕ) : Type 0 where
  pub filled : length r.pattern ≡ 0 → ⊥
  pub short : length r.pattern ≤ 16
  pub few : n < most_rules
  pub start : field_fault r.start ≡ 0
  pub vowel : field_fault r.vowel ≡ 0
  pub other : field_fault r.other ≡ 0
  pub first : rule_fault r 0 ≡ 0

pub clean : (r : Rule) (n : ℕ) → rule_fault r n ≡ 0 → Clean r n
clean r n e =
    let p = length r.pattern in
    let front : ℕ → List ℕ = λ (k : ℕ).
    when (eqb p 0) 4 ∷ when (ltb 16 p) 5 ∷ field_fault r.start ∷ field_fault r.vowel ∷ field_fault r.other ∷ when (leb most_rules k) 8 ∷ []
    in
    let z = no_fault (front n) e in
    record {
      filled = eqb-false p 0 (not_when (eqb p 0) 4 (lit< tt) z.0);
      short = ltb-false 16 p (not_when (ltb 16 p) 5 (lit< tt) z.1.0);
      few = leb-false most_rules n (not_when (leb most_rules n) 8 (lit< tt) z.1.1.1.1.1.0);
      start = z.1.1.0;
      vowel = z.1.1.1.0;
      other = z.1.1.1.1.0;
      first = no_faults (front 0) (z.0, (z.1.0, (z.1.1.0, (z.1.1.1.0, (z.1.1.1.1.0, (refl, tt))))));
    }
