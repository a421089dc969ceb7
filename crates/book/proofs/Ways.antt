-- The first fault of a rule: each way out of the tests in 01's order. Assumes nothing.
use Prim.Native.Nat.{ℕ, ◌<◌, ◌≤◌}
use mathlib.Core.Path.{◌≡◌, ◌∙◌, ap}
use mathlib.Core.Bool.{Bool, false}
use mathlib.Core.List.{List, [], ◌∷◌}
use native.Mathlib.Omega.{arith}
use borrow.Author.Tests.{ne_eqb, le-ltb, lt-leb}
use lib.Dec.{ltb, leb, eqb}
use lib.ListN.{length}
use Rattle.plate.specs.Plate.{Rule}
use Rattle.plate.specs.Most.{most_rules}
use Rattle.book.specs.Book.{when, field_fault, rule_fault}
use Rattle.book.specs.Field.{flaw_number}
use Rattle.book.specs.declared.Flaw.{Flaw}
use Rattle.book.specs.declared.Flaw.TheVariants.{EmptyPattern, LongPattern, ManyAlternatives, NotDigits, TooMany}
use Rattle.book.proofs.Faults.{pass}

-- Each has a number that is not 0.
pub numbered : (w : Flaw) → flaw_number w ≡ 0 → ⊥
numbered EmptyPattern e = omega arith
numbered LongPattern e = omega arith
numbered ManyAlternatives e = omega arith
numbered NotDigits e = omega arith
numbered TooMany e = omega arith

when_not : (b : Bool) (n : ℕ) → b ≡ false → when b n ≡ 0
when_not b n e = ap (λ (t : Bool). when t n) e

-- ---- a rule behind n others

module _ (r : Rule) (n : ℕ) where
  abbrev empty : ℕ
  empty = when (eqb (length r.pattern) 0) 4

  abbrev long : ℕ
  long = when (ltb 16 (length r.pattern)) 5

  abbrev full : ℕ
  full = when (leb most_rules n) 8

  -- It passes every test.
  pub rule_fine : (length r.pattern ≡ 0 → ⊥) → length r.pattern ≤ 16 → field_fault r.start ≡ 0 → field_fault r.vowel ≡ 0 → field_fault r.other ≡ 0 → n < most_rules → rule_fault r n ≡ 0
  rule_fine h i s v o j =
      let fields : List ℕ = field_fault r.start ∷ field_fault r.vowel ∷ field_fault r.other ∷ full ∷ [] in
      pass empty (long ∷ fields) (when_not (eqb (length r.pattern) 0) 4 (ne_eqb _ _ h))
      ∙ pass long fields (when_not (ltb 16 (length r.pattern)) 5 (le-ltb 16 (length r.pattern) i))
      ∙ pass (field_fault r.start) (field_fault r.vowel ∷ field_fault r.other ∷ full ∷ []) s
      ∙ pass (field_fault r.vowel) (field_fault r.other ∷ full ∷ []) v
      ∙ pass (field_fault r.other) (full ∷ []) o
      ∙ pass full [] (when_not (leb most_rules n) 8 (lt-leb most_rules n j))
