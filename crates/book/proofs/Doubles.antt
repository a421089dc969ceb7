-- A pattern that is noted has a hash that was met, and the hash that its key holds: so where one of the two tells, no rule noted has it. Assumes nothing.
use Prim.Native.Nat.{ℕ}
use mathlib.Core.Path.{◌≡◌, refl, sym, ◌∙◌, ap}
use mathlib.Core.Bool.{Bool, true, false, ◌||◌, false≢true}
use mathlib.Core.List.{List, [], ◌∷◌}
use lib.ListN.{length}
use Rattle.laws.specs.Lists.{some}
use Rattle.laws.proofs.Same.{same_equal}
use Rattle.plate.specs.Plate.{Rule, first_code, of_pattern}
use Rattle.book.specs.Seen.{hash_of, may_hold}
use Rattle.book.specs.Note.{place_in, hash_in, rules_in, Sure, AllSure, AllMarked}
use Rattle.book.proofs.Hashes.{hash_small}
use Rattle.book.proofs.Keys.{key_hash}

refuted : (t : Bool) → (t ≡ true → ⊥) → t ≡ false
refuted true f = absurd (f refl)
refuted false f = refl

module _ (view : ℕ → Rule) (at : ℕ) (p : List ℕ) where
  -- A key holds the hash of its rule's pattern.
  hash_held : (k : ℕ) → Sure view at k → hash_in k ≡ hash_of (view (place_in k)).pattern
  hash_held k s =
      let r = view (place_in k) in
      ap hash_in s.is ∙ key_hash (first_code r) (length r.pattern) (place_in k) (hash_of r.pattern) (hash_small r.pattern)

  hash_shared : (k : ℕ) → Sure view at k → of_pattern p (view (place_in k)) ≡ true → hash_in k ≡ hash_of p
  hash_shared k s e = hash_held k s ∙ ap hash_of (same_equal (view (place_in k)).pattern p e)

  -- A key of another hash stands for a rule of another pattern.
  pub other_hash : (k : ℕ) → Sure view at k → (hash_in k ≡ hash_of p → ⊥) → of_pattern p (view (place_in k)) ≡ false
  other_hash k s differ = refuted (of_pattern p (view (place_in k))) (λ e. differ (hash_shared k s e))

  -- A pattern whose hash was not met is none of those noted.
  pub none_met : (seen l : List ℕ) → AllSure view at l → AllMarked seen l → may_hold seen (hash_of p) ≡ false → some (of_pattern p) (rules_in view l) ≡ false
  none_met seen [] s a e = refl
  none_met seen (k ∷ l) s a e =
      let first = other_hash k s.0 (λ h. false≢true (sym e ∙ ap (may_hold seen) (sym h) ∙ a.0)) in
      ap (λ (t : Bool). t || some (of_pattern p) (rules_in view l)) first ∙ none_met seen l s.1 a.1 e
