-- The counts of specs as std's words on lists, for who calls `position`, `filter` or `count`. Assumes nothing.
use Rattle.std.proofs.Common.{◌≡◌, ℕ, suc, ◌+◌, List, eqb, cond, refl, ap, arith}
use Rattle.std.specs.List.{count_by, position_or_len}
use Rattle.std.proofs.lemmas.List.Recursion.{is_count_by, is_position_or_len}
use Rattle.laws.specs.Lists.{until, count_of}

suc-one : (n : ℕ) → suc n ≡ 1 + n
suc-one n = omega arith

module _ (b : ℕ) (l : List ℕ) where
  -- What stands before the first b ends at its place, or at the end.
  pub until_is : until b l ≡ position_or_len (λ x. eqb x b) l
  unfolding until
  until_is = is_position_or_len (until b) (λ x. eqb x b) refl (λ x xs. ap (cond (eqb x b) 0) (suc-one (until b xs))) l

  pub count_of_is : count_of b l ≡ count_by (λ x. eqb x b) l
  unfolding count_of
  count_of_is = is_count_by (count_of b) (λ x. eqb x b) refl (λ x xs. ap (λ n. cond (eqb x b) n (count_of b xs)) (suc-one (count_of b xs))) l
