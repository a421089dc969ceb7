-- The library's comparisons of slices, and the definitions' tests. Assumes nothing.
use Rattle.std.proofs.Common.{ℕ, ◌-◌, ◌<◌, ◌≤◌, ◌≡◌, Bool, true, false, ◌&&◌, eqb, leb, List, length, drop, sym, refl, subst, ◌∙◌, arith, length-drop, le-leb}
use Rattle.std.proofs.lemmas.Bool.{lt-leb}
use Rattle.std.proofs.lemmas.Slice.Eq.{bytes_eq-Decides}
use Rattle.std.specs.Cmp.Lexicographic.{pointwise}
use Rattle.laws.specs.Lists.{same}
use Rattle.laws.proofs.Bits.{by_order}
use Rattle.laws.proofs.Same.{same_equal, equal_same, lengths_differ}
use Rattle.branches.specs.Branches.{ends_with}

-- Two tests of which each passes where the other does are one.
pub alike : (p q : Bool) → (p ≡ true → q ≡ true) → (q ≡ true → p ≡ true) → p ≡ q
alike true q f g = sym (f refl)
alike false true f g = g refl
alike false false f g = refl

-- The library's comparison of two slices is the test that they are the same; it does not matter which comes first.
pub pointwise_same : (xs ys : List ℕ) → pointwise eqb ys xs ≡ same xs ys
pointwise_same xs ys =
    alike (pointwise eqb ys xs) (same xs ys)
    (λ t. subst (λ (l : List ℕ). same xs l ≡ true) (sym ((bytes_eq-Decides ys xs).0 t)) (equal_same xs))
    (λ t. (bytes_eq-Decides ys xs).1 (sym (same_equal xs ys t)))

-- The library's `ends_with` is the definition's: a longer list is no end.
pub ended : (l a : List ℕ) (r : Bool) → r ≡ pointwise eqb a (drop (length l - length a) l) → r ≡ ends_with l a
unfolding ends_with
ended l a r e = by_order (r ≡ ends_with l a) (length l) (length a) longer whole
  where
    end : List ℕ
    end = drop (length l - length a) l

    compared : r ≡ same end a
    compared = e ∙ pointwise_same end a

    longer : length l < length a → r ≡ leb (length a) (length l) && same end a
    longer h =
        let n = length-drop (length l - length a) l in
        rw (lt-leb (length a) (length l) h) (compared ∙ lengths_differ end a (λ (x : length end ≡ length a). absurd (omega arith)))

    whole : length a ≤ length l → r ≡ leb (length a) (length l) && same end a
    whole h = rw (le-leb (length a) (length l) h) compared
