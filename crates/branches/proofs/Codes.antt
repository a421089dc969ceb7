-- The first branch of each code: what the loop of `once_each` goes by. Assumes nothing.
use Rattle.std.proofs.Common.{ℕ, suc, ◌+◌, ◌<◌, ◌≡◌, Bool, true, false, cond, ◌||◌, eqb, List, [], ◌∷◌, ◌++◌, map, length, drop, get_or, sym, refl, ap, ap₂, ◌∙◌, arith, add-one}
use Rattle.std.specs.List.{list_any}
use Rattle.std.specs.Cmp.Lexicographic.{pointwise}
use lib.Seq.{drop-cons}
use Rattle.laws.specs.Lists.{same}
use Rattle.laws.specs.Once.{among, merge, once}
use Rattle.laws.proofs.Many.{map_snoc}
use Rattle.branches.specs.Branches.{Branch, code}
use Rattle.branches.proofs.Extending.{pointwise_same}

among_codes : (c : List ℕ) (l : List Branch) → list_any (λ b. pointwise eqb (code b) c) l ≡ among same c (map code l)
among_codes c [] = refl
among_codes c (b ∷ l) = ap₂ ◌||◌ (pointwise_same c (code b)) (among_codes c l)

-- What `has_code` tells of the branches it is lent is whether a branch's code is among theirs.
pub has_code : (b : Branch) (l : List Branch) (c : List ℕ) → c ≡ code b → (lent : List Branch) → lent ≡ l → (r : Bool) → r ≡ list_any (λ d. pointwise eqb (code d) c) lent
    → among same (code b) (map code l) ≡ r
has_code b l c e lent s r f =
    ap (λ (k : List ℕ). among same k (map code l)) (sym e) ∙ ap (λ (bs : List Branch). among same c (map code bs)) (sym s) ∙ sym (among_codes c lent) ∙ sym f

-- At most one code is listed as it is.
pub once_one : (l : List (List ℕ)) → length l < 2 → l ≡ once same l
once_one [] h = refl
once_one (c ∷ []) h = refl
once_one (c ∷ d ∷ l) h = absurd (omega arith)

-- The branch at i is dropped or kept.
module _ (items so : List Branch) (i : ℕ) (wanted : List (List ℕ)) (e : merge same (map code so) (map code (drop i items)) ≡ wanted)
    (b : Branch) (is : b ≡ get_or items i b) (h : i < length items) where
  turn : merge same (cond (among same (code b) (map code so)) (map code so) (map code so ++ (code b ∷ []))) (map code (drop (i + 1) items)) ≡ wanted
  turn =
      let here : drop i items ≡ b ∷ drop (i + 1) items = rw add-one (drop-cons items i b h ∙ ap (λ (x : Branch). x ∷ drop (suc i) items) (sym is)) in
      ap (λ (l : List Branch). merge same (map code so) (map code l)) (sym here) ∙ e

  pub code_dropped : among same (code b) (map code so) ≡ true → merge same (map code so) (map code (drop (i + 1) items)) ≡ wanted
  code_dropped t = rw t at turn

  pub code_kept : among same (code b) (map code so) ≡ false → (to : List Branch) → to ≡ so ++ (b ∷ []) → merge same (map code to) (map code (drop (i + 1) items)) ≡ wanted
  code_kept t to f = ap (λ (l : List Branch). merge same (map code l) (map code (drop (i + 1) items))) f ∙ ap (λ (l : List (List ℕ)). merge same l (map code (drop (i + 1) items))) (map_snoc code so b) ∙ rw t at turn
