-- Codes of six bytes joined by bars, in front of a buffer: where each stands, where the bars stand, and what is behind. Assumes nothing.
use Prim.Native.Nat.{ℕ, zero, suc, ◌+◌, ◌-◌, ◌*◌, ◌<◌, ◌≤◌}
use mathlib.Core.Path.{◌≡◌, refl, sym, ap, ◌∙◌}
use mathlib.Core.Logic.{inl, inr}
use mathlib.Core.List.{List, [], ◌∷◌, ◌++◌, append_assoc}
use native.Mathlib.Omega.{arith}
use lib.ListN.{length, take, drop, get_or, length-append, length-drop}
use lib.Seq.{drop_at, drop-drop, get_or-drop, get_or-append-add}
use Rattle.laws.specs.Lists.{In}
use Rattle.laws.specs.Arrays.{Each}
use Rattle.coder.specs.Answer.{joined}
use Rattle.coder.proofs.Joined.{Six, length_joined}
use Rattle.ward.proofs.Front.{front, others}

-- ---- members and places

pub in_place : {A : Type 0} (x d : A) (l : List A) → In x l → (k : ℕ) × (k < length l) × (get_or l k d ≡ x)
in_place {A = A} x d [] h = elim h [ ]
in_place x d (y ∷ l) (inl e) = (0, omega arith, sym e)
in_place x d (y ∷ l) (inr h) = let r = in_place x d l h in let b = r.1 in (suc r.0, omega arith, r.2)

pub place_in : {A : Type 0} (d : A) (l : List A) (k : ℕ) → k < length l → In (get_or l k d) l
place_in d [] k h = absurd (omega arith)
place_in d (y ∷ l) zero h = inl refl
place_in d (y ∷ l) (suc k) h = inr (place_in d l k (omega arith))

pub each_place : {A : Type 0} (P : A → Type 0) (d : A) (l : List A) → Each P l → (k : ℕ) → k < length l → P (get_or l k d)
each_place P d [] e k h = absurd (omega arith)
each_place P d (y ∷ l) e zero h = e.0
each_place P d (y ∷ l) e (suc k) h = each_place P d l e.1 k (omega arith)

-- ---- codes in front of other bytes

next : (k : ℕ) (l : List ℕ) → drop (7 * suc k) l ≡ drop (7 * k) (drop 7 l)
next k l = ap (λ (n : ℕ). drop n l) {x = 7 * suc k} {y = 7 + 7 * k} (omega arith) ∙ sym (drop-drop (7 * k) 7 l)

pub code_placed : (cs : List (List ℕ)) → Six cs → (rest : List ℕ) (k : ℕ) → k < length cs → take 6 (drop (7 * k) (joined cs ++ rest)) ≡ get_or cs k []
code_placed [] six rest k h = absurd (omega arith)
code_placed (c ∷ cs) six rest zero h = front c cs rest six.0
code_placed (c ∷ []) six rest (suc k) h = absurd (omega arith)
code_placed (c ∷ d ∷ cs) six rest (suc k) h =
    ap (take 6) (next k (joined (c ∷ d ∷ cs) ++ rest) ∙ ap (drop (7 * k)) (others c d cs rest six.0)) ∙ code_placed (d ∷ cs) six.1 rest k (omega arith)

pub bar_placed : (cs : List (List ℕ)) → Six cs → (rest : List ℕ) (k : ℕ) → k + 1 < length cs → get_or (joined cs ++ rest) (7 * k + 6) 0 ≡ 124
unfolding joined
bar_placed [] six rest k h = absurd (omega arith)
bar_placed (c ∷ []) six rest k h = absurd (omega arith)
bar_placed (c ∷ d ∷ cs) six rest zero h =
    let e = six.0 in
    let at : 6 ≡ length c + 0 = omega arith in
    ap (λ (l : List ℕ). get_or l 6 0) (append_assoc c (124 ∷ joined (d ∷ cs)) rest)
    ∙ ap (λ (n : ℕ). get_or (c ++ (124 ∷ (joined (d ∷ cs) ++ rest))) n 0) at
    ∙ get_or-append-add c (124 ∷ (joined (d ∷ cs) ++ rest)) 0 0
bar_placed (c ∷ d ∷ cs) six rest (suc k) h =
    let at : 7 * suc k + 6 ≡ 7 + (7 * k + 6) = omega arith in
    ap (λ (n : ℕ). get_or (joined (c ∷ d ∷ cs) ++ rest) n 0) at
    ∙ sym (get_or-drop 7 (joined (c ∷ d ∷ cs) ++ rest) (7 * k + 6) 0)
    ∙ ap (λ (l : List ℕ). get_or l (7 * k + 6) 0) (others c d cs rest six.0)
    ∙ bar_placed (d ∷ cs) six.1 rest k (omega arith)

-- ---- and the lent bytes behind them

module _ (cs : List (List ℕ)) (six : Six cs) (lent : List ℕ) (fits : 7 * length cs - 1 ≤ length lent) where
  pub as_lent : drop (7 * length cs - 1) (joined cs ++ drop (length (joined cs)) lent) ≡ drop (7 * length cs - 1) lent
  as_lent = drop_at (joined cs) (drop (length (joined cs)) lent) (7 * length cs - 1) (length_joined cs six) ∙ ap (λ (n : ℕ). drop n lent) (length_joined cs six)

  pub as_long : length (joined cs ++ drop (length (joined cs)) lent) ≡ length lent
  as_long =
      let n = length_joined cs six in
      length-append (joined cs) (drop (length (joined cs)) lent)
      ∙ ap (λ (m : ℕ). length (joined cs) + m) (length-drop (length (joined cs)) lent)
      ∙ omega arith
