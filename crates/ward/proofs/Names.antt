-- The names of a buffer from a place on: the first ends at its newline or at the end, and the others stand behind. Assumes nothing.
use Prim.Native.Nat.{ℕ, zero, suc, ◌+◌, ◌<◌, ◌≤◌, min}
use mathlib.Core.Path.{◌≡◌, refl, sym, ap, ap₂, ◌∙◌}
use mathlib.Core.Bool.{Bool, true, false, cond, false≢true}
use mathlib.Core.Logic.{inl, inr}
use mathlib.Core.List.{List, [], ◌∷◌, ◌++◌, append_assoc}
use native.Mathlib.Omega.{arith}
use borrow.Author.Tests.{le-leb, lt-leb, ne_eqb, eqb-true}
use lib.Dec.{eqb}
use lib.ListN.{length, take, drop, length-append, length-drop, drop_of_length-le}
use lib.Seq.{take-length, take-append_seam, drop_at}
use Rattle.std.proofs.Math.Nat.{min-eq_left, min-eq_right}
use Rattle.laws.specs.Lists.{In, until, count_of, onto, split_at}
use Rattle.laws.proofs.Bits.{by_order}
use Rattle.laws.proofs.Splits.{behind, split, one_part}
use Rattle.coder.specs.Answer.{smaller}
use Rattle.ward.specs.Ward.{newline, counted, names}

-- A name with another behind it counts, empty or not.
counted_more : (n : List ℕ) (ns : List (List ℕ)) → 1 ≤ length ns → counted (n ∷ ns) ≡ n ∷ counted ns
counted_more n [] h = absurd (omega arith)
counted_more [] (m ∷ ns) h = refl
counted_more (b ∷ n) (m ∷ ns) h = refl

-- Where no newline is left nothing stands behind the first name.
none_behind : (l : List ℕ) → count_of newline l ≡ 0 → drop (suc (until newline l)) l ≡ []
unfolding until count_of
none_behind [] e = refl
none_behind (x ∷ xs) e = go (eqb x newline) e (none_behind xs)
  where
    go : (t : Bool) → cond t (suc (count_of newline xs)) (count_of newline xs) ≡ 0 → (count_of newline xs ≡ 0 → drop (suc (until newline xs)) xs ≡ [])
        → drop (suc (cond t 0 (suc (until newline xs)))) (x ∷ xs) ≡ []
    go true e below = absurd (omega arith)
    go false e below = below e

pub no_names : names [] ≡ []
unfolding names split_at
no_names = refl

-- What stands behind the first name are the other names.
names_behind : (l : List ℕ) → counted (behind newline (count_of newline l) (drop (suc (until newline l)) l)) ≡ names (drop (suc (until newline l)) l)
unfolding names
names_behind l = go (count_of newline l) refl
  where
    go : (n : ℕ) → count_of newline l ≡ n → counted (behind newline n (drop (suc (until newline l)) l)) ≡ counted (split_at newline (drop (suc (until newline l)) l))
    go zero e = sym (ap names (none_behind l e) ∙ no_names)
    go (suc n) e = refl

pub first_name : (l : List ℕ) → 0 < length l → names l ≡ take (until newline l) l ∷ names (drop (suc (until newline l)) l)
unfolding names split_at until
first_name [] h = absurd (omega arith)
first_name (x ∷ xs) h = go (eqb x newline)
  where
    go : (t : Bool) → counted (cond t ([] ∷ split_at newline xs) (onto x (split_at newline xs)))
        ≡ take (cond t 0 (suc (until newline xs))) (x ∷ xs) ∷ names (drop (suc (cond t 0 (suc (until newline xs)))) (x ∷ xs))
    go true = counted_more [] (split_at newline xs) (one_part newline xs)
    go false =
        ap (λ (ps : List (List ℕ)). counted (onto x ps)) (split newline xs) ∙ ap (λ (ns : List (List ℕ)). (x ∷ take (until newline xs) xs) ∷ ns) (names_behind xs)

-- ---- names that are closed, and a last one that is not

-- A name without newline ends at the first behind it.
until_closed : (name rest : List ℕ) → (In newline name → ⊥) → until newline (name ++ (newline ∷ rest)) ≡ length name
unfolding until
until_closed [] rest h = refl
until_closed (x ∷ name) rest h =
    ap (λ (t : Bool). cond t 0 (suc (until newline (name ++ (newline ∷ rest))))) (ne_eqb x newline (λ e. h (inl (sym e)))) ∙ ap suc (until_closed name rest (λ i. h (inr i)))

until_all : (name : List ℕ) → (In newline name → ⊥) → until newline name ≡ length name
unfolding until
until_all [] h = refl
until_all (x ∷ name) h = ap (λ (t : Bool). cond t 0 (suc (until newline name))) (ne_eqb x newline (λ e. h (inl (sym e)))) ∙ ap suc (until_all name (λ i. h (inr i)))

pub names_closed : (name rest : List ℕ) → (In newline name → ⊥) → names (name ++ (newline ∷ rest)) ≡ name ∷ names rest
names_closed name rest h =
    let l = name ++ (newline ∷ rest) in
    let k = until_closed name rest h in
    let some : 0 < length l = rw (length-append name (newline ∷ rest)) (omega arith) in
    let front : name ++ (newline ∷ []) ++ rest ≡ l = append_assoc name (newline ∷ []) rest in
    let long : length (name ++ (newline ∷ [])) ≡ suc (length name) = length-append name (newline ∷ []) ∙ omega arith in
    first_name l some
    ∙ ap₂ (λ (n : List ℕ) (ns : List (List ℕ)). n ∷ ns) (ap (λ (m : ℕ). take m l) k ∙ take-append_seam name (newline ∷ rest))
    (ap names (ap (λ (m : ℕ). drop (suc m) l) k ∙ ap (drop (suc (length name))) (sym front) ∙ drop_at (name ++ (newline ∷ [])) rest (suc (length name)) long))

pub names_last : (name : List ℕ) → (In newline name → ⊥) → 0 < length name → names name ≡ name ∷ []
names_last name h some =
    let k = until_all name h in
    first_name name some
    ∙ ap₂ (λ (n : List ℕ) (ns : List (List ℕ)). n ∷ ns) (ap (λ (m : ℕ). take m name) k ∙ take-length name)
    (ap names (ap (λ (m : ℕ). drop (suc m) name) k ∙ drop_of_length-le name {i = suc (length name)} (omega arith)) ∙ no_names)

-- The first name, and what is left, as it is cut off.
pub next_name : (l name behind : List ℕ) (end from : ℕ) → 0 < length l → end ≡ until newline l → name ≡ take end l → from ≡ min (end + 1) (length l) → behind ≡ drop from l
    → names l ≡ name ∷ names behind
next_name l name behind end from some e f g h =
    first_name l some
    ∙ ap₂ (λ (n : List ℕ) (ns : List (List ℕ)). n ∷ ns) (ap (λ (m : ℕ). take m l) (sym e) ∙ sym f) (ap names (left ∙ sym h))
  where
    left : drop (suc (until newline l)) l ≡ drop from l
    left =
        ap (λ (m : ℕ). drop (suc m) l) (sym e)
        ∙ by_order (drop (suc end) l ≡ drop from l) (length l) (suc end)
        (λ i. drop_of_length-le l {i = suc end} (omega arith) ∙ sym (drop_of_length-le l {i = from} (omega (arith, g ∙ min-eq_right {n = length l} {m = end + 1} (omega arith)))))
        (λ i. ap (λ (m : ℕ). drop m l) {x = suc end} {y = from} (omega (arith, g ∙ min-eq_left {n = end + 1} {m = length l} (omega arith))))

-- No bytes are left, or some are.
pub empty : (l : List ℕ) → true ≡ eqb (length l) 0 → l ≡ []
empty [] e = refl
empty (x ∷ l) e = absurd (omega (arith, eqb-true (length (x ∷ l)) 0 (sym e)))

pub not_empty : (l : List ℕ) → false ≡ eqb (length l) 0 → 0 < length l
not_empty [] e = absurd (false≢true e)
not_empty (x ∷ l) e = omega arith

-- No more names than bytes.
pub names_few : (l : List ℕ) → length (names l) ≤ length l
names_few l = go (length l) l (omega arith)
  where
    go : (k : ℕ) (l : List ℕ) → length l ≤ k → length (names l) ≤ length l
    go k [] h = omega (arith, ap length no_names)
    go zero (x ∷ xs) h = absurd (omega arith)
    go (suc k) (x ∷ xs) h =
        let e = ap length (first_name (x ∷ xs) (omega arith)) in
        let n = length-drop (until newline (x ∷ xs)) xs in
        let below = go k (drop (until newline (x ∷ xs)) xs) (omega (arith, n)) in omega (arith, e, n, below)

-- The smaller of two numbers.
pub smaller_left : (a b : ℕ) → a ≤ b → a ≡ smaller a b
smaller_left a b h = ap (λ (t : Bool). cond t a b) (sym (le-leb a b h))

pub smaller_right : (a b : ℕ) → b < a → b ≡ smaller a b
smaller_right a b h = ap (λ (t : Bool). cond t a b) (sym (lt-leb a b h))
