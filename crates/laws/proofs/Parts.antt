-- What is known of the part of a slice that is lent, of a byte that is read, and of a call's answer in an arm. Assumes nothing.
use mathlib.Core.Path.{◌≡◌, refl, sym, subst, ap, ◌∙◌}
use mathlib.Core.Bool.{Bool, true, false}
use mathlib.Core.List.{List}
use Prim.Native.Nat.{ℕ, ◌-◌, ◌<◌, ◌≤◌}
use native.Mathlib.Omega.{arith}
use borrow.Author.Tests.{ltb-true, ltb-false}
use lib.Dec.{ltb}
use lib.ListN.{length, take, drop, get_or, length-drop, get_or-eq_default}
use Rattle.laws.proofs.Lists.{rest}

-- The part from a place on, as `&s[at..]` lends it.
abbrev pub lent : {A : Type 0} → ℕ → List A → List A
lent at s = take (length s - at) (drop at s)

pub lent_length : {A : Type 0} (at : ℕ) (s : List A) → length (lent at s) ≡ length s - at
lent_length at s = ap length (rest at s) ∙ length-drop at s

-- One number is below another, or it is not.
pub by_lt : {Q : Type 0} (i n : ℕ) → (i < n → Q) → (n ≤ i → Q) → Q
by_lt {Q = Q} i n f g = go (ltb i n) refl
  where
    go : (t : Bool) → ltb i n ≡ t → Q
    go true e = f (ltb-true i n e)
    go false e = g (ltb-false i n e)

-- Past the end a byte reads as 0, so another byte stands before the end.
pub within : (l : List ℕ) (k b : ℕ) → 0 < b → get_or l k 0 ≡ b → k < length l
within l k b h e = by_lt k (length l) (λ lt. lt) (λ le. absurd (omega (arith, sym (get_or-eq_default l 0 {n = k} le) ∙ e)))

-- A call's answer is the definition's and has its bounds, and an arm says which answer it was: so it is the definition's, with its bounds.
pub known : {A : Type 0} (P : A → Type 0) {r wanted x : A} → (r ≡ wanted) × P r → r ≡ x → (wanted ≡ x) × P x
known P e f = (sym e.0 ∙ f, subst P f e.1)
