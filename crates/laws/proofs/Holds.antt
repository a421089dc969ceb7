-- What holds of each of a list: of joined lists, of a part, by another fact, of a member. Assumes nothing.
use Prim.Native.Nat.{ℕ, zero, suc, ◌<◌}
use mathlib.Core.Path.{sym, subst}
use mathlib.Core.Logic.{inl, inr}
use mathlib.Core.List.{List, [], ◌∷◌, ◌++◌}
use native.Mathlib.Omega.{arith}
use lib.ListN.{length, take, get_or}
use Rattle.laws.specs.Arrays.{Each}
use Rattle.laws.specs.Lists.{In}

module _ {A : Type 0} (P : A → Type 0) where
  pub each_append : (l m : List A) → Each P l → Each P m → Each P (l ++ m)
  each_append [] m e f = f
  each_append (x ∷ l) m e f = (e.0, each_append l m e.1 f)

  pub each_front : (l m : List A) → Each P (l ++ m) → Each P l
  each_front [] m e = tt
  each_front (x ∷ l) m e = (e.0, each_front l m e.1)

  pub each_end : (l m : List A) → Each P (l ++ m) → Each P m
  each_end [] m e = e
  each_end (x ∷ l) m e = each_end l m e.1

  pub each_take : (n : ℕ) (l : List A) → Each P l → Each P (take n l)
  each_take zero l e = tt
  each_take (suc n) [] e = tt
  each_take (suc n) (x ∷ l) e = (e.0, each_take n l e.1)

  pub each_in : (l : List A) (x : A) → Each P l → In x l → P x
  each_in [] x e i = absurd i
  each_in (y ∷ l) x e (inl q) = subst P (sym q) e.0
  each_in (y ∷ l) x e (inr i) = each_in l x e.1 i

-- It holds of each where it holds at each place.
pub each_place : {A : Type 0} (P : A → Type 0) (d : A) (l : List A) → ((q : ℕ) → q < length l → P (get_or l q d)) → Each P l
each_place P d [] f = tt
each_place P d (x ∷ l) f = (f 0 (omega arith), each_place P d l (λ q h. f (suc q) (omega arith)))

pub each_all : {A : Type 0} (P Q : A → Type 0) (l : List A) → ((x : A) → P x → Q x) → Each P l → Each Q l
each_all P Q [] f e = tt
each_all P Q (x ∷ l) f e = (f x e.0, each_all P Q l f e.1)

pub each_both : {A : Type 0} (P Q R : A → Type 0) (l : List A) → ((x : A) → P x → Q x → R x) → Each P l → Each Q l → Each R l
each_both P Q R [] f e g = tt
each_both P Q R (x ∷ l) f e g = (f x e.0 g.0, each_both P Q R l f e.1 g.1)
