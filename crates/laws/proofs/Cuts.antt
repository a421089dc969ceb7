-- What passes in a whole list passes in each part of it, by induction on the place. Assumes nothing.
use mathlib.Core.Path.{◌≡◌, refl}
use mathlib.Core.Bool.{Bool, true}
use mathlib.Core.List.{List, [], ◌∷◌}
use Prim.Native.Nat.{ℕ, zero, suc, ◌-◌}
use lib.ListN.{take, drop}
use Rattle.laws.specs.Lists.{every, cut}
use Rattle.laws.proofs.Tests.{and_true, both_true}

-- What passes in all passes in the first n.
pub every_take : {A : Type 0} (t : A → Bool) (n : ℕ) (l : List A) → every t l ≡ true → every t (take n l) ≡ true
every_take t zero l h = refl
every_take t (suc n) [] h = refl
every_take t (suc n) (x ∷ xs) h = let b = and_true (t x) (every t xs) h in both_true b.0 (every_take t n xs b.1)

-- What passes in all passes from a place on.
pub every_drop : {A : Type 0} (t : A → Bool) (n : ℕ) (l : List A) → every t l ≡ true → every t (drop n l) ≡ true
every_drop t zero l h = h
every_drop t (suc n) [] h = refl
every_drop t (suc n) (x ∷ xs) h = every_drop t n xs (and_true (t x) (every t xs) h).1

-- What passes from a place on passes from there up to another.
pub every_slice : {A : Type 0} (t : A → Bool) (from to : ℕ) (l : List A) → every t (drop from l) ≡ true → every t (drop from (take to l)) ≡ true
every_slice t zero to l h = every_take t to l h
every_slice t (suc from) zero l h = refl
every_slice t (suc from) (suc to) [] h = refl
every_slice t (suc from) (suc to) (x ∷ xs) h = every_slice t from to xs h

-- Where two tests together bring a third, each that passes the two passes it.
pub every_also : {A : Type 0} (t u v : A → Bool) → ((x : A) → t x ≡ true → u x ≡ true → v x ≡ true) → (l : List A) → every t l ≡ true → every u l ≡ true → every v l ≡ true
every_also t u v f [] h g = refl
every_also t u v f (x ∷ xs) h g =
    let b = and_true (t x) (every t xs) h in
    let d = and_true (u x) (every u xs) g in
    both_true (f x b.0 d.0) (every_also t u v f xs b.1 d.1)

-- What passes in all passes from one place up to another.
pub every_cut : (t : ℕ → Bool) (l : List ℕ) (from to : ℕ) → every t l ≡ true → every t (cut l from to) ≡ true
every_cut t l from to h = every_take t (to - from) (drop from l) (every_drop t from l h)
