-- The alternatives of a field and their digits, one by one. Assumes nothing.
use Prim.Native.Nat.{ℕ, zero, suc, ◌<◌, ◌≤◌}
use mathlib.Core.Path.{◌≡◌}
use mathlib.Core.Bool.{Bool, true}
use mathlib.Core.List.{List, [], ◌∷◌}
use native.Mathlib.Omega.{arith}
use borrow.Author.Tests.{leb-true}
use lib.Dec.{leb}
use lib.ListN.{length, get_or}
use Rattle.laws.specs.Lists.{every}
use Rattle.laws.proofs.Tests.{and_true, between_true}
use Rattle.chars.specs.Digits.{digit, is_alternative}

pub every_get : {A : Type 0} (t : A → Bool) (l : List A) (i : ℕ) (d : A) → every t l ≡ true → i < length l → t (get_or l i d) ≡ true
every_get t [] i d h k = absurd (omega arith)
every_get t (x ∷ xs) zero d h k = (and_true (t x) (every t xs) h).0
every_get t (x ∷ xs) (suc i) d h k = every_get t xs i d (and_true (t x) (every t xs) h).1 (omega arith)

-- An alternative is short, and each of its bytes is an ASCII digit.
pub alternative_short : (a : List ℕ) → is_alternative a ≡ true → length a ≤ 6
alternative_short a h = leb-true (length a) 6 (and_true (leb (length a) 6) (every digit a) h).0

pub digit_at : (a : List ℕ) (k : ℕ) → is_alternative a ≡ true → k < length a → (48 ≤ get_or a k 0) × (get_or a k 0 ≤ 57)
digit_at a k h i = between_true 48 57 (get_or a k 0) (every_get digit a k 0 (and_true (leb (length a) 6) (every digit a) h).1 i)
