-- How many bits a field and a rule take on the plate, from the lengths of their parts and the separators in them. Assumes nothing.
use Prim.Native.Nat.{ℕ, suc, ◌+◌, ◌-◌, ◌*◌, ◌≤◌}
use mathlib.Core.Path.{◌≡◌, refl, sym, ◌∙◌, ap₂}
use mathlib.Core.Bool.{Bool, true, false, cond}
use mathlib.Core.List.{List, [], ◌∷◌, ◌++◌}
use native.Mathlib.Omega.{arith}
use native.Mathlib.Nat.{mul-suc}
use borrow.Author.Tests.{leb-true}
use lib.Dec.{eqb, leb}
use lib.ListN.{length, length-append}
use Rattle.laws.specs.Lists.{cat, every, count_of, onto, split_at}
use Rattle.laws.proofs.Tests.{and_true}
use Rattle.chars.specs.Digits.{digit, is_alternative}
use Rattle.laws.proofs.Splits.{parts}
use Rattle.plate.specs.Bits.{bits_of}
use Rattle.plate.specs.Plate.{Folding, Rule, may_precede}
use Rattle.plate.specs.Written.{digit_bits, alternative_bits, field_bits, folding_bits, rule_bits}
use Rattle.book.specs.Book.{field_fault, put_rule}
use Rattle.plate.proofs.Packed.{length_bits_of}
use Rattle.std.specs.Prelude.{Ok}
use Rattle.book.specs.Note.{FieldIs}
use Rattle.book.proofs.Faults.{field_digits}

-- Where each takes w bits, n of them take n times as many.
pub cat_length : {A : Type 0} (f : A → List ℕ) (w : ℕ) → ((a : A) → length (f a) ≡ w) → (l : List A) → length (cat f l) ≡ w * length l
cat_length f w e [] = omega arith
cat_length f w e (x ∷ xs) = length-append (f x) (cat f xs) ∙ ap₂ ◌+◌ (e x) (cat_length f w e xs) ∙ swap w (w * length xs) ∙ sym (mul-suc w (length xs))
  where
    swap : (a b : ℕ) → a + b ≡ b + a
    swap a b = omega arith

-- ---- a field

alternative_length : (a : List ℕ) → length (alternative_bits a) ≡ 3 + 4 * length a
alternative_length a =
    length-append (bits_of 3 (length a)) (cat digit_bits a) ∙ omega (arith, length_bits_of 3 (length a), cat_length digit_bits 4 (λ d. length_bits_of 4 (d - 48)) a)

-- all digits
abbrev sum : List (List ℕ) → ℕ
sum [] = 0
sum (a ∷ more) = length a + sum more

alternatives_length : (l : List (List ℕ)) → length (cat alternative_bits l) ≡ 3 * length l + 4 * sum l
alternatives_length [] = refl
alternatives_length (a ∷ more) = length-append (alternative_bits a) (cat alternative_bits more) ∙ omega (arith, alternative_length a, alternatives_length more)

sum_onto : (x : ℕ) (l : List (List ℕ)) → sum (onto x l) ≡ suc (sum l)
sum_onto x [] = refl
sum_onto x (a ∷ more) = omega arith

-- What is no separator is in an alternative.
sum_seps : (sep : ℕ) (f : List ℕ) → sum (split_at sep f) + count_of sep f ≡ length f
unfolding count_of split_at
sum_seps sep [] = refl
sum_seps sep (x ∷ xs) = go (eqb x sep) (sum_seps sep xs)
  where
    go : (t : Bool) → sum (split_at sep xs) + count_of sep xs ≡ length xs
        → sum (cond t ([] ∷ split_at sep xs) (onto x (split_at sep xs))) + cond t (suc (count_of sep xs)) (count_of sep xs) ≡ suc (length xs)
    go true e = omega (arith, e)
    go false e = omega (arith, e, sum_onto x (split_at sep xs))

-- Six digits an alternative at most.
sum_most : (l : List (List ℕ)) → every is_alternative l ≡ true → sum l ≤ 6 * length l
sum_most [] h = omega arith
sum_most (a ∷ more) h =
    let b = and_true (is_alternative a) (every is_alternative more) h in
    let few = leb-true (length a) 6 (and_true (leb (length a) 6) (every digit a) b.0).0 in
    let below = sum_most more b.1 in omega arith

-- A field of n alternatives: 4 bits, 3 an alternative, 4 a digit.
module _ (sep : ℕ) (f : List ℕ) (n : ℕ) (e : n ≡ length (split_at sep f)) where
  abbrev F : List (List ℕ)
  F = split_at sep f

  pub field_within : n ≤ length f + 1
  field_within = omega (arith, e, parts sep f, sum_seps sep f)

  pub field_few : n ≤ 8 → every is_alternative (split_at sep f) ≡ true → length f + 1 - n ≤ 48
  field_few h d = omega (arith, e, parts sep f, sum_seps sep f, sum_most F d)

  field_length : 4 + 3 * n + 4 * (length f + 1 - n) ≡ length (field_bits F)
  field_length =
      sym (length-append (bits_of 4 (length F)) (cat alternative_bits F)
      ∙ omega (arith, length_bits_of 4 (length F), alternatives_length F, e, parts sep f, sum_seps sep f))

  pub field_fine : field_fault (split_at sep f) ≡ 0 → n ≤ 8 → FieldIs (split_at sep f) (Ok (4 + 3 * n + 4 * (length f + 1 - n)))
  field_fine z h = let few = field_few h (field_digits F z) in (z, field_length, omega arith)

-- ---- a rule

pub rule_length : (r : Rule) (a b c : ℕ) → a ≡ length (field_bits r.start) → b ≡ length (field_bits r.vowel) → c ≡ length (field_bits r.other)
    → 5 + 8 * length r.pattern + a + b + c ≡ length (rule_bits r)
rule_length r a b c x y z =
    let S = field_bits r.start in
    let W = field_bits r.vowel in
    let O = field_bits r.other in
    let P = bits_of 5 (length r.pattern) in
    let Q = cat (bits_of 8) r.pattern in
    sym (length-append (P ++ Q) (S ++ (W ++ O))
    ∙ omega
    (arith, x, y, z, length-append P Q, length_bits_of 5 (length r.pattern), cat_length (bits_of 8) 8 (length_bits_of 8) r.pattern, length-append S (W ++ O), length-append W O))

-- The place of a rule does not change the sum.
pub put_bits : (r : Rule) (l : List Rule) → length (cat rule_bits (put_rule r l)) ≡ length (cat rule_bits l) + length (rule_bits r)
put_bits r [] = length-append (rule_bits r) [] ∙ omega arith
put_bits r (q ∷ more) = go (may_precede q r) (put_bits r more)
  where
    go : (t : Bool) → length (cat rule_bits (put_rule r more)) ≡ length (cat rule_bits more) + length (rule_bits r)
        → length (cat rule_bits (cond t (q ∷ put_rule r more) (r ∷ q ∷ more))) ≡ length (rule_bits q ++ cat rule_bits more) + length (rule_bits r)
    go true e = length-append (rule_bits q) (cat rule_bits (put_rule r more)) ∙ omega (arith, e, length-append (rule_bits q) (cat rule_bits more))
    go false e = length-append (rule_bits r) (rule_bits q ++ cat rule_bits more) ∙ omega arith

-- ---- a folding

pub folding_length : (f : Folding) → length (folding_bits f) ≡ 42
folding_length f = length-append (bits_of 21 f.key) (bits_of 21 f.target) ∙ omega (arith, length_bits_of 21 f.key, length_bits_of 21 f.target)
