-- A field: the answer on it from its separators and digits, its digits one byte at a time, its alternatives one at a time. Assumes nothing.
use mathlib.Core.Path.{◌≡◌, refl, sym, ap, ◌∙◌}
use mathlib.Core.Bool.{Bool, true, false, cond}
use mathlib.Core.List.{List}
use Prim.Native.Nat.{ℕ, suc, ◌+◌, ◌<◌, ◌≤◌}
use native.Mathlib.Omega.{arith}
use native.Mathlib.Numerals.{add-one}
use borrow.Author.Tests.{le-leb, lt-leb}
use lib.Dec.{leb}
use lib.ListN.{length}
use Rattle.laws.specs.Lists.{every, count_of, split_at}
use Rattle.laws.proofs.Splits.{parts}
use Rattle.chars.specs.Digits.{is_alternative}
use Rattle.book.specs.Book.{field_fault}
use Rattle.book.specs.Field.{parsed, Says}
use Rattle.std.specs.Prelude.{Result, Ok, Err}
use Rattle.book.specs.declared.Flaw.{Flaw}
use Rattle.book.specs.declared.Flaw.TheVariants.{ManyAlternatives, NotDigits}

-- ---- the answer on a field, from its separators and digits

module _ (sep : ℕ) (l : List ℕ) (n : ℕ) (e : n ≡ count_of sep l) where
  abbrev F : List (List ℕ)
  F = split_at sep l

  -- the answer of the two tests
  abbrev answer : Bool → Bool → Result ℕ Flaw
  answer t u = cond t (cond u (Ok (length F)) (Err NotDigits)) (Err ManyAlternatives)

  counted : length F ≡ suc n
  counted = parts sep l ∙ ap suc (sym e)

  -- The answer and 01's number, from the two tests.
  decided : (t u : Bool) → leb (length F) 8 ≡ t → every is_alternative F ≡ u
      → (answer t u ≡ parsed F) × (field_fault F ≡ cond t (cond u 0 7) 6)
  decided t u f g = (sym (λ i. answer (f i) (g i)), λ i. cond (f i) (cond (g i) 0 7) 6)

  pub too_many : 8 ≤ n → (Err ManyAlternatives ≡ parsed (split_at sep l)) × Says (split_at sep l) (Err ManyAlternatives)
  too_many h = decided false (every is_alternative F) (ap (λ (m : ℕ). leb m 8) counted ∙ lt-leb (suc n) 8 (omega arith)) refl

  module _ (h : n < 8) where
    few : leb (length F) 8 ≡ true
    few = ap (λ (m : ℕ). leb m 8) counted ∙ le-leb (suc n) 8 (omega arith)

    pub many : every is_alternative (split_at sep l) ≡ true → (Ok (n + 1) ≡ parsed (split_at sep l)) × Says (split_at sep l) (Ok (n + 1))
    many u =
        let told : ℕ → Result ℕ Flaw = λ k. Ok k in
        let m : n + 1 ≡ length F = add-one n ∙ sym counted in
        let d = decided true true few u in (ap told m ∙ d.0, record { fault = d.1; is = m; one = omega arith; few = omega arith })

    pub not_digits : every is_alternative (split_at sep l) ≡ false → (Err NotDigits ≡ parsed (split_at sep l)) × Says (split_at sep l) (Err NotDigits)
    not_digits u = decided true false few u
