-- What std calls UTF-8 is what specs call so: the same scalar values, the same bytes of each, and the same first place of what is none. Assumes nothing.
use mathlib.Core.Path.{◌≡◌, refl, sym, ap, ap₂, ◌∙◌}
use mathlib.Core.Bool.{Bool, true, false, cond, ◌&&◌, ◌||◌}
use mathlib.Core.List.{List, [], ◌∷◌, ◌++◌}
use Prim.Native.Nat.{ℕ, ◌+◌, ◌/◌, ◌%◌}
use native.Mathlib.Omega.{arith}
use borrow.Author.Tests.{lt-ltb, le-ltb, le-leb, lt-leb}
use lib.Dec.{eqb, ltb, leb}
use lib.Utf8.{scalar as std_scalar}
use lib.ListN.{length, take, drop, take-append-drop}
use lib.Seq.{length-take-le}
use Rattle.std.specs.Prelude.{Result, Ok, Err}
use Rattle.std.specs.List.{list_any}
use Rattle.std.specs.Str.{IsUtf8, IsValidUpTo, encode_utf8_all, all_scalars}
use Rattle.std.specs.Char.{encode_utf8}
use Rattle.laws.specs.Lists.{every, some}
use Rattle.laws.proofs.Parts.{by_lt}
use Rattle.chars.specs.Utf8.{scalar, bytes_of, bytes_of_all, is_text, chars_of, bad_place}
use Rattle.chars.specs.Answers.{is_zero, checked}
use Rattle.chars.specs.declared.NotUtf8.{NotUtf8}
use Rattle.chars.proofs.Exact.{encoded_text, decoded_text, decoded_chars}
use Rattle.chars.proofs.Faults.{bad_then, bad_stands}

at_most : (c n : ℕ) → ltb c (n + 1) ≡ leb c n
at_most c n = by_lt c (n + 1) (λ lt. lt-ltb c (n + 1) lt ∙ sym (le-leb c n (omega arith))) (λ le. le-ltb c (n + 1) le ∙ sym (lt-leb c n (omega arith)))

either : (t y : Bool) → cond t true y ≡ t || y
either true y = refl
either false y = refl

scalar_is : (c : ℕ) → std_scalar c ≡ scalar c
scalar_is c =
    ap₂ (λ (t u : Bool). cond t true (leb 0xE000 c && u)) (at_most c 0xD7FF) (at_most c 0x10FFFF) ∙ either (leb c 0xD7FF) (leb 0xE000 c && leb c 0x10FFFF)

scalars_are : (cs : List ℕ) → all_scalars cs ≡ every scalar cs
scalars_are [] = refl
scalars_are (c ∷ cs) = ap₂ ◌&&◌ (scalar_is c) (scalars_are cs)

bytes_are : (c : ℕ) → encode_utf8 c ≡ bytes_of c
unfolding encode_utf8
bytes_are c =
    λ i. cond (at_most c 0x7F i) (c ∷ [])
    (cond (at_most c 0x7FF i) ((0xC0 + c / 64) ∷ (0x80 + c % 64) ∷ [])
    (cond (at_most c 0xFFFF i) ((0xE0 + c / 4096) ∷ (0x80 + c / 64 % 64) ∷ (0x80 + c % 64) ∷ [])
    ((0xF0 + c / 262144) ∷ (0x80 + c / 4096 % 64) ∷ (0x80 + c / 64 % 64) ∷ (0x80 + c % 64) ∷ [])))

all_are : (cs : List ℕ) → encode_utf8_all cs ≡ bytes_of_all cs
all_are [] = refl
all_are (c ∷ cs) = ap₂ ◌++◌ (bytes_are c) (all_are cs)

pub text_from_std : (s : List ℕ) → IsUtf8 s → is_text s ≡ true
text_from_std s u = ap is_text (sym u.1.1 ∙ all_are u.0) ∙ encoded_text u.0 (sym (scalars_are u.0) ∙ u.1.0)

pub text_to_std : (s : List ℕ) → is_text s ≡ true → IsUtf8 s
text_to_std s t = (chars_of s, (scalars_are (chars_of s) ∙ decoded_chars s t, all_are (chars_of s) ∙ sym (decoded_text s t)))

-- Std's first fault is where the first sequence begins that is not UTF-8.
pub bad_is : (s : List ℕ) (n : ℕ) → is_text s ≡ false → IsValidUpTo s n → n ≡ bad_place s
bad_is s n f v =
    let p = bad_place s in
    let b = bad_stands s f in
    let short = v.short in
    let front : List ℕ = chars_of (take n s) in
    let t = text_from_std (take n s) v.front in
    let whole : s ≡ bytes_of_all front ++ drop n s = sym (take-append-drop n s) ∙ ap (λ (l : List ℕ). l ++ drop n s) (decoded_text (take n s) t) in
    let long : length (bytes_of_all front) ≡ n = ap length (sym (decoded_text (take n s) t)) ∙ length-take-le n s (omega arith) in
    let least : p ≡ length (bytes_of_all front) + bad_place (drop n s) = ap bad_place whole ∙ bad_then front (drop n s) (decoded_chars (take n s) t) in
    by_lt n p (λ lt. absurd (v.longest p lt (text_to_std (take p s) b.0))) (λ le. omega arith)

-- A zero byte stands in a list where `contains` finds it.
pub zero_is : (s : List ℕ) → list_any (λ x. eqb x 0) s ≡ some is_zero s
zero_is [] = refl
zero_is (x ∷ xs) = ap (λ (t : Bool). is_zero x || t) (zero_is xs)

-- ---- the answers of a check

abbrev bad_at : ℕ → Result Bool NotUtf8
bad_at n = Err (record { at = n })

module _ (s : List ℕ) where
  pub told_text : (r : Bool) → IsUtf8 s → r ≡ list_any (λ x. eqb x 0) s → Ok r ≡ checked s
  told_text r u e = ap Ok (e ∙ zero_is s) ∙ sym (ap (λ (t : Bool). cond t (Ok (some is_zero s)) (bad_at (bad_place s))) (text_from_std s u))

  pub told_bad : (n : ℕ) → ¬ (IsUtf8 s) → IsValidUpTo s n → bad_at n ≡ checked s
  told_bad n u v = go (is_text s) refl
    where
      go : (t : Bool) → is_text s ≡ t → bad_at n ≡ cond t (Ok (some is_zero s)) (bad_at (bad_place s))
      go true e = absurd (u (text_to_std s e))
      go false e = ap bad_at (bad_is s n e v)
