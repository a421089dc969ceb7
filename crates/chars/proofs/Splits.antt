-- An ASCII byte splits a text. No character reaches over it, for it is no tail byte: so the bytes before it are characters of their own, and those from it on.
-- Assumes nothing.
use mathlib.Core.Path.{◌≡◌, refl, sym, ap, ◌∙◌}
use mathlib.Core.Bool.{Bool, true, false, cond, ◌&&◌, false≢true}
use mathlib.Core.List.{List, [], ◌∷◌, ◌++◌}
use Prim.Native.Nat.{ℕ, zero, suc, ◌+◌, ◌-◌, ◌*◌, ◌%◌, ◌<◌, ◌≤◌}
use native.Mathlib.Omega.{arith}
use borrow.Author.Tests.{le-leb}
use lib.Dec.{leb}
use lib.ListN.{length}
use Rattle.laws.specs.Lists.{every, between}
use Rattle.laws.proofs.Tests.{and_true, and_left_false, and_right_false, below_between}
use Rattle.laws.proofs.Cuts.{every_take}
use Rattle.chars.specs.Utf8.{tail, two, three, four, char_of, is_one, width_of, text_from, is_text}
use Rattle.chars.specs.declared.Char.{Char}
use Rattle.chars.specs.declared.Char.TheVariants.{One, Bad, End}
use Rattle.chars.proofs.Texts.{text_front}
use Rattle.chars.proofs.Exact.{Decoded, decoded_any, decoded_one}

-- ---- an ASCII byte behind some bytes changes nothing of the character in front of them

module _ (q : ℕ) (low : q < 0x80) (y : List ℕ) where
  no_tail : tail q ≡ false
  no_tail = below_between 0x80 0xBF q low

  two_before : (a : ℕ) (s : List ℕ) → two a (s ++ (q ∷ y)) ≡ two a s
  two_before a [] = ap (λ (t : Bool). cond t (One (a % 32 * 64 + q % 64) 2) Bad) (and_left_false (tail q) _ no_tail)
  two_before a (b ∷ s) = refl

  three_before : (a : ℕ) (s : List ℕ) → three a (s ++ (q ∷ y)) ≡ three a s
  three_before a [] = go y
    where
      go : (z : List ℕ) → three a (q ∷ z) ≡ Bad
      go [] = refl
      go (b' ∷ z) = ap (λ (t : Bool). cond t (One (a % 16 * 4096 + q % 64 * 64 + b' % 64) 3) Bad) (and_left_false (tail q) _ no_tail)
  three_before a (b ∷ []) =
      ap (λ (t : Bool). cond t (One (a % 16 * 4096 + b % 64 * 64 + q % 64) 3) Bad) (and_right_false (tail b) _ (and_left_false (tail q) _ no_tail))
  three_before a (b ∷ b' ∷ s) = refl

  four_before : (a : ℕ) (s : List ℕ) → four a (s ++ (q ∷ y)) ≡ four a s
  four_before a [] = go y
    where
      go : (z : List ℕ) → four a (q ∷ z) ≡ Bad
      go [] = refl
      go (b' ∷ []) = refl
      go (b' ∷ b'' ∷ z) =
          ap (λ (t : Bool). cond t (One (a % 8 * 262144 + q % 64 * 4096 + b' % 64 * 64 + b'' % 64) 4) Bad) (and_left_false (tail q) _ no_tail)
  four_before a (b ∷ []) = go y
    where
      go : (z : List ℕ) → four a (b ∷ q ∷ z) ≡ Bad
      go [] = refl
      go (b'' ∷ z) =
          ap (λ (t : Bool). cond t (One (a % 8 * 262144 + b % 64 * 4096 + q % 64 * 64 + b'' % 64) 4) Bad)
          (and_right_false (tail b) _ (and_left_false (tail q) _ no_tail))
  four_before a (b ∷ b' ∷ []) =
      ap (λ (t : Bool). cond t (One (a % 8 * 262144 + b % 64 * 4096 + b' % 64 * 64 + q % 64) 4) Bad)
      (and_right_false (tail b) _ (and_right_false (tail b') _ (and_left_false (tail q) _ no_tail)))
  four_before a (b ∷ b' ∷ b'' ∷ s) = refl

  char_before : (a : ℕ) (s : List ℕ) → char_of ((a ∷ s) ++ (q ∷ y)) ≡ char_of (a ∷ s)
  char_before a s =
      λ i. cond (leb a 0x7F) (One a 1)
      (cond (between 0xC0 0xDF a) (two_before a s i)
      (cond (between 0xE0 0xEF a) (three_before a s i)
      (cond (between 0xF0 0xF7 a) (four_before a s i) Bad)))

  -- ---- texts

  -- The bytes before and the bytes from it on are texts where the whole is one; k bytes before it are still to pass.
  split : (k : ℕ) (x : List ℕ) → k ≤ length x → text_from k (x ++ (q ∷ y)) ≡ text_from k x && is_text (q ∷ y)
  unfolding text_from
  split zero [] h = refl
  split (suc k) [] h = absurd (omega arith)
  split (suc k) (a ∷ x) h = split k x (omega arith)
  split zero (a ∷ x) h = rw (char_before a x) (go (char_of (a ∷ x)) (decoded_any (a ∷ x)) (λ k. split k x))
    where
      go : (r : Char) → Decoded (a ∷ x) r → ((k : ℕ) → k ≤ length x → text_from k (x ++ (q ∷ y)) ≡ text_from k x && is_text (q ∷ y))
          → is_one r && text_from (width_of r - 1) (x ++ (q ∷ y)) ≡ (is_one r && text_from (width_of r - 1) x) && is_text (q ∷ y)
      go (One c w) f below = below (w - 1) (omega (arith, f.3))
      go Bad f below = refl
      go End f below = refl

  -- Behind an ASCII byte the text goes on.
  pub ascii_behind : is_text (q ∷ y) ≡ true → is_text y ≡ true
  ascii_behind h = sym (text_front (q ∷ y) q 1 (simp (le-leb q 0x7F (omega arith))) (omega arith)) ∙ h

  -- The bytes before an ASCII byte of a text are a text, and so are those from it on.
  pub ascii_splits : (x : List ℕ) → is_text (x ++ (q ∷ y)) ≡ true → (is_text x ≡ true) × (is_text (q ∷ y) ≡ true)
  ascii_splits x h = and_true (is_text x) (is_text (q ∷ y)) (sym (split 0 x (omega arith)) ∙ h)

-- ---- characters

-- A character in front of bytes that pass a test which zero fails is not U+0000.
pub char_above : (t : ℕ → Bool) → t 0 ≡ false → (s : List ℕ) (c w : ℕ) → char_of s ≡ One c w → every t s ≡ true → 0 < c
char_above t z s zero w e h =
    let first : every t (0 ∷ []) ≡ true = ap (every t) (sym (decoded_one s 0 w e).1) ∙ every_take t w s h in
    absurd (false≢true (sym z ∙ (and_true (t 0) true first).0))
char_above t z s (suc c) w e h = omega arith
