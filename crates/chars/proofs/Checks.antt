-- The check of a whole text: what each answer says, worked; and behind a character in front a bad sequence is as far as it was. Assumes nothing.
use mathlib.Core.Path.{◌≡◌, refl, sym, ap, subst, ◌∙◌}
use mathlib.Core.Bool.{Bool, true, false}
use mathlib.Core.List.{List, [], ◌∷◌}
use Prim.Native.Nat.{ℕ, zero, suc, ◌+◌, ◌≤◌}
use native.Mathlib.Nat.{zero-add, suc-add}
use native.Mathlib.Omega.{arith}
use native.Mathlib.Numerals.{sub-one}
use lib.ListN.{length, drop}
use Rattle.std.specs.Prelude.{Result, Ok, Err}
use Rattle.laws.specs.Lists.{some}
use Rattle.laws.proofs.Tests.{by_test}
use Rattle.chars.specs.Utf8.{char_of, is_text, text_from, sound_from, bad_place}
use Rattle.chars.specs.Answers.{is_zero, checked}
use Rattle.chars.specs.declared.Char.TheVariants.{One}
use Rattle.chars.specs.declared.NotUtf8.{NotUtf8}
use Rattle.chars.proofs.Texts.{kind}

-- The refusal at a place.
abbrev pub bad_at : ℕ → Result Bool NotUtf8
bad_at p = Err (record { at = p })

-- What an answer says of the bytes.
abbrev pub Says : List ℕ → Result Bool NotUtf8 → Type 0
Says s (Err e) = (is_text s ≡ false) × (e.at ≡ bad_place s)
Says s (Ok holds) = (is_text s ≡ true) × (holds ≡ some is_zero s)

-- Each answer says whether the bytes are UTF-8, and where they are not, or whether a zero byte stands among them.
pub says : (s : List ℕ) (r : Result Bool NotUtf8) → r ≡ checked s → Says s r
says s r e = subst (Says s) (sym e) (by_test (Says s) (is_text s) _ _ (λ t. (t, refl)) (λ t. (t, refl)))

-- Worked: a sequence cut short behind a whole character, a zero byte, a zero byte before a bad sequence (which decides), and no bytes.
worked : (checked (0x61 ∷ 0xC3 ∷ []) ≡ bad_at 1) × (checked (0x61 ∷ 0x00 ∷ []) ≡ Ok true) × (checked (0x00 ∷ 0x80 ∷ []) ≡ bad_at 1) × (checked [] ≡ Ok false)
unfolding text_from sound_from
worked = (refl, refl, refl, refl)

-- ---- behind a character in front

sound_skip : (k : ℕ) (s : List ℕ) → k ≤ length s → sound_from k s ≡ k + sound_from 0 (drop k s)
unfolding sound_from
sound_skip zero s h = sym (zero-add (sound_from 0 s))
sound_skip (suc k) [] h = absurd (omega arith)
sound_skip (suc k) (x ∷ xs) h = ap suc (sound_skip k xs (omega arith)) ∙ sym (suc-add k (sound_from 0 (drop k xs)))

-- Behind a character the bad sequence is as far as it was.
pub sound_front : (s : List ℕ) (c w : ℕ) → char_of s ≡ One c w → 1 ≤ w → w ≤ length s → bad_place s ≡ w + bad_place (drop w s)
unfolding sound_from
sound_front [] c w e h n = absurd (omega (arith, ap kind e))
sound_front (x ∷ xs) c zero e h n = absurd (omega arith)
sound_front (x ∷ xs) c (suc w) e h n = rw (e, sub-one) (ap suc (sound_skip w xs (omega arith)) ∙ sym (suc-add w (sound_from 0 (drop w xs))))
