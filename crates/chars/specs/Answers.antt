-- The answers of this crate's functions, by cases: the bounds of a character at a place, the check of a whole text, a vowel or none.
-- 01, "Numbers that come back" and "Port order and changes of shape". Assumes nothing.
use Rattle.std.specs.Prelude.{ℕ, ◌+◌, ◌<◌, ◌≤◌, ◌≡◌, Bool, true, false, cond, List, eqb, Option, Some, None, Result, Ok, Err}
use Rattle.laws.specs.Lists.{some}
use Rattle.chars.specs.Utf8.{scalar, is_text, bad_place}
use Rattle.chars.specs.Letters.{vowel}
use Rattle.chars.specs.declared.Char.{Char}
use Rattle.chars.specs.declared.Char.TheVariants.{One, Bad, End}
use Rattle.chars.specs.declared.NotUtf8.{NotUtf8}

-- A character c of w bytes at a place of n bytes.
pub record OneWithin (at n c w : ℕ) : Type 0 where
  pub some : 1 ≤ w
  pub few : w ≤ 4
  pub within : at + w ≤ n
  pub small : c < 0x110000
  pub is : scalar c ≡ true

-- The bounds of what stands at a place of n bytes: a character lies within them, a bad sequence begins within them, and the end is behind them.
abbrev pub Reaches : ℕ → ℕ → Char → Type 0
Reaches at n (One c w) = OneWithin at n c w
Reaches at n Bad = at < n
Reaches at n End = n ≤ at

abbrev pub is_zero : ℕ → Bool
is_zero b = eqb b 0

-- 01: refusal 2 is for what is "not UTF-8, or rule text holds a zero byte". The place of the first sequence that is not UTF-8; where there is none,
-- whether some byte is zero.
abbrev pub checked : List ℕ → Result Bool NotUtf8
checked s = cond (is_text s) (Ok (some is_zero s)) (Err (record { at = bad_place s }))

-- 01: "`is_vowel` (a none answers no)".
abbrev pub vowel_next : Option ℕ → Bool
vowel_next (Some c) = vowel c
vowel_next None = false
