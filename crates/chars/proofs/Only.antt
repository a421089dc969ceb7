-- Only one answer satisfies each promise of this crate, for each says its answer by an equation. Assumes nothing.
use mathlib.Core.Path.{◌≡◌}
use mathlib.Core.Bool.{Bool}
use mathlib.Core.List.{List, [], ◌∷◌}
use Prim.Native.Nat.{ℕ, ◌≤◌}
use lib.ListN.{length, drop}
use Rattle.std.specs.Prelude.{Option, Result}
use Rattle.laws.specs.Lists.{until, count_of}
use Rattle.laws.proofs.Only.{only}
use Rattle.chars.specs.Utf8.{scalar, char_of}
use Rattle.chars.specs.Letters.{white, tabled, lower_of}
use Rattle.chars.specs.Table.{table}
use Rattle.chars.specs.Answers.{Reaches, checked, vowel_next}
use Rattle.chars.specs.declared.Char.{Char}
use Rattle.chars.specs.declared.NotUtf8.{NotUtf8}

pub is_scalar : (c : ℕ) (r r' : Bool) → r ≡ scalar c → r' ≡ scalar c → r ≡ r'
is_scalar c r r' e f = only e f

pub char_from : (a b c d : ℕ) (r r' : Char) → r ≡ char_of (a ∷ b ∷ c ∷ d ∷ []) → r' ≡ char_of (a ∷ b ∷ c ∷ d ∷ []) → r ≡ r'
char_from a b c d r r' e f = only e f

pub char_at : (s : List ℕ) (at : ℕ) (r r' : Char) → (r ≡ char_of (drop at s)) × Reaches at (length s) r → (r' ≡ char_of (drop at s)) × Reaches at (length s) r' → r ≡ r'
char_at s at r r' e f = only e.0 f.0

pub check_text : (s : List ℕ) (r r' : Result Bool NotUtf8) → r ≡ checked s → r' ≡ checked s → r ≡ r'
check_text s r r' e f = only e f

pub is_space : (c : ℕ) (r r' : Bool) → r ≡ white c → r' ≡ white c → r ≡ r'
is_space c r r' e f = only e f

pub is_tabled : (c : ℕ) (r r' : Bool) → r ≡ tabled c → r' ≡ tabled c → r ≡ r'
is_tabled c r r' e f = only e f

pub is_vowel : (next : Option ℕ) (r r' : Bool) → r ≡ vowel_next next → r' ≡ vowel_next next → r ≡ r'
is_vowel next r r' e f = only e f

-- of the table that `lower` reads (`lower_is`)
pub lowers : (r r' : List ℕ) → r ≡ table → r' ≡ table → r ≡ r'
lowers r r' e f = only e f

pub lower : (c r r' : ℕ) → r ≡ lower_of c → r' ≡ lower_of c → r ≡ r'
lower c r r' e f = only e f

pub count_until : (l : List ℕ) (b r r' : ℕ) → (r ≡ until b l) × (r ≤ length l) → (r' ≡ until b l) × (r' ≤ length l) → r ≡ r'
count_until l b r r' e f = only e.0 f.0

pub count_of_lem : (l : List ℕ) (b r r' : ℕ) → (r ≡ count_of b l) × (r ≤ length l) → (r' ≡ count_of b l) × (r' ≤ length l) → r ≡ r'
count_of_lem l b r r' e f = only e.0 f.0
