-- The answers on a field: its alternatives counted, or its first fault. 01, "Numbers that come back", 6 and 7. Assumes nothing.
use Rattle.std.specs.Prelude.{ℕ, ◌≤◌, ◌≡◌, cond, List, Result, Ok, Err, leb, length}
use Rattle.laws.specs.Lists.{every}
use Rattle.chars.specs.Digits.{is_alternative}
use Rattle.plate.specs.Plate.{most_alternatives}
use Rattle.book.specs.Book.{field_fault}
use Rattle.book.specs.declared.Flaw.{Flaw}
use Rattle.book.specs.declared.Flaw.TheVariants.{EmptyPattern, LongPattern, ManyAlternatives, NotDigits, TooMany}

-- 01's number for each
abbrev pub flaw_number : Flaw → ℕ
flaw_number EmptyPattern = 4
flaw_number LongPattern = 5
flaw_number ManyAlternatives = 6
flaw_number NotDigits = 7
flaw_number TooMany = 8

-- "6 before 7 in each field"
abbrev pub parsed : List (List ℕ) → Result ℕ Flaw
parsed f = cond (leb (length f) most_alternatives) (cond (every is_alternative f) (Ok (length f)) (Err NotDigits)) (Err ManyAlternatives)

-- what each answer says of the field: its number, and how many alternatives there are
pub record Fine (f : List (List ℕ)) (n : ℕ) : Type 0 where
  pub fault : field_fault f ≡ 0
  pub is : n ≡ length f
  pub one : 1 ≤ n
  pub few : n ≤ most_alternatives

abbrev pub Says : List (List ℕ) → Result ℕ Flaw → Type 0
Says f (Ok n) = Fine f n
Says f (Err flaw) = field_fault f ≡ flaw_number flaw
