-- What the code of this crate holds and answers, in the words of the definitions: a name listed, its codes as they stand, the marks of records. Assumes nothing.
use Rattle.std.specs.Prelude.{ℕ, suc, ◌<◌, ◌≤◌, ◌≡◌, Bool, true, false, cond, List, [], ◌∷◌, ◌++◌, map, eqb, length, drop, get_or, Result, Ok, Err}
use Rattle.std.specs.Result.{result_unwrap_or}
use Rattle.std.specs.Coded.{×_prop, Unit-prop, Coded-set, coded_ℕ, coded_bool}
use Rattle.laws.specs.Lists.{some, keep}
use Rattle.laws.specs.Arrays.{Each}
use Rattle.ward.specs.Ward.{list_bytes}
use Rattle.ward.specs.Codes.{SixDigits}
use Rattle.entries.specs.Entries.{entry_bytes, record_in}
use Rattle.index.specs.Index.{full_list, codes_from, refusal_of, entries_from, report_of}
use Rattle.index.specs.Find.{shares}
use Rattle.coder.specs.Refused.{error_number, error_place}
use Rattle.coder.specs.declared.CodeError.{CodeError}
use Rattle.index.specs.declared.FindError.{FindError}
use Rattle.index.specs.declared.FindError.TheVariants as unfound

-- That codes are six digits each is a fact, with one proof at most
pub six_digits_prop : (cs : List (List ℕ)) → IsProp (Each SixDigits cs)
six_digits_prop [] = Unit-prop
six_digits_prop (c ∷ cs) = ×_prop (×_prop (Coded-set coded_ℕ _ _) (Coded-set coded_bool _ _)) (six_digits_prop cs)

-- how many codes a name listed has; the number of its refusal, 0 where there is none; and its place
abbrev pub count_in : Result ℕ CodeError → ℕ
count_in r = result_unwrap_or r 0

abbrev pub refusal_in : Result ℕ CodeError → ℕ
refusal_in (Ok n) = 0
refusal_in (Err e) = error_number e

abbrev pub place_in : Result ℕ CodeError → ℕ
place_in (Ok n) = 0
place_in (Err e) = error_place e

-- The codes of a name stand in a line of 447 bytes, as many as are told; or its refusal is told, and there are none.
pub record Listed (plate name line : List ℕ) (count refusal place : ℕ) : Type 0 where
  pub refused : refusal ≡ refusal_of plate name
  pub placed : place ≡ (full_list plate name).place
  pub counted : count ≡ (full_list plate name).count
  pub codes : codes_from count line ≡ codes_from count (full_list plate name).buffer
  pub digits : Each SixDigits (codes_from count line)
  pub few : count ≤ 64
  pub long : length line ≡ list_bytes

abbrev pub ListedIs : List ℕ → List ℕ → List ℕ → Result ℕ CodeError → Type 0
ListedIs plate name line r = Listed plate name line (count_in r) (refusal_in r) (place_in r)

-- a name's error is the one that list gives for it
abbrev pub NameIs : List ℕ → List ℕ → Result ℕ FindError → Type 0
NameIs plate name (Ok n) = Unit {0}
NameIs plate name (Err unfound.NotAPlate) = Unit {0}
NameIs plate name (Err unfound.BadIndex) = Unit {0}
NameIs plate name (Err (unfound.Name e)) = (error_number e ≡ refusal_of plate name) × (error_place e ≡ (full_list plate name).place)
NameIs plate name (Err unfound.ShortBuffer) = Unit {0}

-- The entries of names, as they come, and their report stand in front; behind them what was lent.
pub record PutsAll (plate : List ℕ) (ns : List (List ℕ)) (index index' report report' : List ℕ) : Type 0 where
  pub entered : index' ≡ entry_bytes (entries_from plate 0 ns) ++ drop (length (entry_bytes (entries_from plate 0 ns))) index
  pub reported : report' ≡ report_of plate ns ++ drop (length ns) report

-- The records of these codes are marked, the others as they were.
pub record Marks (es codes : List ℕ) (lent marks : List Bool) : Type 0 where
  pub long : length marks ≡ length lent
  pub is : (k : ℕ) → k < length lent → get_or marks k false ≡ cond (some (eqb k) (map record_in (keep (shares codes) es))) true (get_or lent k false)

-- the records that are marked, numbered from k on
abbrev pub marked : ℕ → List Bool → List ℕ
marked k [] = []
marked k (m ∷ more) = cond m (k ∷ marked (suc k) more) (marked (suc k) more)
