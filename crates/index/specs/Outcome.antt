-- What an answer of make, add and find says: the number and the lengths for each case, and the lent buffers afterwards. Assumes nothing.
use Rattle.std.specs.Prelude.{ℕ, Bool, true, List, [], ◌∷◌, eqb, Result, Ok, Err}
use Rattle.laws.specs.Lists.{some}
use Rattle.ward.specs.Ward.{Written, unwritten}
use Rattle.coder.specs.Refused as name
use Rattle.index.specs.Index.{Indexed, unmade}
use Rattle.index.specs.declared.Filed.{Filed}
use Rattle.index.specs.declared.FileError.{FileError}
use Rattle.index.specs.declared.FileError.TheVariants as unfiled
use Rattle.index.specs.declared.FindError.{FindError}
use Rattle.index.specs.declared.FindError.TheVariants as unfound

abbrev pub file_number : FileError → ℕ
file_number unfiled.NotAPlate = 10
file_number unfiled.Unfit = 18

abbrev pub told : Result Filed FileError → List ℕ → List ℕ → Indexed
told (Ok f) index report = record { number = 0; index_length = f.index; report_length = f.report; index = index; report = report }
told (Err e) index report = unmade (file_number e) index report

-- the number of a refused name is list's
abbrev pub find_number : FindError → ℕ
find_number unfound.NotAPlate = 10
find_number unfound.BadIndex = 18
find_number (unfound.Name e) = name.error_number e
find_number unfound.ShortBuffer = 9

abbrev pub told_found : Result ℕ FindError → List ℕ → Written
told_found (Ok n) out = record { number = 0; length = n; buffer = out }
told_found (Err e) out = unwritten (find_number e) out

-- The number of a refused name is one that list has for a name: so what is told says which answer it was.
abbrev pub name_number : ℕ → Bool
name_number number = some (eqb number) (1 ∷ 2 ∷ 11 ∷ 12 ∷ [])

abbrev pub is_named : Result ℕ FindError → Bool
is_named (Ok n) = true
is_named (Err unfound.NotAPlate) = true
is_named (Err unfound.BadIndex) = true
is_named (Err (unfound.Name e)) = name_number (name.error_number e)
is_named (Err unfound.ShortBuffer) = true
