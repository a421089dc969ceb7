-- What an answer of list and encode says: 01's number and count and the place for each case, and the lent buffer afterwards. 01, "Numbers that come back". Assumes nothing.
use Rattle.std.specs.Prelude.{ℕ, List, Result, Ok, Err}
use Rattle.plate.specs.Read.{read_plate}
use Rattle.branches.specs.Branches.{Use}
use Rattle.coder.specs.Answer.{Coded, no_codes_at, listed, plated}
use Rattle.coder.specs.Held.{cut_all}
use Rattle.coder.specs.Refused.{error_number, error_place}
use Rattle.coder.specs.declared.CodeError.{CodeError}

abbrev pub told : Result ℕ CodeError → List ℕ → Coded
told (Ok n) out = record { number = 0; count = n; place = 0; buffer = out }
told (Err e) out = no_codes_at (error_number e) (error_place e) out

-- List with the first `most` alternatives of each use. With 8 it is list, with 1 encode: proofs/Answers.antt.
abbrev pub listed_to : ℕ → List Use → List ℕ → Coded
listed_to most us lent = listed (cut_all most us) lent

unfoldable pub code_answer : ℕ → List ℕ → List ℕ → List ℕ → Coded
code_answer most plate name lent = plated (listed_to most) (read_plate plate) name lent
