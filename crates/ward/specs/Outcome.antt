-- What an answer of ward says: 01's number and the bytes written for each case, and the lent buffer afterwards. Assumes nothing.
use Rattle.std.specs.Prelude.{ℕ, List, Result, Ok, Err}
use Rattle.ward.specs.Ward.{Written, unwritten}
use Rattle.ward.specs.declared.WardError.{WardError}
use Rattle.ward.specs.declared.WardError.TheVariants.{NotAPlate, ManyNames, RoomTooSmall}

abbrev pub error_number : WardError → ℕ
error_number NotAPlate = 10
error_number ManyNames = 1
error_number RoomTooSmall = 12

abbrev pub told : Result ℕ WardError → List ℕ → Written
told (Ok n) out = record { number = 0; length = n; buffer = out }
told (Err e) out = unwritten (error_number e) out
