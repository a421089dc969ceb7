-- 01's number of each refusal of a name and of a call, and its place: "Encode and list check 10, 1, 2, 11, 12." 02, M-101: "refusals 2 and 11 of encode and
-- list return that place, all other answers return 0." Assumes nothing.
use Rattle.std.specs.Prelude.{ℕ}
use Rattle.coder.specs.declared.NameFault as of_name
use Rattle.coder.specs.declared.NameFault.TheVariants as fault
use Rattle.coder.specs.declared.CodeError.{CodeError}
use Rattle.coder.specs.declared.CodeError.TheVariants.{NotAPlate, NameTooLong, NotUtf8, CharacterNotAllowed, RoomTooSmall}

abbrev pub error_number : CodeError → ℕ
error_number NotAPlate = 10
error_number NameTooLong = 1
error_number (NotUtf8 place) = 2
error_number (CharacterNotAllowed place) = 11
error_number RoomTooSmall = 12

abbrev pub error_place : CodeError → ℕ
error_place NotAPlate = 0
error_place NameTooLong = 0
error_place (NotUtf8 place) = place
error_place (CharacterNotAllowed place) = place
error_place RoomTooSmall = 0

-- a name's fault as an error
abbrev pub error_of : of_name.NameFault → CodeError
error_of fault.TooLong = NameTooLong
error_of (fault.NotUtf8 place) = NotUtf8 place
error_of (fault.NotAllowed place) = CharacterNotAllowed place
