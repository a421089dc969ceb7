-- The bytes that are written of a book. Assumes nothing.
use Rattle.std.specs.Prelude.{ℕ, Bool, List}
use Rattle.plate.specs.Written.{plate_bytes}
use Rattle.book.specs.Book.{Book, plate_of}

-- the plate of a book
abbrev pub bytes_of : Bool → Book → List ℕ
bytes_of flag b = plate_bytes (plate_of flag b)
