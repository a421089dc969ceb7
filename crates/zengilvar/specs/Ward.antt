-- What a call of dm_ward tells: the numbers that came back, and the lent buffer afterwards. 02, M-103: "The call answers number and bytes written". Assumes
-- nothing.
use Rattle.std.specs.Prelude.{ℕ, List, Result, Ok, Err}
use Rattle.ward.specs.Ward.{Written}
use Rattle.zengilvar.specs.declared.DmWritten.{DmWritten}

abbrev pub wrote : DmWritten → List ℕ → Written
wrote r out = record { number = r.number; length = r.length; buffer = out }

-- the length that was written, or the number of an error
abbrev pub written_of : Result ℕ ℕ → DmWritten
written_of (Ok n) = record { number = 0; length = n }
written_of (Err number) = record { number = number; length = 0 }
