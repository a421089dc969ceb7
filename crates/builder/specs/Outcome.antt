-- What build's answer says: 01's number, line and length for each case, and the lent buffer afterwards. 01, "Numbers that come back". Assumes nothing.
use Rattle.std.specs.Prelude.{ℕ, List, Result, Ok, Err}
use Rattle.builder.specs.Build as Build
use Rattle.builder.specs.Build.{refusal}
use Rattle.builder.specs.Survey.{fault_number}
use Rattle.builder.specs.declared.BuildError.{BuildError}
use Rattle.builder.specs.declared.BuildError.TheVariants.{LongText, NotText, Faulty, ShortBuffer}

-- number and line of a refusal
abbrev pub refused : BuildError → List ℕ → Build.Built
refused LongText out = refusal 1 0 out
refused NotText out = refusal 2 0 out
refused (Faulty fault line) out = refusal (fault_number fault) line out
refused ShortBuffer out = refusal 9 0 out

abbrev pub told : Result ℕ BuildError → List ℕ → Build.Built
told (Ok length) out = record { number = 0; line = 0; length = length; buffer = out }
told (Err error) out = refused error out
