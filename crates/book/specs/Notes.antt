-- What the calls on notes answer, in the words of Note: an answer with the tally that stands then. Assumes nothing.
use Rattle.std.specs.Prelude.{◌≡◌, Result, Ok, Err}
use Rattle.book.specs.declared.Flaw.{Flaw}
use Rattle.book.specs.declared.Tally.{Tally}
use Rattle.book.specs.declared.note.Notes.{Notes}

-- the tally that stands behind a call, or why it changed nothing
abbrev pub tallied : Result (Unit {0}) Flaw → Tally → Result Tally Flaw
tallied (Ok u) t = Ok t
tallied (Err flaw) t = Err flaw

-- the rules, or the foldings, stay as they were
abbrev pub SameRules : Notes → Notes → Type 0
SameRules n n' = (n'.keys.now ≡ n.keys.now) × (n'.seen.now ≡ n.seen.now)

abbrev pub SameFoldings : Notes → Notes → Type 0
SameFoldings n n' = n'.foldings.now ≡ n.foldings.now
