-- What the first pass reads and answers: a rule at a place of the text, what is noted up to a place, and the verdict from there on. Assumes nothing.
use Rattle.std.specs.Prelude.{ℕ, ◌<◌, ◌≤◌, ◌≡◌, Bool, true, false, List, [], Result, Ok, Err, length, take, drop}
use Rattle.laws.specs.Lists.{some}
use Rattle.rule_text.specs.Forms.{inside, entry}
use Rattle.rule_text.specs.Items.{Saying, said, items_at}
use Rattle.rule_text.specs.Items.Saying.{RuleItem, FoldingItem, LineEndItem, CommentItem, UnknownItem}
use Rattle.rule_text.specs.Fields.{bar}
use Rattle.rule_text.specs.declared.Four.{Four}
use Rattle.plate.specs.Plate.{Rule, of_pattern}
use Rattle.book.specs.Book.{rule_of}
use Rattle.book.specs.Field.{flaw_number}
use Rattle.book.specs.Seen.{slots, hash_of}
use Rattle.book.specs.Note.{rules_in, AllSure, AllMarked, book_of, Kept, InOrder, RuleNoted, DoubleNoted}
use Rattle.book.specs.Notes.{tallied, SameRules, SameFoldings}
use Rattle.book.specs.declared.Flaw.{Flaw}
use Rattle.book.specs.declared.note.Notes.{Notes}
use Rattle.builder.specs.Build.{longest_text, Verdict, verdict}
use Rattle.builder.specs.Build.Verdict.{Faulty, Fine}
use Rattle.builder.specs.declared.Fault.{Fault}
use Rattle.builder.specs.declared.Fault.TheVariants.{NotRecognised, Flawed}
use Rattle.builder.specs.declared.survey.FaultAt.{FaultAt}

-- 01's number for each fault
abbrev pub fault_number : Fault → ℕ
fault_number NotRecognised = 3
fault_number (Flawed flaw) = flaw_number flaw

-- ---- the rule at a place

-- of four parts found in l
abbrev pub rule_in : List ℕ → Four → Rule
rule_in l four = rule_of bar (inside l four.pattern) (inside l four.start) (inside l four.vowel) (inside l four.other)

-- what says no rule reads as one without a pattern, which is never noted
abbrev pub rule_said : Saying → Rule
rule_said (RuleItem p s v o) = rule_of bar p s v o
rule_said (FoldingItem key target) = rule_of bar [] [] [] []
rule_said LineEndItem = rule_of bar [] [] [] []
rule_said CommentItem = rule_of bar [] [] [] []
rule_said UnknownItem = rule_of bar [] [] [] []

-- the rule that the item at a place says
unfoldable pub view : List ℕ → ℕ → Rule
view text at = rule_said (said (drop at text) (entry (drop at text)))

-- ---- the items before a place are noted

-- the hashes of the rules noted are met
abbrev pub Met : Notes → Type 0
Met n = AllMarked n.seen.now (take n.tally.rules n.keys.now)

pub record SoFar (text : List ℕ) (at : ℕ) (n : Notes) : Type 0 where
  pub short : length text ≤ longest_text
  pub within : at ≤ length text
  pub noted : Kept (view text) at n.tally n.keys.now n.foldings.now
  pub met : Met n

-- of that, what is noted of rules
pub record Held (text : List ℕ) (at : ℕ) (n : Notes) : Type 0 where
  pub within : at ≤ length text
  pub sure : AllSure (view text) at (take n.tally.rules n.keys.now)
  pub met : Met n

-- The verdict on the items from a place on, behind what is noted.
abbrev pub onward : List ℕ → ℕ → Notes → Verdict
onward text at n = verdict (book_of (view text) n.tally n.keys.now n.foldings.now) (items_at text at)

-- ---- what the functions answer

-- keys stand for rules, and the hashes of these are met; a pattern's hash is told
pub record Known (text keys seen pattern : List ℕ) (hash : ℕ) : Type 0 where
  pub sure : AllSure (view text) (length text) keys
  pub slotted : length seen ≡ slots
  pub met : AllMarked seen keys
  pub hashed : hash ≡ hash_of pattern

-- a rule, where its pattern is known and where it is new
abbrev pub NotedAs : Bool → Rule → ℕ → Notes → Notes → Result (Unit {0}) Flaw → Type 0
NotedAs true r at n n' e = DoubleNoted r n.tally (tallied e n'.tally) × SameRules n n'
NotedAs false r at n n' e = RuleNoted r at n.tally n.keys.now n.seen.now n'.keys.now n'.seen.now (tallied e n'.tally)

-- a rule behind those noted
abbrev pub FourNoted : List ℕ → Rule → ℕ → Notes → Notes → Result (Unit {0}) Flaw → Type 0
FourNoted text r at n n' e =
    NotedAs (some (of_pattern r.pattern) (rules_in (view text) (take n.tally.rules n.keys.now))) r at n n' e × SameFoldings n n'

-- the place behind an item
abbrev pub TurnIs : List ℕ → ℕ → Notes → Notes → Result ℕ Fault → Type 0
TurnIs text at n n' (Ok next) = SoFar text next n' × (at < next) × (onward text next n' ≡ onward text at n)
TurnIs text at n n' (Err fault) = onward text at n ≡ Faulty (fault_number fault) at

abbrev pub SurveyIs : List ℕ → Notes → Verdict → Result (Unit {0}) FaultAt → Type 0
SurveyIs text n v (Ok u) =
    Kept (view text) (length text) n.tally n.keys.now n.foldings.now × InOrder n.tally n.keys.now
    × (v ≡ Fine (book_of (view text) n.tally n.keys.now n.foldings.now))
SurveyIs text n v (Err f) = v ≡ Faulty (fault_number f.fault) f.at
