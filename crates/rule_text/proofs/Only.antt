-- Only one answer satisfies each promise of this crate, for each says its answer by an equation. Assumes nothing.
use mathlib.Core.Path.{◌≡◌}
use mathlib.Core.List.{List}
use Prim.Native.Nat.{ℕ}
use lib.ListN.{length}
use Rattle.std.specs.Prelude.{Option}
use Rattle.laws.proofs.Only.{only}
use Rattle.rule_text.specs.Forms.{end_of_line, inside, quadruplet, folding, multiline_comment, entry}
use Rattle.rule_text.specs.Items.{line_of}
use Rattle.rule_text.specs.Answers.{EndsLine, HoldsFour, Pairs, Comments, Lies}
use Rattle.rule_text.specs.declared.Span.{Span}
use Rattle.rule_text.specs.declared.Four.{Four}
use Rattle.rule_text.specs.declared.Pair.{Pair}
use Rattle.rule_text.specs.declared.Entry.{Entry}

module _ (l : List ℕ) where
  pub only_end_of_line : (r r' : Option ℕ) → (r ≡ end_of_line l) × EndsLine (length l) r → (r' ≡ end_of_line l) × EndsLine (length l) r' → r ≡ r'
  only_end_of_line r r' e f = only e.0 f.0

  pub only_quadruplet : (r r' : Option Four) → (r ≡ quadruplet l) × HoldsFour (length l) r → (r' ≡ quadruplet l) × HoldsFour (length l) r' → r ≡ r'
  only_quadruplet r r' e f = only e.0 f.0

  pub only_folding : (r r' : Option Pair) → (r ≡ folding l) × Pairs (length l) r → (r' ≡ folding l) × Pairs (length l) r' → r ≡ r'
  only_folding r r' e f = only e.0 f.0

  pub only_multiline_comment : (r r' : Option ℕ) → (r ≡ multiline_comment l) × Comments (length l) r → (r' ≡ multiline_comment l) × Comments (length l) r' → r ≡ r'
  only_multiline_comment r r' e f = only e.0 f.0

  pub only_item : (r r' : Entry) → (r ≡ entry l) × Lies (length l) r → (r' ≡ entry l) × Lies (length l) r' → r ≡ r'
  only_item r r' e f = only e.0 f.0

  pub only_line_of : (at r r' : ℕ) → r ≡ line_of l at → r' ≡ line_of l at → r ≡ r'
  only_line_of at r r' e f = only e f

  pub only_bytes_in : (s : Span) (r r' : List ℕ) → r ≡ inside l s → r' ≡ inside l s → r ≡ r'
  only_bytes_in s r r' e f = only e f
