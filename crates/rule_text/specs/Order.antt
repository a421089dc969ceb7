-- Two forms fit, and the first in 01's order is taken: a rule before a folding, a folding before a line end. By computation. Assumes nothing.
use Rattle.std.specs.Prelude.{ℕ, ◌≡◌, refl, Some}
use Rattle.laws.specs.Lists.{until}
use Rattle.chars.specs.Quoted.{bytes}
use Rattle.rule_text.specs.Forms.{entry, quadruplet, folding, multiline_comment, end_of_line, ending, comment, blanks, later, pair_at, line_at, part, plain, escaped, part_at, letter_at}
use Rattle.rule_text.specs.declared.Span.{Span}
use Rattle.rule_text.specs.declared.Four.{Four}
use Rattle.rule_text.specs.declared.Pair.{Pair}
use Rattle.rule_text.specs.declared.Entry.TheVariants as E

abbrev span : ℕ → ℕ → Span
span start end = record { start = start; end = end }

abbrev four : Four
four = record { pattern = span 1 5; start = span 8 9; vowel = span 12 13; other = span 16 17; next = 18 }

abbrev pair : ℕ → ℕ → ℕ → Pair
pair key target next = record { key = key; target = target; next = next }

rule_first :
    (quadruplet (bytes "\"=x//\" \"1\" \"1\" \"1\"") ≡ Some four)
    × (folding (bytes "\"=x//\" \"1\" \"1\" \"1\"") ≡ Some (pair 0x22 0x78 18))
    × (entry (bytes "\"=x//\" \"1\" \"1\" \"1\"") ≡ E.Rule four)
unfolding entry quadruplet folding multiline_comment end_of_line ending comment blanks until later pair_at line_at part plain escaped part_at letter_at
rule_first = (refl, refl, refl)

folding_first : (folding (bytes "\n=x") ≡ Some (pair 0x0A 0x78 3)) × (end_of_line (bytes "\n=x") ≡ Some 1) × (entry (bytes "\n=x") ≡ E.Folding 0x0A 0x78 3)
unfolding entry quadruplet folding multiline_comment end_of_line ending comment blanks until later pair_at line_at part plain escaped part_at letter_at
folding_first = (refl, refl, refl)
