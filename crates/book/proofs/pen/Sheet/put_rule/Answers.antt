-- `Sheet::put_rule` meets its contract: four parts, one behind the other (Scripts.wrote_rule). Assumes nothing.
use Rattle.book.specs.Note.{rule_from}
use Rattle.book.proofs.Faults.{clean}
use Rattle.book.proofs.Scripts.{ready_pattern, ready_start, ready_vowel, ready_other, wrote_rule}
use Rattle.book.proofs.pen.Sheet.put_rule.Goals as goal

pub put_pattern-requires : goal.put_pattern-requires
put_pattern-requires c = let r = rule_from c.args.parts in ((clean r 0 c.requires.0).short, ready_pattern r c.requires.1)

pub put_field-requires : goal.put_field-requires
put_field-requires c = let r = rule_from c.args.parts in ((clean r 0 c.requires.0).start, ready_start r c.requires.1 c.put_pattern.ensures)

pub put_field-requires-2 : goal.put_field-requires-2
put_field-requires-2 c =
    let r = rule_from c.args.parts in ((clean r 0 c.requires.0).vowel, ready_vowel r c.requires.1 c.put_pattern.ensures c.put_field.ensures)

pub put_field-requires-3 : goal.put_field-requires-3
put_field-requires-3 c =
    let r = rule_from c.args.parts in
    ((clean r 0 c.requires.0).other, ready_other r c.requires.1 c.put_pattern.ensures c.put_field.ensures c.put_field-2.ensures)

pub returns : goal.returns
returns c = wrote_rule (rule_from c.args.parts) c.requires.1 c.put_pattern.ensures c.put_field.ensures c.put_field-2.ensures c.put_field-3.ensures
