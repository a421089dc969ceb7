-- `plate::note::NotedPlate::rules_below` meets its contract by halves (Halves.Halving): the rule in the middle tells of all before it, or of all behind it.
-- Assumes nothing.
use Rattle.std.proofs.Common.{◌≡◌, ◌+◌, ◌-◌, ◌/◌, get_or, sym, ap, ◌∙◌, arith}
use Rattle.plate.specs.Plate.{first_code}
use Rattle.plate.specs.Read.{plate_in, rule_at}
use Rattle.plate.specs.declared.Letter.{Letter}
use Rattle.plate.proofs.Facts.{rules_ordered}
use Rattle.plate.proofs.Parts.{pattern_some, mark_start}
use Rattle.plate.proofs.Halves.{halving_up, halving_down}
use Rattle.plate.proofs.note.NotedPlate.rules_below.Goals as goal

pub pattern_char-letter-requires : goal.pattern_char-letter-requires
pattern_char-letter-requires c =
    let r = c.rule.result in (mark_start r.bytes.now r.at r.stands, pattern_some r.bytes.now r.at r.stands)

pub loop-low-preserved-then-letter-c : goal.loop-low-preserved-then-letter-c
loop-low-preserved-then-letter-c c =
    let s = c.args.self.now.bytes.now in
    let l = c.loop-low in
    let d = rule_at s 0 in
    let middle = l.low + (l.high - l.low) / 2 in
    let first : first_code (get_or (plate_in s).rules middle d) ≡ c.pattern_char-letter.result.code =
    ap first_code (c.rule.ensures.1 d) ∙ sym (ap (λ (x : Letter). x.code) c.pattern_char-letter.ensures.is) in
    halving_up (plate_in s).rules c.args.c l.low l.high middle l.invariant d (rules_ordered s c.args.self.now.is_accepted) (omega arith) (omega arith)

pub loop-low-preserved : goal.loop-low-preserved
loop-low-preserved c =
    let s = c.args.self.now.bytes.now in
    let l = c.loop-low in
    let d = rule_at s 0 in
    let middle = l.low + (l.high - l.low) / 2 in
    let first : first_code (get_or (plate_in s).rules middle d) ≡ c.pattern_char-letter.result.code =
    ap first_code (c.rule.ensures.1 d) ∙ sym (ap (λ (x : Letter). x.code) c.pattern_char-letter.ensures.is) in
    halving_down (plate_in s).rules c.args.c l.low l.high middle l.invariant d (rules_ordered s c.args.self.now.is_accepted) (omega arith) (omega arith)
    (omega arith)
