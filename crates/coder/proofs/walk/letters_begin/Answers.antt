-- `walk::letters_begin` meets its contract. The loop keeps: what is left of the pattern begins the characters left exactly if the whole pattern begins them
-- all. Assumes nothing.
use Rattle.std.proofs.Common.{ℕ, List, length, ap, sym, ◌∙◌, arith, zero-add}
use Rattle.laws.specs.Lists.{begins}
use Rattle.plate.specs.Stands.{letters_from}
use Rattle.plate.proofs.Parts.{mark_start}
use Rattle.coder.proofs.Patterns.{all, pattern_start, pattern_end}
use Rattle.coder.proofs.walk.letters_begin.Goals as goal

pub loop-k-init : goal.loop-k-init
loop-k-init c =
    let r = c.args.rule.now in
    let s = r.bytes.now in (
      omega arith,
      omega arith,
      mark_start s r.at r.stands,
      zero-add (length (letters_from s r.at 0)) ∙ ap length (pattern_start s r.at),
      ap (λ (l : List ℕ). begins l c.args.rest.now) (pattern_start s r.at),
    )

pub returns : goal.returns
returns c =
    let r = c.args.rule.now in
    let i = c.loop-k.invariant in
    let n = c.pattern_length-n.ensures in
    let none_left = pattern_end r.bytes.now r.at c.loop-k.k (omega (arith, c.loop-k-test.false, n.0)) in
    let z = ap length none_left in
    (sym i.4 ∙ all (letters_from r.bytes.now r.at c.loop-k.k) c.args.rest.now c.loop-k.count none_left, omega (arith, i.3, z), omega (arith, i.0, i.1, n.2))
