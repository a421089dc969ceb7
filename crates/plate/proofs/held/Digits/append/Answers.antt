-- `plate::held::Digits::append` meets its contract: as many are copied as fit (Filled.appended). Assumes nothing.
use Rattle.std.proofs.Common.{ℕ, ◌+◌, ◌-◌, List, ◌++◌, take, drop, ap, ap₂, ◌∙◌, arith, drop-drop}
use Rattle.plate.specs.Plate.{most_digits}
use Rattle.plate.proofs.Filled.{appended}
use Rattle.plate.proofs.held.Digits.append.Goals as goal

pub invariant_of-result : goal.invariant_of-result
invariant_of-result c =
    let d = c.self.inside in
    let x = c.more.inside in
    let k = c.min-k.result in
    (appended d.bytes x.bytes d.count x.count c.self.invariant c.more.invariant k c.min-k.ensures _ _ c.copy_from_slice.ensures.after
    (drop-drop (d.count + k - d.count) d.count d.bytes ∙ ap (λ (j : ℕ). drop j d.bytes) (omega arith))).0

pub returns : goal.returns
returns c =
    let d = c.self.inside in
    let x = c.more.inside in
    let k = c.min-k.result in
    (appended d.bytes x.bytes d.count x.count c.self.invariant c.more.invariant k c.min-k.ensures _ _ c.copy_from_slice.ensures.after
    (drop-drop (d.count + k - d.count) d.count d.bytes ∙ ap (λ (j : ℕ). drop j d.bytes) (omega arith))).1
    ∙ ap₂ (λ (a b : List ℕ). take most_digits (a ++ b)) c.self.view_is c.more.view_is
