-- Only one answer satisfies an equation: what a promise of the form `r ≡ f x` needs so that nothing else can be answered. Assumes nothing.
use mathlib.Core.Path.{◌≡◌, sym, ◌∙◌}

-- Two answers that are both the one wanted are the same.
pub only : {A : Type 0} {wanted r r' : A} → r ≡ wanted → r' ≡ wanted → r ≡ r'
only e f = e ∙ sym f
