-- Of specs/Order's small texts: the second is the first in another order; the fourth is not the third, nor the sixth the fifth. Assumes nothing.
use Prim.Native.Nat.{ℕ}
use mathlib.Core.Path.{refl, ap}
use mathlib.Core.Bool.{Bool, false, false≢true}
use mathlib.Core.List.{List, [], ◌∷◌}
use lib.Dec.{eqb}
use Rattle.laws.specs.Lists.{same, until, count_of}
use Rattle.chars.specs.Quoted.{bytes}
use Rattle.rule_text.specs.Forms.{entry, quadruplet, folding, multiline_comment, end_of_line, ending, comment, blanks, later, pair_at, line_at, part, plain, escaped, part_at, letter_at, closing}
use Rattle.rule_text.specs.Items.{Saying, items_from}
use Rattle.rule_text.specs.Items.Saying.{RuleItem, FoldingItem, LineEndItem, CommentItem, UnknownItem}
use Rattle.promises.specs.Said.{said_by}
use Rattle.promises.specs.Order.{Reordered, text₁, text₂, text₃, text₄, text₅, text₆}
use Rattle.promises.proofs.Orders.{neighbours, rivals_stay_lem}

pub other_order : Reordered (said_by text₁) (said_by text₂)
unfolding entry quadruplet folding multiline_comment end_of_line ending comment blanks until count_of later pair_at line_at part plain escaped part_at letter_at closing items_from
other_order =
    neighbours [] (RuleItem (bytes "ab") (bytes "3") (bytes "3") (bytes "3") ∷ FoldingItem 0xE0 0x61 ∷ [])
    (RuleItem (bytes "ab") (bytes "1") (bytes "1") (bytes "1")) (RuleItem (bytes "ac") (bytes "2") (bytes "2") (bytes "2")) refl

pub no_order : Reordered (said_by text₃) (said_by text₄) → ⊥
unfolding entry quadruplet folding multiline_comment end_of_line ending comment blanks until count_of later pair_at line_at part plain escaped part_at letter_at closing items_from
no_order r =
    let one = RuleItem (bytes "a") (bytes "1") [] [] in
    let two = RuleItem (bytes "a") (bytes "2") [] [] in
    false≢true (ap (λ (i : Saying). starts (bytes "2") i) (rivals_stay_lem [] [] one two refl r))
  where
    starts : List ℕ → Saying → Bool
    starts l (RuleItem p s v o) = same s l
    starts l (FoldingItem key target) = false
    starts l LineEndItem = false
    starts l CommentItem = false
    starts l UnknownItem = false

pub no_key_order : Reordered (said_by text₅) (said_by text₆) → ⊥
unfolding entry quadruplet folding multiline_comment end_of_line ending comment blanks until count_of later pair_at line_at part plain escaped part_at letter_at closing items_from
no_key_order r =
    let e = rivals_stay_lem [] (RuleItem (bytes "a") (bytes "1") [] [] ∷ []) (FoldingItem 0xE0 0x62) (FoldingItem 0xE0 0x61) refl r in
    false≢true (ap (λ (i : Saying). folds 0x61 i) e)
  where
    folds : ℕ → Saying → Bool
    folds t (RuleItem p s v o) = false
    folds t (FoldingItem key target) = eqb target t
    folds t LineEndItem = false
    folds t CommentItem = false
    folds t UnknownItem = false
