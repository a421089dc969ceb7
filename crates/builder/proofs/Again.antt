-- The rule at the place of a key, read again: it is one, for what says none reads as one without a pattern, and that is
-- never noted. Assumes nothing.
use Prim.Native.Nat.{ℕ}
use mathlib.Core.Path.{◌≡◌, refl, sym, ◌∙◌, ap, subst}
use mathlib.Core.List.{List}
use native.Mathlib.Omega.{arith}
use lib.ListN.{length, drop}
use Rattle.laws.proofs.Lists.{rest}
use Rattle.laws.proofs.Parts.{lent}
use Rattle.rule_text.specs.Forms.{entry}
use Rattle.rule_text.specs.Items.{said}
use Rattle.rule_text.specs.declared.Four.{Four}
use Rattle.rule_text.specs.declared.Entry.{Entry}
use Rattle.rule_text.specs.declared.Entry.TheVariants as E
use Rattle.plate.specs.Plate.{Rule}
use Rattle.book.specs.Book.{rule_fault}
use Rattle.book.specs.Note.{place_in, Sure}
use Rattle.builder.specs.Survey.{rule_in, rule_said, view}

-- as each form says
abbrev pub IsRule : Entry → Type 0
IsRule (E.Rule four) = Unit {0}
IsRule (E.Folding key target next) = ⊥
IsRule (E.LineEnd next) = ⊥
IsRule (E.Comment next) = ⊥
IsRule E.Unknown = ⊥

-- Where a rule is read again, the other arm is never taken.
pub other_arm : (r : Entry) → IsRule r → ((four : Four) → r ≡ E.Rule four → ⊥) → ⊥
other_arm (E.Rule four) f k = k four refl
other_arm (E.Folding key target next) f k = f
other_arm (E.LineEnd next) f k = f
other_arm (E.Comment next) f k = f
other_arm E.Unknown f k = f

module _ (text : List ℕ) (k : ℕ) {r : Entry} (says : r ≡ entry (lent (place_in k) text)) where
  abbrev left : List ℕ
  left = drop (place_in k) text

  again : view text (place_in k) ≡ rule_said (said left r)
  unfolding view
  again = ap (λ (e : Entry). rule_said (said left e)) (sym (says ∙ ap entry (rest (place_in k) text)))

  module _ (s : Sure (view text) (length text) k) where
    pub noted_rule : IsRule r
    noted_rule = go r (subst (λ (q : Rule). rule_fault q 0 ≡ 0) again s.fine)
      where
        go : (e : Entry) → rule_fault (rule_said (said left e)) 0 ≡ 0 → IsRule e
        go (E.Rule four) z = tt
        go (E.Folding key target next) z = omega arith
        go (E.LineEnd next) z = omega arith
        go (E.Comment next) z = omega arith
        go E.Unknown z = omega arith

    module _ (four : Four) (is : r ≡ E.Rule four) where
      pub viewed_again : view text (place_in k) ≡ rule_in (lent (place_in k) text) four
      viewed_again =
          again ∙ ap (λ (e : Entry). rule_said (said left e)) is ∙ ap (λ (l : List ℕ). rule_in l four) (sym (rest (place_in k) text))
