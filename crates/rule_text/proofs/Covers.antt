-- The items of a text stand one behind the other: the first begins at the first byte, each where the one before ends, so their places rise; and where each is
-- recognised they cover each byte of the text once. Assumes nothing.
use Prim.Native.Nat.{ℕ, zero, suc, ◌+◌, ◌<◌, ◌≤◌}
use mathlib.Core.Path.{◌≡◌, refl, sym, subst}
use mathlib.Core.List.{List, [], ◌∷◌}
use native.Mathlib.Omega.{arith}
use lib.ListN.{length, drop}
use Rattle.laws.proofs.Parts.{by_lt}
use Rattle.rule_text.specs.Forms.{entry}
use Rattle.rule_text.specs.Items.{Saying, Item, taken, item_of, followed, items_at, items}
use Rattle.rule_text.specs.Items.Saying.{RuleItem, FoldingItem, LineEndItem, CommentItem, UnknownItem}
use Rattle.rule_text.specs.declared.Entry.{Entry}
use Rattle.rule_text.specs.declared.Entry.TheVariants as E
use Rattle.rule_text.proofs.Walk.{done, within, front}

-- The first begins at a place, each other where the one before ends, and the last ends at another place; each has a byte.
abbrev pub Joined : ℕ → List Item → ℕ → Type 0
Joined at [] end = at ≡ end
Joined at (i ∷ more) end = (i.place ≡ at) × (0 < i.length) × Joined (at + i.length) more end

abbrev pub Known : Saying → Type 0
Known (RuleItem p s v o) = Unit {0}
Known (FoldingItem key target) = Unit {0}
Known LineEndItem = Unit {0}
Known CommentItem = Unit {0}
Known UnknownItem = ⊥

abbrev pub AllKnown : List Item → Type 0
AllKnown [] = Unit {0}
AllKnown (i ∷ more) = Known i.saying × AllKnown more

abbrev pub Rising : List Item → Type 0
Rising [] = Unit {0}
Rising (i ∷ []) = Unit {0}
Rising (i ∷ j ∷ more) = (i.place < j.place) × Rising (j ∷ more)

module _ (text : List ℕ) where
  -- Joined, up to a place within the text; up to its end where each item is recognised.
  abbrev Behind : ℕ → List Item → Type 0
  Behind at is = ((end : ℕ) × (end ≤ length text) × Joined at is end) × (AllKnown is → Joined at is (length text))

  -- The item at a place, with what is joined behind it.
  one : (at : ℕ) (l : List ℕ) (e : Entry) (more : List Item) → 0 < taken l e → at + taken l e ≤ length text → Behind (at + taken l e) more
      → Behind at (item_of at l e ∷ followed e more)
  one at l (E.Rule four) more h w b = ((b.0.0, b.0.1, (refl, h, b.0.2)), λ k. (refl, h, b.1 k.1))
  one at l (E.Folding key target next) more h w b = ((b.0.0, b.0.1, (refl, h, b.0.2)), λ k. (refl, h, b.1 k.1))
  one at l (E.LineEnd next) more h w b = ((b.0.0, b.0.1, (refl, h, b.0.2)), λ k. (refl, h, b.1 k.1))
  one at l (E.Comment next) more h w b = ((b.0.0, b.0.1, (refl, h, b.0.2)), λ k. (refl, h, b.1 k.1))
  one at l E.Unknown more h w b = ((at + taken l E.Unknown, w, (refl, h, refl)), λ k. absurd k.0)

  none : (at : ℕ) → at ≤ length text → length text ≤ at → Behind at (items_at text at)
  none at w h =
      let e : at ≡ length text = omega arith in subst (Behind at) (sym (done text at h)) ((at, w, refl), λ k. e)

  from : (n at : ℕ) → at ≤ length text → length text ≤ at + n → Behind at (items_at text at)
  from zero at w h = none at w (omega arith)
  from (suc n) at w h =
      by_lt at (length text)
      (λ lt.
      let l = drop at text in
      let e = entry l in
      let b = within text at e refl lt in
      let x = b.0 in
      subst (Behind at) (sym (front text at e refl lt)) (one at l e (items_at text (at + taken l e)) (omega arith) b.1 (from n (at + taken l e) b.1 (omega arith))))
      (λ le. none at w le)

  whole : Behind 0 (items text)
  whole = from (length text) 0 (omega arith) (omega arith)

  -- The items stand one behind the other, within the text.
  pub joined : (end : ℕ) × (end ≤ length text) × Joined 0 (items text) end
  joined = whole.0

  -- Where each is recognised they cover the text.
  pub covers : AllKnown (items text) → Joined 0 (items text) (length text)
  covers = whole.1

  -- Their places rise.
  pub rise : Rising (items text)
  rise = let j = joined in go (items text) 0 j.0 j.2
    where
      go : (is : List Item) (at end : ℕ) → Joined at is end → Rising is
      go [] at end j = tt
      go (i ∷ []) at end j = tt
      go (i ∷ k ∷ more) at end j =
          let here = j.0 in
          let some = j.1 in
          let there = j.2.0 in (omega arith, go (k ∷ more) (at + i.length) end j.2)
