-- The table's conditions (specs/When.antt) exclude each other: no two numbers, places or lines meet them for one input. So a number comes back exactly when
-- its condition holds and none before it. And only numbers of the table meet them. Assumes nothing.
use Prim.Native.Nat.{ℕ, zero, suc, ◌<◌, ◌≤◌}
use mathlib.Core.Path.{◌≡◌, refl, sym, subst, ◌∙◌}
use mathlib.Core.Logic.{◌⊎◌, inl, inr}
use mathlib.Core.Bool.{Bool, true}
use mathlib.Core.List.{List, [], ◌∷◌, ◌++◌}
use native.Mathlib.Omega.{arith}
use lib.Dec.{eqb}
use lib.ListN.{length}
use Rattle.laws.specs.Lists.{In, some}
use Rattle.rule_text.specs.Items.{Saying, Item, items}
use Rattle.rule_text.specs.Items.Saying.{RuleItem, FoldingItem, LineEndItem, CommentItem, UnknownItem}
use Rattle.promises.specs.Demands.{build_numbers, code_numbers}
use Rattle.promises.specs.When.{Check, Overfull, NameNumber, ListNumber, EncodeNumber, FieldNumber, ItemNumber, ItemsNumber, BuildNumber, Exclusive}
use Rattle.promises.proofs.Said.{some_in}
use Rattle.promises.proofs.Placed.{place_only}

-- ---- two numbers

pub check_only : {when else else' : Type 0} (m : ℕ) {n n' : ℕ} → (else → else' → n ≡ n') → Check n m when else → Check n' m when else' → n ≡ n'
check_only m f (inl a) (inl b) = a.1 ∙ sym b.1
check_only m f (inl a) (inr b) = absurd (b.0 a.0)
check_only m f (inr a) (inl b) = absurd (a.0 b.0)
check_only m f (inr a) (inr b) = f a.1 b.1

answered : {n n' : ℕ} → n ≡ 0 → n' ≡ 0 → n ≡ n'
answered a b = a ∙ sym b

name_only : (name : List ℕ) (full : Type 0) (n n' : ℕ) → NameNumber name full n → NameNumber name full n' → n ≡ n'
name_only name full n n' = check_only 1 (check_only 2 (check_only 11 (check_only 12 answered)))

list_only : (plate name lent : List ℕ) (n place n' place' : ℕ) → ListNumber plate name lent n place → ListNumber plate name lent n' place'
    → (n ≡ n') × (place ≡ place')
list_only plate name lent n place n' place' a b =
    let e = check_only 10 (name_only name (Overfull plate name lent) n n') a.0 b.0 in (e, place_only name n n' place place' e a.1 b.1)

encode_only : (plate name lent : List ℕ) (n place n' place' : ℕ) → EncodeNumber plate name lent n place → EncodeNumber plate name lent n' place'
    → (n ≡ n') × (place ≡ place')
encode_only plate name lent n place n' place' a b =
    let e = check_only 10 (name_only name (length lent < 6) n n') a.0 b.0 in (e, place_only name n n' place place' e a.1 b.1)

field_only : {else else' : Type 0} (f : List ℕ) {n n' : ℕ} → (else → else' → n ≡ n') → FieldNumber f n else → FieldNumber f n' else' → n ≡ n'
field_only f go = check_only 6 (check_only 7 go)

item_only : (before : List Saying) (i : Saying) (n n' : ℕ) → ItemNumber before i n → ItemNumber before i n' → n ≡ n'
item_only before (RuleItem p s v o) n n' = check_only 4 (check_only 5 (field_only s (field_only v (field_only o (check_only 8 answered)))))
item_only before (FoldingItem key target) n n' = check_only 8 answered
item_only before LineEndItem n n' = answered
item_only before CommentItem n n' = answered
item_only before UnknownItem n n' = λ a b. a ∙ sym b

-- ---- and two lines

abbrev Same : ℕ → ℕ → ℕ → ℕ → Type 0
Same n line n' line' = (n ≡ n') × (line ≡ line')

items_only : {else else' : Type 0} (text : List ℕ) (before : List Saying) (is : List Item) (n line n' line' : ℕ) → (else → else' → Same n line n' line')
    → ItemsNumber text before is n line else → ItemsNumber text before is n' line' else' → Same n line n' line'
items_only text before [] n line n' line' f a b = f a b
items_only text before (i ∷ is) n line n' line' f (inl a) (inl b) = (item_only before i.saying n n' a.0 b.0, a.2 ∙ sym b.2)
items_only text before (i ∷ is) n line n' line' f (inl a) (inr b) = absurd (a.1 (item_only before i.saying n 0 a.0 b.0))
items_only text before (i ∷ is) n line n' line' f (inr a) (inl b) = absurd (b.1 (item_only before i.saying n' 0 b.0 a.0))
items_only text before (i ∷ is) n line n' line' f (inr a) (inr b) = items_only text (before ++ (i.saying ∷ [])) is n line n' line' f a.1 b.1

-- outside 3 to 8
abbrev Lineless : ℕ → ℕ → Type 0
Lineless n line = ((3 ≤ n) × (n ≤ 8) → ⊥) → line ≡ 0

no_line : (m n line : ℕ) → (m < 3) ⊎ (8 < m) → n ≡ m → Lineless n line → line ≡ 0
no_line m n line (inl h) e f = f (λ r. let a = r.0 in omega arith)
no_line m n line (inr h) e f = f (λ r. let a = r.1 in omega arith)

check_both : {when else else' : Type 0} (m n line n' line' : ℕ) → (m < 3) ⊎ (8 < m) → Lineless n line → Lineless n' line' → (else → else' → Same n line n' line')
    → Check n m when else → Check n' m when else' → Same n line n' line'
check_both m n line n' line' h f f' go (inl a) (inl b) = (a.1 ∙ sym b.1, no_line m n line h a.1 f ∙ sym (no_line m n' line' h b.1 f'))
check_both m n line n' line' h f f' go (inl a) (inr b) = absurd (b.0 a.0)
check_both m n line n' line' h f f' go (inr a) (inl b) = absurd (a.0 b.0)
check_both m n line n' line' h f f' go (inr a) (inr b) = go a.1 b.1

build_only : (text : List ℕ) (flag : Bool) (lent : List ℕ) (n line n' line' : ℕ) → BuildNumber text flag lent n line → BuildNumber text flag lent n' line'
    → (n ≡ n') × (line ≡ line')
build_only text flag lent n line n' line' a b =
    check_both 1 n line n' line' (inl (omega arith)) a.1 b.1
    (check_both 2 n line n' line' (inl (omega arith)) a.1 b.1
    (items_only text [] (items text) n line n' line'
    (check_both 9 n line n' line' (inr (omega arith)) a.1 b.1
    (λ x y. (x ∙ sym y, no_line 0 n line (inl (omega arith)) x a.1 ∙ sym (no_line 0 n' line' (inl (omega arith)) y b.1)))))) a.0 b.0

pub exclusive : Exclusive
exclusive = (list_only, encode_only, build_only)

-- ---- only numbers of the table

check_in : {when else : Type 0} (l : List ℕ) (m : ℕ) {n : ℕ} → In m l → (else → In n l) → Check n m when else → In n l
check_in l m h go (inl a) = subst (λ (k : ℕ). In k l) (sym a.1) h
check_in l m h go (inr a) = go a.1

zero_in : (l : List ℕ) {n : ℕ} → In 0 l → n ≡ 0 → In n l
zero_in l h e = subst (λ (k : ℕ). In k l) (sym e) h

-- one of the table's, by its place
abbrev at : (m : ℕ) (l : List ℕ) → some (eqb m) l ≡ true → In m l
at m l e = some_in m l e

module _ (name : List ℕ) (full : Type 0) (n : ℕ) where
  name_in : NameNumber name full n → In n code_numbers
  name_in =
      check_in code_numbers 1 (at 1 code_numbers refl)
      (check_in code_numbers 2 (at 2 code_numbers refl)
      (check_in code_numbers 11 (at 11 code_numbers refl) (check_in code_numbers 12 (at 12 code_numbers refl) (zero_in code_numbers (at 0 code_numbers refl)))))

  pub coded_in : {when : Type 0} → Check n 10 when (NameNumber name full n) → In n code_numbers
  coded_in = check_in code_numbers 10 (at 10 code_numbers refl) name_in

-- an item's: 3 to 8, or 0 for none
abbrev Faulted : ℕ → Type 0
Faulted n = ((3 ≤ n) × (n ≤ 8)) ⊎ (n ≡ 0)

check_fault : {when else : Type 0} (m : ℕ) {n : ℕ} → (3 ≤ m) × (m ≤ 8) → (else → Faulted n) → Check n m when else → Faulted n
check_fault m h go (inl a) = let l = h.0 in let u = h.1 in let e = a.1 in inl (omega arith, omega arith)
check_fault m h go (inr a) = go a.1

field_fault : {else : Type 0} (f : List ℕ) {n : ℕ} → (else → Faulted n) → FieldNumber f n else → Faulted n
field_fault f go = check_fault 6 (omega arith, omega arith) (check_fault 7 (omega arith, omega arith) go)

pub item_fault : (before : List Saying) (i : Saying) (n : ℕ) → ItemNumber before i n → Faulted n
item_fault before (RuleItem p s v o) n =
    check_fault 4 (omega arith, omega arith)
    (check_fault 5 (omega arith, omega arith) (field_fault s (field_fault v (field_fault o (check_fault 8 (omega arith, omega arith) inr)))))
item_fault before (FoldingItem key target) n = check_fault 8 (omega arith, omega arith) inr
item_fault before LineEndItem n = inr
item_fault before CommentItem n = inr
item_fault before UnknownItem n = λ e. inl (omega arith, omega arith)

-- a number of an item is one of build's
fault_in : (n : ℕ) → Faulted n → In n build_numbers
fault_in n (inr e) = zero_in build_numbers (at 0 build_numbers refl) e
fault_in zero (inl h) = at 0 build_numbers refl
fault_in (suc zero) (inl h) = at 1 build_numbers refl
fault_in (suc (suc zero)) (inl h) = at 2 build_numbers refl
fault_in (suc (suc (suc zero))) (inl h) = at 3 build_numbers refl
fault_in (suc (suc (suc (suc zero)))) (inl h) = at 4 build_numbers refl
fault_in (suc (suc (suc (suc (suc zero))))) (inl h) = at 5 build_numbers refl
fault_in (suc (suc (suc (suc (suc (suc zero)))))) (inl h) = at 6 build_numbers refl
fault_in (suc (suc (suc (suc (suc (suc (suc zero))))))) (inl h) = at 7 build_numbers refl
fault_in (suc (suc (suc (suc (suc (suc (suc (suc zero)))))))) (inl h) = at 8 build_numbers refl
fault_in (suc (suc (suc (suc (suc (suc (suc (suc (suc n))))))))) (inl h) = let u = h.1 in absurd (omega arith)

items_in : {else : Type 0} (text : List ℕ) (before : List Saying) (is : List Item) (n line : ℕ) → (else → In n build_numbers)
    → ItemsNumber text before is n line else → In n build_numbers
items_in text before [] n line go a = go a
items_in text before (i ∷ is) n line go (inl a) = fault_in n (item_fault before i.saying n a.0)
items_in text before (i ∷ is) n line go (inr a) = items_in text (before ++ (i.saying ∷ [])) is n line go a.1

pub build_in : (text : List ℕ) (flag : Bool) (lent : List ℕ) (n line : ℕ) → BuildNumber text flag lent n line → In n build_numbers
build_in text flag lent n line a =
    check_in build_numbers 1 (at 1 build_numbers refl)
    (check_in build_numbers 2 (at 2 build_numbers refl)
    (items_in text [] (items text) n line
    (check_in build_numbers 9 (at 9 build_numbers refl) (zero_in build_numbers (at 0 build_numbers refl))))) a.0
