-- The number and the line that build's definition gives meet the table's conditions (specs/When.antt). Assumes nothing.
use Prim.Native.Nat.{ℕ, zero, suc, ◌<◌, ◌≤◌}
use mathlib.Core.Path.{◌≡◌, refl, sym, ap, subst, ◌∙◌}
use mathlib.Core.Logic.{◌⊎◌, inl, inr}
use mathlib.Core.Bool.{Bool, true, false, cond, ◌&&◌, false≢true}
use mathlib.Core.List.{List, [], ◌∷◌, ◌++◌, append_assoc, append-nil}
use native.Mathlib.Omega.{arith}
use borrow.Author.Tests.{eqb-true, eqb-false, ltb-true, ltb-false, leb-true, leb-false}
use lib.Dec.{ltb, leb, eqb}
use lib.ListN.{length}
use Rattle.laws.specs.Lists as lists
use Rattle.laws.specs.Lists.{In, every}
use Rattle.laws.proofs.Tests.{and_true}
use Rattle.laws.proofs.Members.{in_every}
use Rattle.chars.specs.Utf8.{is_text}
use Rattle.rule_text.specs.Items.{Saying, Item, items}
use Rattle.rule_text.specs.Items.Saying.{RuleItem, FoldingItem, LineEndItem, CommentItem, UnknownItem}
use Rattle.rule_text.specs.Fields.{alternatives}
use Rattle.chars.specs.Digits.{is_alternative}
use Rattle.plate.specs.Written.{plate_bytes}
use Rattle.plate.specs.Plate.{same_pattern}
use Rattle.book.specs.Book.{Book, blank, put_folding, folding_of, when, first_fault, field_fault}
use Rattle.builder.specs.Build.{enter, fault, unless, verdict, Built, refusal, answered, delivered, nonzero, build_answer}
use Rattle.promises.specs.Said.{sayings, said_by, rules_of, foldings_of, put_rules, put_foldings}
use Rattle.laws.specs.Once.{once}
use Rattle.promises.specs.When.{Check, NotClean, FieldNumber, keys, ItemNumber, ItemsNumber, BuildNumber}
use Rattle.promises.proofs.Said.{Holds, enter_holds, put_count, knows_keys, in_some, some_in}
use Rattle.promises.proofs.CodedWhen.{every_false}
use Rattle.promises.proofs.OnlyWhen.{item_fault}

-- ---- a row of the first fault

row : (t : Bool) (k : ℕ) (w : Type 0) → (t ≡ true → w) → (t ≡ false → w → ⊥) → (rest : List ℕ) (P : ℕ → Type 0) → P (first_fault rest)
    → (let n = first_fault (when t (suc k) ∷ rest) in Check n (suc k) w (P n))
row true k w a a' rest P below = inl (a refl, refl)
row false k w a a' rest P below = inr (a' refl, below)

field_row : (f : List ℕ) (rest : List ℕ) (P : ℕ → Type 0) → P (first_fault rest) → (let n = first_fault (field_fault (alternatives f) ∷ rest) in FieldNumber f n (P n))
field_row f rest P below =
    go (leb (length (alternatives f)) 8) (every is_alternative (alternatives f)) (λ e. leb-false (length (alternatives f)) 8 e)
    (λ e h. let k = leb-true (length (alternatives f)) 8 e in omega arith) (λ e. every_false is_alternative (alternatives f) e)
    (λ e h. false≢true (sym h.2 ∙ in_every is_alternative (alternatives f) h.0 e h.1))
  where
    go : (few digits : Bool) {w w' : Type 0} → (few ≡ false → w) → (few ≡ true → w → ⊥) → (digits ≡ false → w') → (digits ≡ true → w' → ⊥)
        → (let n = first_fault (cond few (cond digits 0 7) 6 ∷ rest) in Check n 6 w (Check n 7 w' (P n)))
    go false digits a a' b b' = inl (a refl, refl)
    go true false a a' b b' = inr (a' refl, inl (b refl, refl))
    go true true a a' b b' = inr (a' refl, inr (b' refl, below))

-- ---- an item

module _ (rules : ℕ) where
  abbrev Eight : ℕ → Type 0
  Eight n = Check n 8 (1500 ≤ rules) (n ≡ 0)

rule_number : (p s v o : List ℕ) (before : List Saying) (n : ℕ) → n ≡ length (rules_of before)
    → ItemNumber before (RuleItem p s v o) (first_fault (when (eqb (length p) 0) 4 ∷ when (ltb 16 (length p)) 5 ∷ field_fault (alternatives s) ∷ field_fault
    (alternatives v) ∷ field_fault (alternatives o) ∷ when (leb 1500 n) 8 ∷ []))
rule_number p s v o before n e =
    let last : List ℕ = when (leb 1500 n) 8 ∷ [] in
    let third : List ℕ = field_fault (alternatives o) ∷ last in
    let second : List ℕ = field_fault (alternatives v) ∷ third in
    let first : List ℕ = field_fault (alternatives s) ∷ second in
    let End : ℕ → Type 0 = Eight (length (rules_of before)) in
    let Third : ℕ → Type 0 = λ m. FieldNumber o m (End m) in
    let Second : ℕ → Type 0 = λ m. FieldNumber v m (Third m) in
    let First : ℕ → Type 0 = λ m. FieldNumber s m (Second m) in
    row (eqb (length p) 0) 3 (p ≡ []) (λ h. empty p (eqb-true (length p) 0 h)) (λ h q. eqb-false (length p) 0 h (ap length q))
    (when (ltb 16 (length p)) 5 ∷ first) (λ m. Check m 5 (16 < length p) (First m))
    (row (ltb 16 (length p)) 4 (16 < length p) (λ h. ltb-true 16 (length p) h) (λ h q. let k = ltb-false 16 (length p) h in omega arith) first First
    (field_row s second Second
    (field_row v third Third
    (field_row o last End
    (row (leb 1500 n) 7 (1500 ≤ length (rules_of before)) (λ h. let k = leb-true 1500 n h in omega arith) (λ h q. let k = leb-false 1500 n h in omega arith) [] (λ m. m ≡ 0) refl)))))
  where
    empty : (l : List ℕ) → length l ≡ 0 → l ≡ []
    empty [] h = refl
    empty (x ∷ l) h = absurd (omega arith)

folding_number : (key target : ℕ) (before : List Saying) (b : Book) → Holds before b → length b.foldings ≤ 128
    → ItemNumber before (FoldingItem key target) (when (ltb 128 (length (put_folding (folding_of key target) b.foldings))) 8)
folding_number key target before b h few =
    let known = keys [] (foldings_of before) in
    let k = knows_keys before b h in
    let many = k.many in
    let put = put_count (folding_of key target) b.foldings k.up ∙ ap (λ (t : Bool). cond t (length b.foldings) (suc (length b.foldings))) (k.has key) in
    let over = length (put_folding (folding_of key target) b.foldings) in
    go (ltb 128 over) (lists.some (eqb key) known) refl (λ e. ltb-true 128 over e) (λ e. ltb-false 128 over e) put many
  where
    go : (t has : Bool) → lists.some (eqb key) (keys [] (foldings_of before)) ≡ has
        → (t ≡ true → 128 < length (put_folding (folding_of key target) b.foldings)) → (t ≡ false → length (put_folding (folding_of key target) b.foldings) ≤ 128)
        → length (put_folding (folding_of key target) b.foldings) ≡ cond has (length b.foldings) (suc (length b.foldings)) → length b.foldings ≡ length (keys [] (foldings_of before))
        → ItemNumber before (FoldingItem key target) (when t 8)
    go true true e a a' put many = let m = a refl in absurd (omega arith)
    go true false e a a' put many = let m = a refl in inl ((omega arith, (λ i. false≢true (sym e ∙ in_some key (keys [] (foldings_of before)) i))), refl)
    go false true e a a' put many = inr ((λ w. w.1 (some_in key (keys [] (foldings_of before)) e)), refl)
    go false false e a a' put many = let m = a' refl in inr ((λ w. let l = w.0 in omega arith), refl)

item_number : (before : List Saying) (i : Saying) (b : Book) → Holds before b → length b.foldings ≤ 128 → ItemNumber before i (fault i b)
item_number before (RuleItem p s v o) b h few = rule_number p s v o before b.read h.read
item_number before (FoldingItem key target) b h few = folding_number key target before b h few
item_number before LineEndItem b h few = refl
item_number before CommentItem b h few = refl
item_number before UnknownItem b h few = refl

-- An item without fault keeps the foldings few.
still_few : (i : Saying) (b : Book) → fault i b ≡ 0 → length b.foldings ≤ 128 → length (enter i b).foldings ≤ 128
still_few (RuleItem p s v o) b e h = h
still_few (FoldingItem key target) b e h = go (ltb 128 (length (put_folding (folding_of key target) b.foldings))) e (λ f. ltb-false 128 (length (put_folding (folding_of key target) b.foldings)) f)
  where
    go : (t : Bool) → when t 8 ≡ 0 → (t ≡ false → length (put_folding (folding_of key target) b.foldings) ≤ 128) → length (put_folding (folding_of key target) b.foldings) ≤ 128
    go true z f = absurd (omega arith)
    go false z f = f refl
still_few LineEndItem b e h = h
still_few CommentItem b e h = h
still_few UnknownItem b e h = h

-- ---- the items

-- The plate of what is said.
abbrev bytes_said : Bool → List Saying → List ℕ
bytes_said flag is = plate_bytes (record { flag = flag; foldings = put_foldings [] (foldings_of is); rules = put_rules [] (once same_pattern (rules_of is)) })

-- what a number and a line meet behind the items
abbrev Met : List ℕ → Bool → List ℕ → List Saying → List Saying → List Item → Built → Type 0
Met text flag lent all before is a =
    ItemsNumber text before is a.number a.line (Check a.number 9 (length lent < length (bytes_said flag all)) (a.number ≡ 0))
    × (((3 ≤ a.number) × (a.number ≤ 8) → ⊥) → a.line ≡ 0)

delivered_number : (plate lent : List ℕ) → (let n = (delivered plate lent).number in Check n 9 (length lent < length plate) (n ≡ 0) × ((delivered plate lent).line ≡ 0))
delivered_number plate lent = go (ltb (length lent) (length plate)) (λ e. ltb-true (length lent) (length plate) e) (λ e. ltb-false (length lent) (length plate) e)
  where
    go : (t : Bool) → (t ≡ true → length lent < length plate) → (t ≡ false → length plate ≤ length lent)
        → (let a = cond t (refusal 9 0 lent) (record { number = 0; line = 0; length = length plate; buffer = plate ++ lib.ListN.drop (length plate) lent }) in
        Check a.number 9 (length lent < length plate) (a.number ≡ 0) × (a.line ≡ 0))
    go true a a' = (inl (a refl, refl), refl)
    go false a a' = (inr ((λ w. let m = a' refl in omega arith), refl), refl)

items_met : (text : List ℕ) (flag : Bool) (lent : List ℕ) (all before : List Saying) (b : Book) (is : List Item) → before ++ sayings is ≡ all → Holds before b
    → length b.foldings ≤ 128 → Met text flag lent all before is (answered text flag lent (verdict b is))
unfolding verdict
items_met text flag lent all before b [] e h few =
    let same : before ≡ all = sym (append-nil before) ∙ e in
    let d = delivered_number (plate_bytes (record { flag = flag; foldings = b.foldings; rules = b.rules })) lent in
    let said : plate_bytes (record { flag = flag; foldings = b.foldings; rules = b.rules }) ≡ bytes_said flag all =
    (λ j. plate_bytes (record { flag = flag; foldings = h.foldings j; rules = h.rules j })) ∙ ap (bytes_said flag) same in (
      subst (λ (s : List ℕ). let n = (delivered (plate_bytes (record { flag = flag; foldings = b.foldings; rules = b.rules })) lent).number in Check n 9 (length lent < length s) (n ≡ 0))
          said d.0,
      (λ r. d.1),
    )
items_met text flag lent all before b (i ∷ is) e h few =
    let s = i.saying in
    go (fault s b) (item_number before s b h few)
    (λ f. items_met text flag lent all (before ++ (s ∷ [])) (enter s b) is (append_assoc before (s ∷ []) (sayings is) ∙ e) (enter_holds before s b h) (still_few s b f few))
  where
    go : (n : ℕ) → ItemNumber before i.saying n
        → (n ≡ 0 → Met text flag lent all (before ++ (i.saying ∷ [])) is (answered text flag lent (verdict (enter i.saying b) is)))
        → Met text flag lent all before (i ∷ is) (answered text flag lent (unless n i.place (verdict (enter i.saying b) is)))
    go zero f below = let m = below refl in (inr (f, m.0), m.1)
    go (suc n) f below = (inl (f, (λ z. omega arith), refl), (λ r. absurd (no (item_fault before i.saying (suc n) f) r)))
      where
        no : ((3 ≤ suc n) × (suc n ≤ 8)) ⊎ (suc n ≡ 0) → ((3 ≤ suc n) × (suc n ≤ 8) → ⊥) → ⊥
        no (inl x) r = r x
        no (inr x) r = omega arith

-- ---- build

clean : (text : List ℕ) → is_text text && every nonzero text ≡ false → NotClean text
clean text e = go (is_text text) refl e (λ f. every_false nonzero text f)
  where
    go : (t : Bool) → is_text text ≡ t → t && every nonzero text ≡ false → (every nonzero text ≡ false → (x : ℕ) × In x text × (nonzero x ≡ false)) → NotClean text
    go false f h zeros = inl f
    go true f h zeros =
        let z = zeros h in
        let low = ltb-false 0 z.0 z.2 in
        let none : z.0 ≡ 0 = omega arith in
        inr (subst (λ (x : ℕ). In x text) none z.1)

not_clean : (text : List ℕ) → is_text text && every nonzero text ≡ true → NotClean text → ⊥
not_clean text e (inl h) = let a = and_true (is_text text) (every nonzero text) e in false≢true (sym h ∙ a.0)
not_clean text e (inr h) =
    let a = and_true (is_text text) (every nonzero text) e in
    let up = ltb-true 0 0 (in_every nonzero text 0 a.1 h) in omega arith

pub build_number : (text : List ℕ) (flag : Bool) (lent : List ℕ) → (let a = build_answer text flag lent in BuildNumber text flag lent a.number a.line)
unfolding build_answer
build_number text flag lent =
    go (ltb 65536 (length text)) (is_text text && every nonzero text) (λ e. ltb-true 65536 (length text) e) (λ e h. let k = ltb-false 65536 (length text) e in omega arith)
    (λ e. clean text e) (λ e. not_clean text e)
    (items_met text flag lent (said_by text) [] blank (items text) refl (record { rules = refl; read = refl; foldings = refl }) (omega arith))
  where
    go : (long fine : Bool) {w₁ w₂ : Type 0} → (long ≡ true → w₁) → (long ≡ false → w₁ → ⊥) → (fine ≡ false → w₂) → (fine ≡ true → w₂ → ⊥)
        → Met text flag lent (said_by text) [] (items text) (answered text flag lent (verdict blank (items text)))
        → (let a = cond long (refusal 1 0 lent) (cond fine (answered text flag lent (verdict blank (items text))) (refusal 2 0 lent)) in
        Check a.number 1 w₁
        (Check a.number 2 w₂
        (ItemsNumber text [] (items text) a.number a.line (Check a.number 9 (length lent < length (bytes_said flag (said_by text))) (a.number ≡ 0))))
        × (((3 ≤ a.number) × (a.number ≤ 8) → ⊥) → a.line ≡ 0))
    go true fine a a' b b' m = (inl (a refl, refl), (λ r. refl))
    go false false a a' b b' m = (inr (a' refl, inl (b refl, refl)), (λ r. refl))
    go false true a a' b b' m = (inr (a' refl, inr (b' refl, m.0)), m.1)
