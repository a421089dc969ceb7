-- M-113, from sayings to calls: of each pattern a plate holds the rules said in their order, and each key folds to its last target. So the plates that two
-- orders say have the same first rule for each pattern and fold alike, and the calls by them answer alike (order, Calls.same_answers). Assumes nothing.
use Prim.Native.Nat.{ℕ}
use mathlib.Core.Path.{◌≡◌, refl, sym, ap, ap₂, subst, ◌∙◌}
use mathlib.Core.Bool.{Bool, true, false, cond, false≢true}
use mathlib.Core.List.{List, [], ◌∷◌, ◌++◌, append_assoc, append-nil}
use native.Mathlib.Omega.{arith}
use borrow.Author.Tests.{ltb-true, eqb-true, ne_eqb}
use lib.Dec.{ltb, eqb}
use lib.ListN.{length, take, drop}
use lib.Seq.{take-append_seam}
use Rattle.laws.specs.Lists.{keep, same}
use Rattle.laws.specs.Once.{once}
use Rattle.laws.proofs.Same.{same_equal}
use Rattle.rule_text.specs.Fields.{bar}
use Rattle.rule_text.specs.Items.{Saying}
use Rattle.rule_text.specs.Items.Saying.{RuleItem, FoldingItem, LineEndItem, CommentItem, UnknownItem}
use Rattle.plate.specs.Plate.{Folding, Rule, good_plate, may_precede, ordered, of_pattern, same_pattern}
use Rattle.plate.specs.Written.{plate_bytes}
use Rattle.plate.specs.Read.{fold_by}
use Rattle.plate.proofs.Packed.{Bytes}
use Rattle.plate.proofs.Halves.{ordered_tail}
use Rattle.book.specs.Book.{put_rule, put_folding, rule_of}
use Rattle.book.proofs.Sorted.{put_ordered}
use Rattle.builder.specs.Build.{build_answer}
use Rattle.coder.specs.Answer.{Coded, list_answer, encode_answer}
use Rattle.zengilvar.specs.Numbers.{built}
use Rattle.zengilvar.specs.declared.DmBuilt.{DmBuilt}
use Rattle.order.specs.Order.{SameRules}
use Rattle.order.specs.Claims.{SameAnswers}
use Rattle.order.proofs.Ordered.{none_of}
use Rattle.order.proofs.Order.{once_rules, order_alike}
use Rattle.order.proofs.Calls.{UsedAlike, same_answers}
use Rattle.promises.specs.Said.{said_by, rules_of, foldings_of, put_rules, put_foldings, plate_said, IsPlate}
use Rattle.promises.specs.Order.{pattern_is, key_is, Reordered, OrderFree}
use Rattle.promises.proofs.CodedWhen.{plate_read}
use Rattle.promises.proofs.Calls.{builds}

-- ---- a rule that is put goes behind those of its pattern

keep_put : (p : List ℕ) (r : Rule) (rs : List Rule) → ordered rs ≡ true → keep (of_pattern p) (put_rule r rs) ≡ keep (of_pattern p) rs ++ keep (of_pattern p) (r ∷ [])
keep_put p r [] o = refl
keep_put p r (q ∷ more) o = go (may_precede q r) refl (keep_put p r more (ordered_tail q more o))
  where
    past : (t : Bool) → keep (of_pattern p) (put_rule r more) ≡ keep (of_pattern p) more ++ keep (of_pattern p) (r ∷ [])
        → cond t (q ∷ keep (of_pattern p) (put_rule r more)) (keep (of_pattern p) (put_rule r more))
        ≡ cond t (q ∷ keep (of_pattern p) more) (keep (of_pattern p) more) ++ keep (of_pattern p) (r ∷ [])
    past true below = ap (λ (l : List Rule). q ∷ l) below
    past false below = below

    here : may_precede q r ≡ false → (t : Bool) → of_pattern p r ≡ t
        → cond t (r ∷ keep (of_pattern p) (q ∷ more)) (keep (of_pattern p) (q ∷ more)) ≡ keep (of_pattern p) (q ∷ more) ++ cond t (r ∷ []) []
    here e true f =
        let none : keep (of_pattern p) (q ∷ more) ≡ [] =
        subst (λ (x : List ℕ). keep (of_pattern x) (q ∷ more) ≡ []) (same_equal r.pattern p f) (none_of r q more o e) in
        rw none
    here e false f = sym (append-nil (keep (of_pattern p) (q ∷ more)))

    go : (t : Bool) → may_precede q r ≡ t → keep (of_pattern p) (put_rule r more) ≡ keep (of_pattern p) more ++ keep (of_pattern p) (r ∷ [])
        → keep (of_pattern p) (cond t (q ∷ put_rule r more) (r ∷ q ∷ more)) ≡ keep (of_pattern p) (q ∷ more) ++ keep (of_pattern p) (r ∷ [])
    go true e below = past (of_pattern p q) below
    go false e below = here e (of_pattern p r) refl

-- Put in one by one, the rules of a pattern stand in their order behind those held.
keep_puts : (p : List ℕ) (held rs : List Rule) → ordered held ≡ true → keep (of_pattern p) (put_rules held rs) ≡ keep (of_pattern p) held ++ keep (of_pattern p) rs
keep_puts p held [] o = sym (append-nil (keep (of_pattern p) held))
keep_puts p held (r ∷ more) o =
    keep_puts p (put_rule r held) more (put_ordered r held o)
    ∙ ap (λ (l : List Rule). l ++ keep (of_pattern p) more) (keep_put p r held o)
    ∙ append_assoc (keep (of_pattern p) held) (keep (of_pattern p) (r ∷ [])) (keep (of_pattern p) more)
    ∙ ap (λ (l : List Rule). keep (of_pattern p) held ++ l) (one (of_pattern p r))
  where
    one : (t : Bool) → cond t (r ∷ []) [] ++ keep (of_pattern p) more ≡ cond t (r ∷ keep (of_pattern p) more) (keep (of_pattern p) more)
    one true = refl
    one false = refl

puts_rules : (rs qs : List Rule) → SameRules rs qs → SameRules (put_rules [] rs) (put_rules [] qs)
puts_rules rs qs s p = keep_puts p [] rs refl ∙ s p ∙ sym (keep_puts p [] qs refl)

-- The rules said of a pattern are those of the sayings of it.
rules_keep : (p : List ℕ) (is : List Saying) → keep (of_pattern p) (rules_of is) ≡ rules_of (keep (pattern_is p) is)
rules_keep p [] = refl
rules_keep p (RuleItem q s v o ∷ is) = go (same q p) (rules_keep p is)
  where
    go : (t : Bool) → keep (of_pattern p) (rules_of is) ≡ rules_of (keep (pattern_is p) is)
        → cond t (rule_of bar q s v o ∷ keep (of_pattern p) (rules_of is)) (keep (of_pattern p) (rules_of is))
        ≡ rules_of (cond t (RuleItem q s v o ∷ keep (pattern_is p) is) (keep (pattern_is p) is))
    go true below = ap (λ (l : List Rule). rule_of bar q s v o ∷ l) below
    go false below = below
rules_keep p (FoldingItem key target ∷ is) = rules_keep p is
rules_keep p (LineEndItem ∷ is) = rules_keep p is
rules_keep p (CommentItem ∷ is) = rules_keep p is
rules_keep p (UnknownItem ∷ is) = rules_keep p is

-- ---- foldings

-- what a character folds to behind foldings: d before them
abbrev turned : ℕ → List Folding → ℕ → ℕ
turned c [] d = d
turned c (f ∷ more) d = turned c more (cond (eqb f.key c) f.target d)

fold_put : (f : Folding) (fs : List Folding) (c : ℕ) → fold_by (put_folding f fs) c ≡ cond (eqb f.key c) f.target (fold_by fs c)
unfolding fold_by
fold_put f [] c = refl
fold_put f (g ∷ more) c = go (ltb g.key f.key) (eqb g.key f.key) refl refl (fold_put f more c)
  where
    other : (a b : Bool) (x y z : ℕ) → (a ≡ true → b ≡ false) → cond a x (cond b y z) ≡ cond b y (cond a x z)
    other true true x y z h = absurd (false≢true (sym (h refl)))
    other true false x y z h = refl
    other false b x y z h = refl

    replaced : g.key ≡ f.key → (b : Bool) → eqb f.key c ≡ b → cond b f.target (fold_by more c) ≡ cond b f.target (cond (eqb g.key c) g.target (fold_by more c))
    replaced i true h = refl
    replaced i false h = let m : eqb g.key c ≡ false = ap (λ (n : ℕ). eqb n c) i ∙ h in rw m

    go : (s e : Bool) → ltb g.key f.key ≡ s → eqb g.key f.key ≡ e → fold_by (put_folding f more) c ≡ cond (eqb f.key c) f.target (fold_by more c)
        → fold_by (cond s (g ∷ put_folding f more) (cond e (f ∷ more) (f ∷ g ∷ more))) c
        ≡ cond (eqb f.key c) f.target (cond (eqb g.key c) g.target (fold_by more c))
    go true e x y below =
        let less = ltb-true g.key f.key x in
        ap (λ (n : ℕ). cond (eqb g.key c) g.target n) below
        ∙ other (eqb g.key c) (eqb f.key c) g.target f.target (fold_by more c) (λ h. let i = eqb-true g.key c h in ne_eqb f.key c (λ j. omega arith))
    go false true x y below = replaced (eqb-true g.key f.key y) (eqb f.key c) refl
    go false false x y below = refl

fold_puts : (c : ℕ) (held fs : List Folding) → fold_by (put_foldings held fs) c ≡ turned c fs (fold_by held c)
fold_puts c held [] = refl
fold_puts c held (f ∷ more) = fold_puts c (put_folding f held) more ∙ ap (turned c more) (fold_put f held c)

-- Only the foldings of its key turn a character.
turned_keep : (k : ℕ) (is : List Saying) (d : ℕ) → turned k (foldings_of is) d ≡ turned k (foldings_of (keep (key_is k) is)) d
turned_keep k [] d = refl
turned_keep k (RuleItem q s v o ∷ is) d = turned_keep k is d
turned_keep k (FoldingItem key target ∷ is) d = go (eqb key k) refl (turned_keep k is)
  where
    go : (t : Bool) → eqb key k ≡ t → ((d : ℕ) → turned k (foldings_of is) d ≡ turned k (foldings_of (keep (key_is k) is)) d)
        → turned k (foldings_of is) (cond t target d) ≡ turned k (foldings_of (cond t (FoldingItem key target ∷ keep (key_is k) is) (keep (key_is k) is))) d
    go true e below = below target ∙ ap (λ (t : Bool). turned k (foldings_of (keep (key_is k) is)) (cond t target d)) (sym e)
    go false e below = below d
turned_keep k (LineEndItem ∷ is) d = turned_keep k is d
turned_keep k (CommentItem ∷ is) d = turned_keep k is d
turned_keep k (UnknownItem ∷ is) d = turned_keep k is d

-- ---- two orders

module _ (is js : List Saying) (r : Reordered is js) where
  said_rules : SameRules (rules_of is) (rules_of js)
  said_rules p = rules_keep p is ∙ ap rules_of (r.rules p) ∙ sym (rules_keep p js)

  said_folds : (k : ℕ) → fold_by (put_foldings [] (foldings_of is)) k ≡ fold_by (put_foldings [] (foldings_of js)) k
  said_folds k =
      let d = fold_by [] k in
      fold_puts k [] (foldings_of is) ∙ turned_keep k is d ∙ ap (λ (l : List Saying). turned k (foldings_of l) d) (r.foldings k)
      ∙ sym (turned_keep k js d) ∙ sym (fold_puts k [] (foldings_of js))

-- The plates that two such texts say are used alike.
said_alike : (text other : List ℕ) (flag : Bool) → Reordered (said_by text) (said_by other) → good_plate (plate_said flag text) ≡ true → good_plate (plate_said flag other) ≡ true
    → UsedAlike (plate_said flag text) (plate_said flag other)
said_alike text other flag r g h =
    order_alike (plate_said flag text) (plate_said flag other) g h refl (said_folds (said_by text) (said_by other) r)
    (puts_rules (once same_pattern (rules_of (said_by text))) (once same_pattern (rules_of (said_by other)))
    (once_rules (rules_of (said_by text)) (rules_of (said_by other)) (said_rules (said_by text) (said_by other) r)))

-- ---- whole calls

-- What build wrote is the plate that the text says.
built_plate : (text : List ℕ) (flag : Bool) (lent : List ℕ) → Bytes text → (r : DmBuilt) (out : List ℕ) → built r out ≡ build_answer text flag lent → r.number ≡ 0
    → IsPlate (plate_said flag text) (take r.length out)
built_plate text flag lent bytes r out t n =
    let g = (builds text flag lent bytes r out t).1 n in
    let plate = plate_bytes (plate_said flag text) in
    (g.good, ap₂ take g.long g.written ∙ take-append_seam plate (drop (length plate) lent))

module _ (text other : List ℕ) (flag : Bool) (lent lent' : List ℕ) (bytes : Bytes text) (bytes' : Bytes other) (r r' : DmBuilt) (out out' : List ℕ)
    (t : built r out ≡ build_answer text flag lent) (t' : built r' out' ≡ build_answer other flag lent') where
  answers_alike : Reordered (said_by text) (said_by other) → r.number ≡ 0 → r'.number ≡ 0 → SameAnswers (take r.length out) (take r'.length out')
  answers_alike s n n' =
      let plate = take r.length out in
      let plate' = take r'.length out' in
      let p = plate_said flag text in
      let p' = plate_said flag other in
      let w = built_plate text flag lent bytes r out t n in
      let w' = built_plate other flag lent' bytes' r' out' t' n' in
      same_answers plate plate' p p' (plate_read plate p w) (plate_read plate' p' w') (said_alike text other flag s w.0 w'.0)

  module _ (name room room' : List ℕ) (a b : Coded) where
    pub lists_order : a ≡ list_answer (take r.length out) name room → b ≡ list_answer (take r'.length out') name room'
        → OrderFree text other (built r out) (built r' out') room room' a b
    lists_order u v s n n' e = u ∙ (answers_alike s n n' name room).1 ∙ ap (list_answer (take r'.length out') name) e ∙ sym v

    pub encodes_order : a ≡ encode_answer (take r.length out) name room → b ≡ encode_answer (take r'.length out') name room'
        → OrderFree text other (built r out) (built r' out') room room' a b
    encodes_order u v s n n' e = u ∙ (answers_alike s n n' name room).0 ∙ ap (encode_answer (take r'.length out') name) e ∙ sym v
