-- What a text says, and the book that build keeps of it: the rules and foldings of the items so far, put in one by one. Assumes nothing.
use Prim.Native.Nat.{ℕ, suc, ◌+◌, ◌<◌}
use mathlib.Core.Path.{◌≡◌, refl, sym, ap, ap₂, subst, ◌∙◌}
use mathlib.Core.Logic.{◌⊎◌, inl, inr}
use mathlib.Core.Bool.{Bool, true, false, cond, ◌||◌, false≢true}
use mathlib.Core.List.{List, [], ◌∷◌, ◌++◌, append-nil}
use native.Mathlib.Omega.{arith}
use borrow.Author.Tests.{eq-eqb, ne_eqb, eqb-true, eqb-false, ltb-true, ltb-false}
use lib.Dec.{ltb, eqb}
use lib.ListN.{length, length-append}
use Rattle.laws.specs.Lists.{In, some}
use Rattle.laws.specs.Once.{among, merge, once}
use Rattle.laws.proofs.Tests.{and_true, or_true, or_left, or_right}
use Rattle.laws.proofs.Lists.{some_append}
use Rattle.rule_text.specs.Items.{Saying}
use Rattle.rule_text.specs.Items.Saying.{RuleItem, FoldingItem, LineEndItem, CommentItem, UnknownItem}
use Rattle.plate.specs.Plate.{Folding, Rule, may_precede, rising, of_pattern, same_pattern}
use Rattle.rule_text.specs.Fields.{bar}
use Rattle.book.specs.Book.{Book, put_rule, put_folding, keep_rule, rule_of, folding_of}
use Rattle.book.proofs.Sorted.{put_rising}
use Rattle.builder.specs.Build.{enter}
use Rattle.promises.specs.Said.{rules_of, foldings_of, put_rules, put_foldings}
use Rattle.promises.specs.When.{keys}

-- ---- of each pattern the first

-- One more behind those that were merged.
merge_next : (kept l : List Rule) (r : Rule) → let m = merge same_pattern kept l in merge same_pattern kept (l ++ (r ∷ [])) ≡ cond (among same_pattern r m) m (m ++ (r ∷ []))
merge_next kept [] r = refl
merge_next kept (x ∷ l) r = merge_next (cond (among same_pattern x kept) kept (kept ++ (x ∷ []))) l r

-- Which patterns are there does not rest on the order.
put_some : (t : Rule → Bool) (r : Rule) (l : List Rule) → some t (put_rule r l) ≡ t r || some t l
put_some t r [] = refl
put_some t r (q ∷ l) = go (may_precede q r) (put_some t r l)
  where
    swap : (x y z : Bool) → y || (x || z) ≡ x || (y || z)
    swap true true z = refl
    swap true false z = refl
    swap false y z = refl

    go : (c : Bool) → some t (put_rule r l) ≡ t r || some t l → some t (cond c (q ∷ put_rule r l) (r ∷ q ∷ l)) ≡ t r || (t q || some t l)
    go true e = ap (λ (b : Bool). t q || b) e ∙ swap (t r) (t q) (some t l)
    go false e = refl

puts_some : (t : Rule → Bool) (held l : List Rule) → some t (put_rules held l) ≡ some t held || some t l
puts_some t held [] = end (some t held)
  where
    end : (x : Bool) → x ≡ x || false
    end true = refl
    end false = refl
puts_some t held (r ∷ l) = puts_some t (put_rule r held) l ∙ ap (λ (b : Bool). b || some t l) (put_some t r held) ∙ swap (t r) (some t held) (some t l)
  where
    swap : (x y z : Bool) → (x || y) || z ≡ y || (x || z)
    swap true true z = refl
    swap true false z = refl
    swap false y z = refl

among_some : (r : Rule) (l : List Rule) → among same_pattern r l ≡ some (of_pattern r.pattern) l
among_some r [] = refl
among_some r (q ∷ l) = ap (λ (b : Bool). of_pattern r.pattern q || b) (among_some r l)

put_rules_behind : (held l more : List Rule) → put_rules held (l ++ more) ≡ put_rules (put_rules held l) more
put_rules_behind held [] more = refl
put_rules_behind held (r ∷ l) more = put_rules_behind (put_rule r held) l more

-- A rule that is left out where its pattern is known is one that is merged before all are put in.
kept_once : (l : List Rule) (r : Rule) → keep_rule r (put_rules [] (once same_pattern l)) ≡ put_rules [] (once same_pattern (l ++ (r ∷ [])))
kept_once l r =
    let m = once same_pattern l in
    ap (λ (b : Bool). cond b (put_rules [] m) (put_rule r (put_rules [] m))) (puts_some (of_pattern r.pattern) [] m ∙ sym (among_some r m))
    ∙ go m (among same_pattern r m) ∙ ap (put_rules []) (sym (merge_next [] l r))
  where
    go : (m : List Rule) (b : Bool) → cond b (put_rules [] m) (put_rule r (put_rules [] m)) ≡ put_rules [] (cond b m (m ++ (r ∷ [])))
    go m true = refl
    go m false = sym (put_rules_behind [] m (r ∷ []))

-- ---- item by item

rules_behind : (before more : List Saying) → rules_of (before ++ more) ≡ rules_of before ++ rules_of more
rules_behind [] more = refl
rules_behind (RuleItem p s v o ∷ is) more = ap (λ (l : List Rule). rule_of bar p s v o ∷ l) (rules_behind is more)
rules_behind (FoldingItem k t ∷ is) more = rules_behind is more
rules_behind (LineEndItem ∷ is) more = rules_behind is more
rules_behind (CommentItem ∷ is) more = rules_behind is more
rules_behind (UnknownItem ∷ is) more = rules_behind is more

foldings_behind : (before more : List Saying) → foldings_of (before ++ more) ≡ foldings_of before ++ foldings_of more
foldings_behind [] more = refl
foldings_behind (RuleItem p s v o ∷ is) more = foldings_behind is more
foldings_behind (FoldingItem k t ∷ is) more = ap (λ (l : List Folding). folding_of k t ∷ l) (foldings_behind is more)
foldings_behind (LineEndItem ∷ is) more = foldings_behind is more
foldings_behind (CommentItem ∷ is) more = foldings_behind is more
foldings_behind (UnknownItem ∷ is) more = foldings_behind is more

put_foldings_behind : (held l more : List Folding) → put_foldings held (l ++ more) ≡ put_foldings (put_foldings held l) more
put_foldings_behind held [] more = refl
put_foldings_behind held (f ∷ l) more = put_foldings_behind (put_folding f held) l more

-- The book holds what the items said.
pub record Holds (before : List Saying) (b : Book) : Type 0 where
  pub rules : b.rules ≡ put_rules [] (once same_pattern (rules_of before))
  pub read : b.read ≡ length (rules_of before)
  pub foldings : b.foldings ≡ put_foldings [] (foldings_of before)

-- An item that says no rule adds none.
no_rules : (before : List Saying) (i : Saying) → rules_of (i ∷ []) ≡ [] → rules_of (before ++ (i ∷ [])) ≡ rules_of before
no_rules before i e = rules_behind before (i ∷ []) ∙ ap (λ (l : List Rule). rules_of before ++ l) e ∙ append-nil (rules_of before)

foldings_next : (before : List Saying) (i : Saying) → put_foldings [] (foldings_of (before ++ (i ∷ []))) ≡ put_foldings (put_foldings [] (foldings_of before)) (foldings_of (i ∷ []))
foldings_next before i = ap (put_foldings []) (foldings_behind before (i ∷ [])) ∙ put_foldings_behind [] (foldings_of before) (foldings_of (i ∷ []))

-- The book behind an item that says no rule.
unruled : (before : List Saying) (i : Saying) (b d : Book) → rules_of (i ∷ []) ≡ [] → Holds before b → d.rules ≡ b.rules → d.read ≡ b.read
    → d.foldings ≡ put_foldings (put_foldings [] (foldings_of before)) (foldings_of (i ∷ [])) → Holds (before ++ (i ∷ [])) d
unruled before i b d e h rules read f =
    let same = sym (no_rules before i e) in record {
      rules = rules ∙ h.rules ∙ ap (λ (l : List Rule). put_rules [] (once same_pattern l)) same;
      read = read ∙ h.read ∙ ap length same;
      foldings = f ∙ sym (foldings_next before i);
    }

pub enter_holds : (before : List Saying) (i : Saying) (b : Book) → Holds before b → Holds (before ++ (i ∷ [])) (enter i b)
enter_holds before (RuleItem p s v o) b h =
    let r = rule_of bar p s v o in
    let all = sym (rules_behind before (RuleItem p s v o ∷ [])) in record {
      rules = ap (keep_rule r) h.rules ∙ kept_once (rules_of before) r ∙ ap (λ (l : List Rule). put_rules [] (once same_pattern l)) all;
      read = ap (λ (n : ℕ). n + 1) h.read ∙ sym (length-append (rules_of before) (r ∷ [])) ∙ ap length all;
      foldings = h.foldings ∙ sym (foldings_next before (RuleItem p s v o));
    }
enter_holds before (FoldingItem k t) b h =
    unruled before (FoldingItem k t) b (enter (FoldingItem k t) b) refl h refl refl (ap (put_folding (folding_of k t)) h.foldings)
enter_holds before LineEndItem b h = unruled before LineEndItem b b refl h refl refl h.foldings
enter_holds before CommentItem b h = unruled before CommentItem b b refl h refl refl h.foldings
enter_holds before UnknownItem b h = unruled before UnknownItem b b refl h refl refl h.foldings

-- ---- the distinct keys

abbrev has : ℕ → List Folding → Bool
has k fs = some (λ g. eqb k g.key) fs

or_neither : (x y : Bool) → x ≡ false → y ≡ false → x || y ≡ false
or_neither x y e f = rw (e, f)

-- A key below the first of rising ones is not among them.
below : (k : ℕ) (g : Folding) (l : List Folding) → rising (g ∷ l) ≡ true → k < g.key → has k (g ∷ l) ≡ false
below k g [] o h = or_neither (eqb k g.key) false (ne_eqb k g.key (omega arith)) refl
below k g (q ∷ l) o h =
    let a = and_true (ltb g.key q.key) (rising (q ∷ l)) o in
    let up = ltb-true g.key q.key a.0 in
    or_neither (eqb k g.key) (has k (q ∷ l)) (ne_eqb k g.key (omega arith)) (below k q l a.1 (omega arith))

-- A folding put in is there, and the others still are.
put_has : (k : ℕ) (f : Folding) (l : List Folding) → has k (put_folding f l) ≡ eqb k f.key || has k l
put_has k f [] = refl
put_has k f (g ∷ l) = go (ltb g.key f.key) (eqb g.key f.key) refl (put_has k f l)
  where
    swap : (x y z : Bool) → x || (y || z) ≡ y || (x || z)
    swap true true z = refl
    swap true false z = refl
    swap false y z = refl

    twice : (x z : Bool) → x || z ≡ x || (x || z)
    twice true z = refl
    twice false z = refl

    go : (s e : Bool) → eqb g.key f.key ≡ e → has k (put_folding f l) ≡ eqb k f.key || has k l
        → has k (cond s (g ∷ put_folding f l) (cond e (f ∷ l) (f ∷ g ∷ l))) ≡ eqb k f.key || (eqb k g.key || has k l)
    go true e y rest = ap (λ (t : Bool). eqb k g.key || t) rest ∙ swap (eqb k g.key) (eqb k f.key) (has k l)
    go false true y rest = twice (eqb k f.key) (has k l) ∙ ap (λ (m : ℕ). eqb k f.key || (eqb k m || has k l)) (sym (eqb-true g.key f.key y))
    go false false y rest = refl

-- A folding put in is one more where its key is new.
pub put_count : (f : Folding) (l : List Folding) → rising l ≡ true → length (put_folding f l) ≡ cond (has f.key l) (length l) (suc (length l))
put_count f [] o = refl
put_count f (g ∷ l) o = go (ltb g.key f.key) (eqb g.key f.key) refl refl (put_count f l (tail g l o))
  where
    tail : (g : Folding) (l : List Folding) → rising (g ∷ l) ≡ true → rising l ≡ true
    tail g [] o = refl
    tail g (q ∷ l) o = let a = and_true (ltb g.key q.key) (rising (q ∷ l)) o in a.1

    other : (x y : Bool) → x ≡ false → x || y ≡ y
    other x y e = rw e

    up : (t : Bool) (n : ℕ) → suc (cond t n (suc n)) ≡ cond t (suc n) (suc (suc n))
    up true n = refl
    up false n = refl

    go : (s e : Bool) → ltb g.key f.key ≡ s → eqb g.key f.key ≡ e → length (put_folding f l) ≡ cond (has f.key l) (length l) (suc (length l))
        → length (cond s (g ∷ put_folding f l) (cond e (f ∷ l) (f ∷ g ∷ l))) ≡ cond (has f.key (g ∷ l)) (suc (length l)) (suc (suc (length l)))
    go true e x y rest =
        let less = ltb-true g.key f.key x in
        ap suc rest
        ∙ up (has f.key l) (length l)
        ∙ ap (λ (t : Bool). cond t (suc (length l)) (suc (suc (length l)))) (sym (other (eqb f.key g.key) (has f.key l) (ne_eqb f.key g.key (omega arith))))
    go false true x y rest =
        ap (λ (t : Bool). cond t (suc (length l)) (suc (suc (length l))))
        (sym (or_left (eqb f.key g.key) (has f.key l) (eq-eqb f.key g.key (sym (eqb-true g.key f.key y)))))
    go false false x y rest =
        let more = ltb-false g.key f.key x in
        let not = eqb-false g.key f.key y in
        ap (λ (t : Bool). cond t (suc (length l)) (suc (suc (length l)))) (sym (below f.key g l o (omega arith)))

-- The list knows the keys of the foldings, each once.
pub record Knows (fs : List Folding) (known : List ℕ) : Type 0 where
  pub up : rising fs ≡ true
  pub many : length fs ≡ length known
  pub has : (k : ℕ) → some (λ g. eqb k g.key) fs ≡ some (eqb k) known

abbrev noted : ℕ → List ℕ → List ℕ
noted k known = cond (some (eqb k) known) known (known ++ (k ∷ []))

noted_count : (k : ℕ) (known : List ℕ) → length (noted k known) ≡ cond (some (eqb k) known) (length known) (suc (length known))
noted_count k known = go (some (eqb k) known)
  where
    go : (t : Bool) → length (cond t known (known ++ (k ∷ []))) ≡ cond t (length known) (suc (length known))
    go true = refl
    go false = length-append known (k ∷ []) ∙ omega arith

noted_has : (j k : ℕ) (known : List ℕ) → some (eqb j) (noted k known) ≡ eqb j k || some (eqb j) known
noted_has j k known = go (some (eqb k) known) refl
  where
    swap : (x y : Bool) → x || (y || false) ≡ y || x
    swap true true = refl
    swap true false = refl
    swap false true = refl
    swap false false = refl

    here : (e : Bool) → eqb j k ≡ e → some (eqb k) known ≡ true → some (eqb j) known ≡ e || some (eqb j) known
    here true e t = subst (λ (m : ℕ). some (eqb m) known ≡ true) (sym (eqb-true j k e)) t
    here false e t = refl

    go : (t : Bool) → some (eqb k) known ≡ t → some (eqb j) (cond t known (known ++ (k ∷ []))) ≡ eqb j k || some (eqb j) known
    go true e = here (eqb j k) refl e
    go false e = some_append (eqb j) known (k ∷ []) ∙ swap (some (eqb j) known) (eqb j k)

put_knows : (f : Folding) (fs : List Folding) (known : List ℕ) → Knows fs known → Knows (put_folding f fs) (noted f.key known)
put_knows f fs known h = record {
  up = put_rising f fs h.up;
  many =
      put_count f fs h.up
      ∙ ap₂ (λ (t : Bool) (n : ℕ). cond t n (suc n)) (h.has f.key) h.many
      ∙ sym (noted_count f.key known);
  has = λ k. put_has k f fs ∙ ap (λ (t : Bool). eqb k f.key || t) (h.has k) ∙ sym (noted_has k f.key known);
}

all_known : (fs : List Folding) (known : List ℕ) (l : List Folding) → Knows fs known → Knows (put_foldings fs l) (keys known l)
all_known fs known [] h = h
all_known fs known (f ∷ l) h = all_known (put_folding f fs) (noted f.key known) l (put_knows f fs known h)

-- The book has one folding for each distinct key of the items.
pub knows_keys : (before : List Saying) (b : Book) → Holds before b → Knows b.foldings (keys [] (foldings_of before))
knows_keys before b h =
    subst (λ (fs : List Folding). Knows fs (keys [] (foldings_of before))) (sym h.foldings)
    (all_known [] [] (foldings_of before) (record { up = refl; many = refl; has = λ k. refl }))

-- ---- membership and its test

pub in_some : (k : ℕ) (l : List ℕ) → In k l → some (eqb k) l ≡ true
in_some k [] h = elim h [ ]
in_some k (x ∷ l) (inl e) = or_left (eqb k x) (some (eqb k) l) (eq-eqb k x e)
in_some k (x ∷ l) (inr h) = or_right (eqb k x) (some (eqb k) l) (in_some k l h)

pub some_in : (k : ℕ) (l : List ℕ) → some (eqb k) l ≡ true → In k l
some_in k [] e = absurd (false≢true e)
some_in k (x ∷ l) e = go (or_true (eqb k x) (some (eqb k) l) e) (λ h. some_in k l h)
  where
    go : (eqb k x ≡ true) ⊎ (some (eqb k) l ≡ true) → (some (eqb k) l ≡ true → In k l) → In k (x ∷ l)
    go (inl h) below = inl (eqb-true k x h)
    go (inr h) below = inr (below h)
