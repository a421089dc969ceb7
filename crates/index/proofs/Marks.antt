-- Marks of records: those of a code's entries, which stand together from the code's place on, and those of more codes. Assumes nothing.
use Prim.Native.Nat.{ℕ, zero, suc, ◌+◌, ◌*◌, ◌≤◌, ◌<◌}
use mathlib.Core.Path.{◌≡◌, refl, sym, ap, ap₂, subst, ◌∙◌}
use mathlib.Core.Bool.{Bool, true, false, cond, ◌&&◌, ◌||◌, false≢true}
use mathlib.Core.List.{List, [], ◌∷◌, ◌++◌, map, map-append}
use native.Mathlib.Numerals.{add-one}
use native.Mathlib.Omega.{arith}
use borrow.Author.Tests.{eq-eqb, ne_eqb, eqb-true, ltb-true, ltb-false}
use lib.Dec.{eqb, ltb}
use lib.ListN.{length, take, drop, get_or, set, length-set}
use lib.Seq.{take-suc, take_all, split_at, drop-drop, get_or-set_same, get_or-set_other}
use Rattle.laws.specs.Arrays.{Each}
use Rattle.laws.specs.Lists.{some, keep}
use Rattle.laws.proofs.Lists.{some_append}
use Rattle.laws.proofs.Tests.{or_false, or_right}
use Rattle.laws.specs.Sort.{Rising, position}
use Rattle.entries.specs.Entries.{entries, most_records, code_in, record_in, is_index}
use Rattle.entries.proofs.Index.{index_true}
use Rattle.laws.proofs.Rising.{strict_weak}
use Rattle.laws.proofs.Holds.{each_all}
use Rattle.laws.proofs.Sorting.{sorted_behind}
use Rattle.index.specs.Index.{codes_from, code_number}
use Rattle.index.specs.Find.{shares}
use Rattle.index.specs.Held.{Marks}

-- An index rises.
pub index_rises : (index : List ℕ) → is_index index ≡ true → Rising (entries index)
index_rises index h = strict_weak (entries index) (index_true index h).1

-- record k is one of the codes' entries
abbrev pub has : List ℕ → List ℕ → ℕ → Bool
has codes es k = some (eqb k) (map record_in (keep (shares codes) es))

-- ---- which records entries have

-- The same, asked of each entry.
abbrev hit : List ℕ → ℕ → ℕ → Bool
hit codes k e = shares codes e && eqb k (record_in e)

has_some : (codes es : List ℕ) (k : ℕ) → has codes es k ≡ some (hit codes k) es
has_some codes [] k = refl
has_some codes (e ∷ es) k = go (shares codes e) (has_some codes es k)
  where
    go : (t : Bool) → has codes es k ≡ some (hit codes k) es
        → some (eqb k) (map record_in (cond t (e ∷ keep (shares codes) es) (keep (shares codes) es))) ≡ (t && eqb k (record_in e)) || some (hit codes k) es
    go true f = ap (λ (b : Bool). eqb k (record_in e) || b) f
    go false f = f

has_append : (codes l m : List ℕ) (k : ℕ) → has codes (l ++ m) k ≡ has codes l k || has codes m k
has_append codes l m k =
    has_some codes (l ++ m) k ∙ some_append (hit codes k) l m ∙ ap₂ ◌||◌ (sym (has_some codes l k)) (sym (has_some codes m k))

-- Where no entry shares a code there is no record.
has_none : (codes l : List ℕ) → Each (λ (e : ℕ). shares codes e ≡ false) l → (k : ℕ) → has codes l k ≡ false
has_none codes [] n k = refl
has_none codes (e ∷ l) n k =
    ap (λ (t : Bool). some (eqb k) (map record_in (cond t (e ∷ keep (shares codes) l) (keep (shares codes) l)))) n.0 ∙ has_none codes l n.1 k

-- The records of more codes are those of the ones and those of the others.
has_codes : (cs ds es : List ℕ) (k : ℕ) → has (cs ++ ds) es k ≡ has cs es k || has ds es k
has_codes cs ds es k = has_some (cs ++ ds) es k ∙ go es ∙ ap₂ ◌||◌ (sym (has_some cs es k)) (sym (has_some ds es k))
  where
    mix : (a b c p q : Bool) → ((a || b) && c) || (p || q) ≡ ((a && c) || p) || ((b && c) || q)
    mix true b true p q = refl
    mix true true false true q = refl
    mix true true false false q = refl
    mix true false false true q = refl
    mix true false false false q = refl
    mix false true true true q = refl
    mix false true true false q = refl
    mix false true false p q = refl
    mix false false c p q = refl

    go : (l : List ℕ) → some (hit (cs ++ ds) k) l ≡ some (hit cs k) l || some (hit ds k) l
    go [] = refl
    go (e ∷ l) =
        ap₂ (λ (s r : Bool). (s && eqb k (record_in e)) || r) (some_append (eqb (code_in e)) cs ds) (go l)
        ∙ mix (shares cs e) (shares ds e) (eqb k (record_in e)) (some (hit cs k) l) (some (hit ds k) l)

-- ---- one entry more

-- Entries that share no code mark nothing more.
marks_more : (l m codes : List ℕ) (lent marks : List Bool) → Each (λ (e : ℕ). shares codes e ≡ false) m → Marks l codes lent marks → Marks (l ++ m) codes lent marks
marks_more l m codes lent marks n p = record {
  long = p.long;
  is =
      λ k h. p.is k h
      ∙ ap (λ (t : Bool). cond t true (get_or lent k false)) (sym (has_append codes l m k ∙ ap (λ (t : Bool). has codes l k || t) (has_none codes m n k) ∙ or_false (has codes l k)));
}

marks_none : (codes : List ℕ) (lent : List Bool) → Marks [] codes lent lent
marks_none codes lent = record { long = refl; is = λ k h. refl }

-- One that does marks its record.
marks_one : (l codes : List ℕ) (lent marks : List Bool) (e : ℕ) → shares codes e ≡ true → record_in e < length lent → Marks l codes lent marks
    → Marks (l ++ (e ∷ [])) codes lent (set marks (record_in e) true)
marks_one l codes lent marks e s small p = record { long = length-set marks (record_in e) true ∙ p.long; is = λ k h. go k h (eqb k (record_in e)) refl }
  where
    one : (k : ℕ) → has codes (l ++ (e ∷ [])) k ≡ has codes l k || eqb k (record_in e)
    one k =
        has_append codes l (e ∷ []) k
        ∙ ap (λ (t : Bool). has codes l k || some (eqb k) (map record_in (cond t (e ∷ []) []))) s
        ∙ ap (λ (t : Bool). has codes l k || t) (or_false (eqb k (record_in e)))

    go : (k : ℕ) → k < length lent → (t : Bool) → eqb k (record_in e) ≡ t
        → get_or (set marks (record_in e) true) k false ≡ cond (has codes (l ++ (e ∷ [])) k) true (get_or lent k false)
    go k h true q =
        ap (λ (j : ℕ). get_or (set marks (record_in e) true) j false) (eqb-true k (record_in e) q)
        ∙ get_or-set_same marks (record_in e) true false (subst (λ (n : ℕ). record_in e < n) (sym p.long) small)
        ∙ sym (ap (λ (t : Bool). cond t true (get_or lent k false)) (one k ∙ or_right (has codes l k) (eqb k (record_in e)) q))
    go k h false q =
        get_or-set_other marks (record_in e) k true false (λ w. false≢true (sym q ∙ eq-eqb k (record_in e) w))
        ∙ p.is k h
        ∙ sym (ap (λ (t : Bool). cond t true (get_or lent k false)) (one k ∙ ap (λ (t : Bool). has codes l k || t) q ∙ or_false (has codes l k)))

-- ---- what stands before a number's place, and from there on

before_place : (v : ℕ) (l : List ℕ) → Each (λ (x : ℕ). x < v) (take (position v l) l)
before_place v [] = tt
before_place v (x ∷ l) = go (ltb x v) refl (before_place v l)
  where
    go : (t : Bool) → ltb x v ≡ t → Each (λ (y : ℕ). y < v) (take (position v l) l) → Each (λ (y : ℕ). y < v) (take (cond t (suc (position v l)) 0) (x ∷ l))
    go true e f = (ltb-true x v e, f)
    go false e f = tt

from_place : (v i : ℕ) (l : List ℕ) → Rising l → position v l ≤ i → i < length l → v ≤ get_or l i 0
from_place v i [] s g h = absurd (omega arith)
from_place v i (x ∷ l) s g h = go (ltb x v) refl i g h (λ j. from_place v j l s.1)
  where
    all : (j : ℕ) (m : List ℕ) → v ≤ x → Each (λ (y : ℕ). x ≤ y) m → j < length m → v ≤ get_or m j 0
    all j [] le e h = absurd (omega arith)
    all zero (y ∷ m) le e h = omega (arith, e.0)
    all (suc j) (y ∷ m) le e h = all j m le e.1 (omega arith)

    go : (t : Bool) → ltb x v ≡ t → (j : ℕ) → cond t (suc (position v l)) 0 ≤ j → j < suc (length l)
        → ((k : ℕ) → position v l ≤ k → k < length l → v ≤ get_or l k 0) → v ≤ get_or (x ∷ l) j 0
    go true e zero g h f = absurd (omega arith)
    go true e (suc j) g h f = f j (omega arith) (omega arith)
    go false e zero g h f = ltb-false x v e
    go false e (suc j) g h f = all j l (ltb-false x v e) s.0 (omega arith)

-- ---- the entries of a code in a list in rising order: from the code's place on, up to the first of another code

module _ (code : ℕ) (es : List ℕ) (lent : List Bool) (s : Rising es) where
  alone : (e : ℕ) → (code_in e ≡ code → ⊥) → shares (code ∷ []) e ≡ false
  alone e h = or_false (eqb (code_in e) code) ∙ ne_eqb (code_in e) code h

  pub marks_start : (i : ℕ) → i ≡ position (code * most_records) es → Marks (take i es) (code ∷ []) lent lent
  marks_start i e =
      marks_more [] (take i es) (code ∷ []) lent lent
      (each_all (λ (x : ℕ). x < code * most_records) (λ (x : ℕ). shares (code ∷ []) x ≡ false) (take i es) (λ x h. alone x (λ q. omega arith))
      (subst (λ (j : ℕ). Each (λ (x : ℕ). x < code * most_records) (take j es)) (sym e) (before_place (code * most_records) es)))
      (marks_none (code ∷ []) lent)

  module _ (i : ℕ) (marks : List Bool) (p : Marks (take i es) (code ∷ []) lent marks) where
    pub marks_turn : (x : ℕ) → x ≡ get_or es i 0 → i < length es → length lent ≡ most_records → code_in x ≡ code
        → Marks (take (i + 1) es) (code ∷ []) lent (set marks (record_in x) true)
    marks_turn x e h n q =
        let more : take (i + 1) es ≡ take i es ++ (x ∷ []) = ap (λ (j : ℕ). take j es) (add-one i) ∙ take-suc es i 0 h ∙ ap (λ (y : ℕ). take i es ++ (y ∷ [])) (sym e) in
        subst (λ (l : List ℕ). Marks l (code ∷ []) lent (set marks (record_in x) true)) (sym more)
        (marks_one (take i es) (code ∷ []) lent marks x (or_false (eqb (code_in x) code) ∙ eq-eqb (code_in x) code q) (omega arith) p)

    pub marks_end : length es ≤ i → Marks es (code ∷ []) lent marks
    marks_end h = subst (λ (l : List ℕ). Marks l (code ∷ []) lent marks) (take_all i es h) p

    pub marks_stop : (x : ℕ) → x ≡ get_or es i 0 → i < length es → position (code * most_records) es ≤ i → (code_in x ≡ code → ⊥) → Marks es (code ∷ []) lent marks
    marks_stop x e h g q =
        let v : ℕ = code * most_records in
        let y : ℕ = get_or es i 0 in
        let whole : take i es ++ (y ∷ drop (suc i) es) ≡ es = sym (split_at es i 0 h) in
        let low : v ≤ y = from_place v i es s g h in
        let far : v + most_records ≤ y = past y (λ w. q (ap (λ (z : ℕ). code_in z) e ∙ w)) low in
        let behind : Each (λ (z : ℕ). y ≤ z) (drop (suc i) es) = sorted_behind ◌≤◌ (take i es) y (drop (suc i) es) (subst Rising (sym whole) s) in
        let none : Each (λ (z : ℕ). shares (code ∷ []) z ≡ false) (y ∷ drop (suc i) es) =
        (alone y (λ w. omega arith), each_all (λ (z : ℕ). y ≤ z) (λ (z : ℕ). shares (code ∷ []) z ≡ false) (drop (suc i) es) (λ z w. alone z (λ u. omega arith)) behind) in
        subst (λ (l : List ℕ). Marks l (code ∷ []) lent marks) whole
        (marks_more (take i es) (y ∷ drop (suc i) es) (code ∷ []) lent marks none p)
      where
        past : (y : ℕ) → (code_in y ≡ code → ⊥) → code * most_records ≤ y → code * most_records + most_records ≤ y
        past y w l = omega arith

-- ---- more codes

pub marks_codes : (es cs ds : List ℕ) (lent marks marks' : List Bool) → Marks es cs lent marks → Marks es ds marks marks' → Marks es (cs ++ ds) lent marks'
marks_codes es cs ds lent marks marks' p q = record {
  long = q.long ∙ p.long;
  is =
      λ k h. q.is k (subst (λ (n : ℕ). k < n) (sym p.long) h)
      ∙ ap (λ (m : Bool). cond (has ds es k) true m) (p.is k h)
      ∙ twice (has cs es k) (has ds es k) (get_or lent k false)
      ∙ sym (ap (λ (t : Bool). cond t true (get_or lent k false)) (has_codes cs ds es k));
}
  where
    twice : (a b m : Bool) → cond b true (cond a true m) ≡ cond (a || b) true m
    twice true true m = refl
    twice true false m = refl
    twice false b m = refl

no_codes : (es : List ℕ) (k : ℕ) → has [] es k ≡ false
no_codes es k = has_none [] es (all es) k
  where
    all : (l : List ℕ) → Each (λ (e : ℕ). shares [] e ≡ false) l
    all [] = tt
    all (e ∷ l) = (refl, all l)

pub marks_no_code : (es : List ℕ) (lent : List Bool) → Marks es [] lent lent
marks_no_code es lent = record { long = refl; is = λ k h. sym (ap (λ (t : Bool). cond t true (get_or lent k false)) (no_codes es k)) }

-- ---- the codes of a line

-- One code more stands seven bytes on.
codes_snoc : (i : ℕ) (line : List ℕ) → codes_from (i + 1) line ≡ codes_from i line ++ (take 6 (drop (7 * i) line) ∷ [])
codes_snoc zero line = refl
codes_snoc (suc i) line =
    ap (λ (k : ℕ). codes_from k line) {x = suc i + 1} {y = suc (i + 1)} (omega arith)
    ∙ ap (λ (l : List (List ℕ)). take 6 line ∷ l) (codes_snoc i (drop 7 line))
    ∙ ap (λ (l : List ℕ). take 6 line ∷ (codes_from i (drop 7 line) ++ (take 6 l ∷ [])))
    (drop-drop (7 * i) 7 line ∙ ap (λ (k : ℕ). drop k line) {x = 7 + 7 * i} {y = 7 * suc i} (omega arith))

-- The marks of the next code are those of one code more.
pub marks_next : (es line : List ℕ) (lent marks marks' : List Bool) (i code : ℕ) → code ≡ code_number (take 6 (drop (7 * i) line))
    → Marks es (map code_number (codes_from i line)) lent marks → Marks es (code ∷ []) marks marks'
    → Marks es (map code_number (codes_from (i + 1) line)) lent marks'
marks_next es line lent marks marks' i code e p q =
    let more : map code_number (codes_from (i + 1) line) ≡ map code_number (codes_from i line) ++ (code ∷ []) =
    ap (map code_number) (codes_snoc i line) ∙ map-append code_number (codes_from i line) (take 6 (drop (7 * i) line) ∷ [])
    ∙ ap (λ (k : ℕ). map code_number (codes_from i line) ++ (k ∷ [])) (sym e) in
    subst (λ (l : List ℕ). Marks es l lent marks') (sym more) (marks_codes es (map code_number (codes_from i line)) (code ∷ []) lent marks marks' p q)
