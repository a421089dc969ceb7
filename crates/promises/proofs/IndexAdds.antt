-- M-108, proved of the definitions: when each number comes back of add, and that a name added gives what making all names afresh gives. Assumes nothing.
use Prim.Native.Nat.{ℕ, ◌+◌, ◌<◌, ◌≤◌}
use mathlib.Core.Path.{◌≡◌, refl, sym, ap, subst, ◌∙◌}
use mathlib.Core.Logic.{◌⊎◌, inl, inr}
use mathlib.Core.Bool.{Bool, true, false, cond, ◌&&◌, false≢true}
use mathlib.Core.List.{List, [], ◌∷◌, ◌++◌}
use native.Mathlib.Omega.{arith}
use borrow.Author.Tests.{leb-false, le-leb, ltb-true}
use lib.Dec.{leb}
use lib.ListN.{length, take, length-append, length-map}
use lib.Seq.{length-take-le}
use Rattle.laws.specs.Lists.{In, every}
use Rattle.laws.specs.Arrays.{Each}
use Rattle.laws.proofs.Tests.{both_true}
use Rattle.laws.proofs.Members.{in_every, map_in, in_either, in_left, in_right}
use Rattle.laws.proofs.Parts.{by_lt}
use Rattle.plate.specs.Read.{accepted}
use Rattle.plate.proofs.Packed.{Bytes}
use Rattle.ward.specs.Codes.{SixDigits}
use Rattle.entries.specs.Entries.{entries, record_in, is_index, record_below}
use Rattle.laws.specs.Sort.{Sorted, rising}
use Rattle.laws.proofs.Holds.{each_in}
use Rattle.entries.proofs.Index.{index_true}
use Rattle.laws.proofs.Rising.{rising_strict, rising_in, in_rising, only_rising}
use Rattle.index.specs.Index.{Indexed, unmade, made, fits, indexed, good_index, full_list, codes_from, code_number, codes_in, entry_of, entries_of, refusal_of, add_answer}
use Rattle.index.proofs.Codes.{full_digits}
use Rattle.index.proofs.Numbers.{small}
use Rattle.index.proofs.Entries.{name_distinct, of_record}
use Rattle.index.proofs.Added.{length_sorted, rising_added}
use Rattle.index.proofs.Adding.{Good, good_true}
use Rattle.promises.specs.Index.{Lent, TooMuch, Unsound, AddRefuses}
use Rattle.promises.proofs.CodedWhen.{is_plate, no_plate}
use Rattle.promises.proofs.IndexAnswers.{has_room, not_much, too_much}

-- ---- lists

pub in_each : {A : Type 0} (P : A → Type 0) (l : List A) → ((x : A) → In x l → P x) → Each P l
in_each P [] f = tt
in_each P (x ∷ l) f = (f x (inl refl), in_each P l (λ y i. f y (inr i)))

pub each_every : (t : ℕ → Bool) (l : List ℕ) → Each (λ x. t x ≡ true) l → every t l ≡ true
each_every t [] e = refl
each_every t (x ∷ l) e = both_true e.0 (each_every t l e.1)

-- Part of a list may be in rising order already.
pub rising_again : (l m : List ℕ) → rising (rising l ++ m) ≡ rising (l ++ m)
rising_again l m =
    only_rising (l ++ m) (rising (rising l ++ m)) (rising_strict (rising l ++ m))
    (λ x i. first x (in_either x (rising l) m (rising_in (rising l ++ m) x i)))
    (λ x i. in_rising (rising l ++ m) x (second x (in_either x l m i)))
  where
    first : (x : ℕ) → In x (rising l) ⊎ In x m → In x (l ++ m)
    first x (inl i) = in_left x l m (rising_in l x i)
    first x (inr i) = in_right x l m i

    second : (x : ℕ) → In x l ⊎ In x m → In x (rising l ++ m)
    second x (inl i) = in_left x (rising l) m (in_rising l x i)
    second x (inr i) = in_right x (rising l) m i

-- ---- the entries of a name

pub codes_few : (plate name : List ℕ) → accepted plate ≡ true → Each (λ c. c ≤ 999999) (codes_in plate name)
codes_few plate name plated =
    let a = full_list plate name in
    let cs = codes_from a.count a.buffer in
    in_each (λ c. c ≤ 999999) (codes_in plate name)
    (λ c i.
    let r = map_in code_number c cs i in
    subst (λ (n : ℕ). n ≤ 999999) (sym r.2) (small r.0 (each_in SixDigits cs r.0 (full_digits plate name plated) r.1)))

-- An entry more for each code, where the number is above all that stand.
more_entries : (plate : List ℕ) → accepted plate ≡ true → (old : List ℕ) (k : ℕ) (name : List ℕ) → k < 4096 → Sorted ◌<◌ old → Each (λ x. record_in x < k) old
    → length (rising (old ++ entries_of plate k name)) ≡ length old + length (codes_in plate name)
more_entries plate plated old k name h s below =
    let new = entries_of plate k name in
    ap length (rising_added old new k s (name_distinct plate plated k name) below (of_record k h (codes_in plate name)))
    ∙ length_sorted (old ++ new)
    ∙ length-append old new
    ∙ ap (λ (n : ℕ). length old + n) (length-map (codes_in plate name) (entry_of k))

-- ---- what stands already

module _ (lent : Lent) (used noted : ℕ) where
  abbrev front : List ℕ
  front = take used lent.index

  abbrev good : Bool
  good = good_index lent.index used lent.report noted

  -- each part of the test holds
  abbrev pub Sound : Type 0
  Sound = Good lent.index used lent.report noted

  sound : good ≡ true → Sound
  sound = good_true lent.index used lent.report noted

  is_good : Sound → good ≡ true
  is_good g =
      both_true (le-leb used (length lent.index) g.within)
      (both_true (le-leb noted (length lent.report) g.reported) (both_true g.ordered g.numbered))

  not_unsound : good ≡ true → Unsound lent used noted → ⊥
  not_unsound e (inl h) = let g = (sound e).within in omega arith
  not_unsound e (inr (inl h)) = let g = (sound e).reported in omega arith
  not_unsound e (inr (inr (inl h))) = false≢true (sym h ∙ (sound e).ordered)
  not_unsound e (inr (inr (inr h))) = false≢true (sym h ∙ (sound e).numbered)

  unsound : good ≡ false → Unsound lent used noted
  unsound e = go (leb used (length lent.index)) (leb noted (length lent.report)) (is_index front) (every (record_below noted) (entries front)) refl refl refl refl e
    where
      go : (a b c d : Bool) → leb used (length lent.index) ≡ a → leb noted (length lent.report) ≡ b → is_index front ≡ c
          → every (record_below noted) (entries front) ≡ d → a && (b && (c && d)) ≡ false → Unsound lent used noted
      go false b c d p q r s e = inl (leb-false used (length lent.index) p)
      go true false c d p q r s e = inr (inl (leb-false noted (length lent.report) q))
      go true true false d p q r s e = inr (inr (inl r))
      go true true true false p q r s e = inr (inr (inr s))
      go true true true true p q r s e = absurd (false≢true (sym e))

-- ---- add

module _ (plate name : List ℕ) (lent : Lent) (used noted : ℕ) where
  abbrev es : List ℕ
  es = rising (entries (take used lent.index) ++ entries_of plate noted name)

  abbrev notes : List ℕ
  notes = take noted lent.report ++ (refusal_of plate name ∷ [])

  -- so many entries and names there are then
  abbrev Much : Type 0
  Much = TooMuch (noted + 1) (length (entries (take used lent.index)) + length (codes_in plate name)) lent

  abbrev answer : Indexed
  answer = add_answer plate name lent.index used lent.report noted

  -- `addAnswer`, by the outcomes of its tests
  abbrev judged : Bool → Bool → Bool → Indexed
  judged plated sound room =
      cond plated (cond sound (cond room (made es notes lent.index lent.report) (unmade 18 lent.index lent.report)) (unmade 18 lent.index lent.report))
      (unmade 10 lent.index lent.report)

  by_tests : (P : Indexed → Type 0)
      → ((t u v : Bool) → accepted plate ≡ t → good lent used noted ≡ u → fits es notes lent.index lent.report ≡ v → P (judged t u v)) → P answer
  unfolding add_answer
  by_tests P f = f (accepted plate) (good lent used noted) (fits es notes lent.index lent.report) refl refl refl

  noted_one : noted ≤ length lent.report → length notes ≡ noted + 1
  noted_one h =
      length-append (take noted lent.report) (refusal_of plate name ∷ []) ∙ ap (λ (n : ℕ). n + 1) (length-take-le noted lent.report h)

  entered : accepted plate ≡ true → Sound lent used noted → noted < 4096 → length es ≡ length (entries (take used lent.index)) + length (codes_in plate name)
  entered plated g h =
      let old = entries (take used lent.index) in
      let i = index_true (take used lent.index) g.ordered in
      more_entries plate plated old noted name h i.1
      (in_each (λ x. record_in x < noted) old (λ x j. ltb-true (record_in x) noted (in_every (record_below noted) old x g.numbered j)))

  add_refuses : Bytes plate → AddRefuses plate name lent used noted answer
  add_refuses bytes = by_tests (AddRefuses plate name lent used noted) go
    where
      much : accepted plate ≡ true → Sound lent used noted → fits es notes lent.index lent.report ≡ false → Much
      much p g e =
          by_lt noted 4096
          (λ h. subst (λ (n : ℕ). TooMuch (noted + 1) n lent) (entered p g h)
          (subst (λ (n : ℕ). TooMuch n (length es) lent) (noted_one g.reported) (too_much es notes lent e)))
          (λ h. inl (omega arith))

      enough : accepted plate ≡ true → Sound lent used noted → fits es notes lent.index lent.report ≡ true → Much → ⊥
      enough p g e m =
          let n = noted_one g.reported in
          let r = (has_room es notes lent e).0 in
          let h : noted < 4096 = omega arith in
          not_much es notes lent e
          (subst (λ (n : ℕ). TooMuch n (length es) lent) (sym n) (subst (λ (k : ℕ). TooMuch (noted + 1) k lent) (sym (entered p g h)) m))

      both : accepted plate ≡ true → Sound lent used noted → good lent used noted ≡ true → fits es notes lent.index lent.report ≡ true → Unsound lent used noted ⊎ Much → ⊥
      both p g b c (inl h) = not_unsound lent used noted b h
      both p g b c (inr h) = enough p g c h

      go : (t u v : Bool) → accepted plate ≡ t → good lent used noted ≡ u → fits es notes lent.index lent.report ≡ v
          → AddRefuses plate name lent used noted (judged t u v)
      go false u v a b c = (inl (no_plate plate a, refl), λ h. (refl, refl, refl, refl))
      go true false v a b c = (inr (is_plate plate bytes a, inl (inl (unsound lent used noted b), refl)), λ h. (refl, refl, refl, refl))
      go true true false a b c = (inr (is_plate plate bytes a, inl (inr (much a (sound lent used noted b) c), refl)), λ h. (refl, refl, refl, refl))
      go true true true a b c = (inr (is_plate plate bytes a, inr (both a (sound lent used noted b) b c, refl)), λ h. absurd (h refl))

  pub adds_name : Bytes plate → (a : Indexed) → a ≡ answer → AddRefuses plate name lent used noted a
  adds_name bytes a e = subst (AddRefuses plate name lent used noted) (sym e) (add_refuses bytes)

  -- Where index and report are sound, a name is added.
  pub adds : accepted plate ≡ true → Sound lent used noted → answer ≡ indexed es notes lent.index lent.report
  adds a g = plainly a (is_good lent used noted g)
    where
      plainly : accepted plate ≡ true → good lent used noted ≡ true → answer ≡ indexed es notes lent.index lent.report
      plainly =
          by_tests (λ (x : Indexed). accepted plate ≡ true → good lent used noted ≡ true → x ≡ indexed es notes lent.index lent.report) go
        where
          go : (t u v : Bool) → accepted plate ≡ t → good lent used noted ≡ u → fits es notes lent.index lent.report ≡ v
              → accepted plate ≡ true → good lent used noted ≡ true → judged t u v ≡ indexed es notes lent.index lent.report
          go false u v a b c p q = absurd (false≢true (sym a ∙ p))
          go true false v a b c p q = absurd (false≢true (sym b ∙ q))
          go true true v a b c p q = ap (λ (t : Bool). cond t (made es notes lent.index lent.report) (unmade 18 lent.index lent.report)) (sym c)
