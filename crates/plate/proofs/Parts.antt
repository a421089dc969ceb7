-- What the functions of `read` answer: a rule's parts stand where the definitions look for them, and what is held is what is written there.
-- Assumes nothing.
use Rattle.std.proofs.Common.{Option, Some, None, IsSome, ◌≡◌, ℕ, zero, suc, ◌+◌, ◌-◌, ◌*◌, ◌/◌, ◌%◌, ◌<◌, ◌≤◌, Bool, true, false, cond, ◌&&◌, eqb, ltb, List, [], ◌∷◌, length, get_or, take, drop, sym, refl, ap, ◌∙◌, subst, arith, length-drop, drop-drop, ltb-true, eq-eqb, ne_eqb}
use mathlib.Core.Bool.{false≢true}
use Rattle.laws.specs.Lists.{every, between}
use Rattle.laws.proofs.Tests.{and_true, both_true, between_true}
use Rattle.laws.proofs.Cuts.{every_drop}
use Rattle.chars.specs.Utf8.{char_of, chars_of, is_text, code_of, width_of}
use Rattle.chars.specs.declared.Char.TheVariants.{One}
use Rattle.chars.proofs.Texts.{text_front, chars_front}
use Rattle.chars.proofs.Exact.{decoded_one, bytes_count}
use Rattle.plate.specs.Bits.{number_at}
use Rattle.plate.specs.Plate.{most_bytes, Folding, nonzero_byte, good_field, good_pattern, rising}
use Rattle.plate.specs.Most.{rule_most}
use Rattle.plate.specs.Read.{many, past, alternative_end, field_at, field_end, pattern_at, rule_at, folding_at, folding_end, fold_by}
use Rattle.plate.specs.Answers.{bytes_at, front_of, good_text}
use Rattle.plate.specs.Stands.{Here, letters_from, Mark, LetterIs, field_of, field_place}
use Rattle.plate.specs.declared.Letter.{Letter}
use Rattle.plate.specs.declared.FieldKind.{FieldKind}
use Rattle.plate.specs.declared.FieldKind.TheVariants.{Start, Vowel, Other}
use Rattle.plate.proofs.Place.{number_lt}
use Rattle.plate.proofs.Windows.{number_append}
use Rattle.plate.proofs.Listed.{length_many, many_cons, get_d_many, take_many, drop_many, past_cons, past_add}
use Rattle.plate.proofs.Facts.{rule_near}
use Rattle.plate.proofs.Fronts.{front_is, bytes_length, bytes_drop, ascii, front_text, not_front}

-- ---- foldings

-- The keys behind the first rise too.
rising_rest : (f : Folding) (more : List Folding) → rising (f ∷ more) ≡ true → rising more ≡ true
rising_rest f [] h = refl
rising_rest f (g ∷ more) h = (and_true (ltb f.key g.key) (rising (g ∷ more)) h).1

-- Below the first key stands no key.
below_first : (c : ℕ) (f : Folding) (more : List Folding) → rising (f ∷ more) ≡ true → c < f.key → fold_by (f ∷ more) c ≡ c
unfolding fold_by
below_first c f [] h g = ap (λ (t : Bool). cond t f.target c) (ne_eqb f.key c (λ e. omega arith))
below_first c f (q ∷ more) h g =
    let b = and_true (ltb f.key q.key) (rising (q ∷ more)) h in
    let k = ltb-true f.key q.key b.0 in
    ap (λ (t : Bool). cond t f.target (fold_by (q ∷ more) c)) (ne_eqb f.key c (λ e. omega arith)) ∙ below_first c q more b.1 (omega arith)

-- A folding behind the first has a greater key.
key_behind : (f d : Folding) (more : List Folding) (m : ℕ) → rising (f ∷ more) ≡ true → m < length more → f.key < (get_or more m d).key
key_behind f d [] m r l = absurd (omega arith)
key_behind f d (g ∷ more) zero r l = ltb-true f.key g.key (and_true (ltb f.key g.key) (rising (g ∷ more)) r).0
key_behind f d (g ∷ more) (suc m) r l =
    let b = and_true (ltb f.key g.key) (rising (g ∷ more)) r in
    let near = ltb-true f.key g.key b.0 in
    let far = key_behind g d more m b.1 (omega arith) in
    omega arith

rising_drop : (m : ℕ) (fs : List Folding) → rising fs ≡ true → rising (drop m fs) ≡ true
rising_drop zero fs r = r
rising_drop (suc m) [] r = refl
rising_drop (suc m) (f ∷ more) r = rising_drop m more (rising_rest f more r)

rising_take : (m : ℕ) (fs : List Folding) → rising fs ≡ true → rising (take m fs) ≡ true
rising_take zero fs r = refl
rising_take (suc m) [] r = refl
rising_take (suc zero) (f ∷ more) r = refl
rising_take (suc (suc m)) (f ∷ []) r = refl
rising_take (suc (suc m)) (f ∷ g ∷ more) r =
    let b = and_true (ltb f.key g.key) (rising (g ∷ more)) r in
    both_true b.0 (rising_take (suc m) (g ∷ more) b.1)

module _ (c : ℕ) (d : Folding) where
  -- Where the key of the m-th is no greater, those before it say nothing.
  fold_drop : (m : ℕ) (fs : List Folding) → rising fs ≡ true → m < length fs → (get_or fs m d).key ≤ c → fold_by (drop m fs) c ≡ fold_by fs c
  unfolding fold_by
  fold_drop zero fs r l h = refl
  fold_drop (suc m) [] r l h = absurd (omega arith)
  fold_drop (suc m) (f ∷ more) r l h =
      let inside : m < length more = omega (arith, l) in
      let greater = key_behind f d more m r inside in
      fold_drop m more (rising_rest f more r) inside h
      ∙ sym (ap (λ (t : Bool). cond t f.target (fold_by more c)) (ne_eqb f.key c (λ e. omega (arith, greater, h, e))))

  -- Where it is greater, neither it nor those behind it do.
  fold_take : (m : ℕ) (fs : List Folding) → rising fs ≡ true → m < length fs → c < (get_or fs m d).key → fold_by (take m fs) c ≡ fold_by fs c
  unfolding fold_by
  fold_take m [] r l h = absurd (omega arith)
  fold_take zero (f ∷ more) r l h = sym (below_first c f more r h)
  fold_take (suc m) (f ∷ more) r l h = ap (cond (eqb f.key c) f.target) (fold_take m more (rising_rest f more r) (omega arith) h)

-- By halves: the key of the folding in the middle tells which side may have it.
module _ (s : List ℕ) (c at left half : ℕ) (r : rising (many (folding_at s) folding_end left at) ≡ true) (h : half < left) (k : ℕ) (e : k ≡ number_at s (at + 42 * half) 21) where
  abbrev foldings : List Folding
  foldings = many (folding_at s) folding_end left at

  inside : half < length foldings
  inside = subst (λ (n : ℕ). half < n) (sym (length_many (folding_at s) folding_end left at)) h

  middle_key : k ≡ (get_or foldings half (folding_at s 0)).key
  middle_key =
      e ∙ ap (λ (p : ℕ). number_at s p 21) (sym (past_add 42 half at))
      ∙ ap (λ (f : Folding). f.key) (sym (get_d_many (folding_at s) folding_end left at half (folding_at s 0) h))

  first_half : take half foldings ≡ many (folding_at s) folding_end half at
  first_half = take_many (folding_at s) folding_end half left at (omega (arith, h))

  last_half : drop half foldings ≡ many (folding_at s) folding_end (left - half) (at + 42 * half)
  last_half = drop_many (folding_at s) folding_end left at half ∙ ap (many (folding_at s) folding_end (left - half)) (past_add 42 half at)

  pub fold_first : c < k
      → (rising (many (folding_at s) folding_end half at) ≡ true) × (fold_by (many (folding_at s) folding_end half at) c ≡ fold_by foldings c)
  fold_first l = (
    ap rising (sym first_half) ∙ rising_take half foldings r,
    ap (λ (fs : List Folding). fold_by fs c) (sym first_half) ∙ fold_take c (folding_at s 0) half foldings r inside (subst (λ (n : ℕ). c < n) middle_key l),
  )

  pub fold_last : k ≤ c
      → (rising (many (folding_at s) folding_end (left - half) (at + 42 * half)) ≡ true)
      × (fold_by (many (folding_at s) folding_end (left - half) (at + 42 * half)) c ≡ fold_by foldings c)
  fold_last l = (
    ap rising (sym last_half) ∙ rising_drop half foldings r,
    ap (λ (fs : List Folding). fold_by fs c) (sym last_half) ∙ fold_drop c (folding_at s 0) half foldings r inside (subst (λ (n : ℕ). n ≤ c) middle_key l),
  )

module _ (s : List ℕ) (c at left : ℕ) (h : 0 < left) (k : ℕ) (e : k ≡ number_at s at 21) where
  abbrev foldings_left : List Folding
  foldings_left = many (folding_at s) folding_end left at

  abbrev foldings_next : List Folding
  foldings_next = many (folding_at s) folding_end (left - 1) (at + 42)

  first_folding : foldings_left ≡ folding_at s at ∷ foldings_next
  first_folding = many_cons (folding_at s) folding_end left at h

  by_key : (t : Bool) → eqb (number_at s at 21) c ≡ t → fold_by foldings_left c ≡ cond t (number_at s (at + 21) 21) (fold_by foldings_next c)
  unfolding fold_by
  by_key t f = ap (λ (l : List Folding). fold_by l c) first_folding ∙ ap (λ (b : Bool). cond b (number_at s (at + 21) 21) (fold_by foldings_next c)) f

  pub fold_below : rising foldings_left ≡ true → c < k → c ≡ fold_by foldings_left c
  fold_below r l =
      sym (ap (λ (l : List Folding). fold_by l c) first_folding
      ∙ below_first c (folding_at s at) foldings_next (ap rising (sym first_folding) ∙ r) (subst (λ (n : ℕ). c < n) e l))

  pub fold_hit : k ≡ c → (t : ℕ) → t ≡ number_at s (at + 21) 21 → t ≡ fold_by foldings_left c
  fold_hit f t g = g ∙ sym (by_key true (eq-eqb _ _ (sym e ∙ f)))

  pub fold_miss : (k ≡ c → ⊥) → fold_by foldings_next c ≡ fold_by foldings_left c
  fold_miss f = sym (by_key false (ne_eqb _ _ (λ q. f (e ∙ q))))

pub fold_end : (s : List ℕ) (c at left : ℕ) → left ≤ 0 → c ≡ fold_by (many (folding_at s) folding_end left at) c
unfolding fold_by
fold_end s c at zero h = refl
fold_end s c at (suc n) h = absurd (omega arith)

-- ---- places

module _ (s : List ℕ) where
  -- Seven bits are a field's count and the digit count of its first alternative.
  pub field_front : (at v : ℕ) → v ≡ number_at s at 7 → (v / 8 ≡ number_at s at 4) × (v % 8 ≡ number_at s (at + 4) 3)
  field_front at v e =
      let both : number_at s at 7 ≡ number_at s at 4 * 8 + number_at s (at + 4) 3 = number_append s at 4 3 in
      let few : number_at s (at + 4) 3 < 8 = number_lt s (at + 4) 3 in
      (omega (arith, both, few, e), omega (arith, both, few, e))

  pub field_one : (at v : ℕ) → v ≡ number_at s at 7 → v / 8 ≡ 1 → at + 7 + 4 * (v % 8) ≡ field_end s at
  field_one at v e h =
      let f = field_front at v e in
      ap (λ (n : ℕ). at + 7 + 4 * n) f.1 ∙ ap (λ (n : ℕ). n + 4 * number_at s (at + 4) 3) {x = at + 7} {y = at + 4 + 3} (omega arith)
      ∙ ap (λ (n : ℕ). past (alternative_end s) n (at + 4)) (sym h ∙ f.0)

  pub field_turn : (place left : ℕ) → 0 < left → (r : ℕ) → r ≡ number_at s place 3 → past (alternative_end s) (left - 1) (place + 3 + 4 * r) ≡ past (alternative_end s) left place
  field_turn place left h r e = ap (λ (x : ℕ). past (alternative_end s) (left - 1) (place + 3 + 4 * x)) e ∙ sym (past_cons (alternative_end s) left place h)

  module _ (at n : ℕ) (e : n ≡ number_at s at 5) where
    module _ (v : ℕ) (f : v ≡ field_end s (at + 5 + 8 * n)) where
      pub place_vowel : v ≡ field_place s at Vowel
      place_vowel = f ∙ ap (λ (k : ℕ). field_end s (at + 5 + 8 * k)) e

      pub place_other : (o : ℕ) → o ≡ field_end s v → o ≡ field_place s at Other
      place_other o g = g ∙ ap (field_end s) place_vowel

  -- A field begins within its rule.
  module _ (at : ℕ) (here : Here s at) where
    pub vowel_near : (n : ℕ) → n ≡ number_at s at 5 → (v : ℕ) → v ≡ field_end s (at + 5 + 8 * n) → v ≤ at + rule_most
    vowel_near n e v f =
        let m = rule_near s at here.good in
        omega (arith, m.start, m.vowel, f ∙ ap (λ (k : ℕ). field_end s (at + 5 + 8 * k)) e)

    pub field_near : (which : FieldKind) (r : ℕ) → r ≡ field_place s at which → r ≤ at + rule_most
    field_near Start r e = let m = rule_near s at here.good in omega (arith, m.start)
    field_near Vowel r e = let m = rule_near s at here.good in omega (arith, m.start, m.vowel)
    field_near Other r e = let m = rule_near s at here.good in omega (arith, m.start, m.vowel, m.other)

  -- ---- patterns

  module _ (at : ℕ) (here : Here s at) where
    pub pattern_count : (n : ℕ) → n ≡ number_at s at 5 → (n ≡ length (pattern_at s at)) × (0 < n) × (n ≤ most_bytes)
    pattern_count n e =
        let l = e ∙ sym (bytes_length s (number_at s at 5) (at + 5)) in
        let b = between_true 1 most_bytes (length (pattern_at s at)) (and_true (between 1 most_bytes (length (pattern_at s at))) (good_text (pattern_at s at)) pattern_good).0 in
        (l, omega (arith, l), omega (arith, l))
      where
        pattern_good : good_pattern (pattern_at s at) ≡ true
        pattern_good = (and_true (good_pattern (rule_at s at).pattern) (good_field (rule_at s at).start && (good_field (rule_at s at).vowel && good_field (rule_at s at).other)) here.good).0

    pattern_text : good_text (pattern_at s at) ≡ true
    pattern_text =
        (and_true (between 1 most_bytes (length (pattern_at s at))) (good_text (pattern_at s at))
        (and_true (good_pattern (rule_at s at).pattern) (good_field (rule_at s at).start && (good_field (rule_at s at).vowel && good_field (rule_at s at).other)) here.good).0
        ).1

    -- A pattern has a byte, and a character begins at its first.
    pub pattern_some : 0 < length (pattern_at s at)
    pattern_some = let c = pattern_count (number_at s at 5) refl in omega (arith, c.0, c.1)

    pub mark_start : Mark s at 0
    unfolding Mark
    mark_start = (and_true (every nonzero_byte (pattern_at s at)) (is_text (pattern_at s at)) pattern_text).1

    module _ (k : ℕ) (mark : Mark s at k) (h : k < length (pattern_at s at)) where
      abbrev rest : List ℕ
      rest = drop k (pattern_at s at)

      -- From a mark on, the pattern is text without a zero byte.
      rest_text : good_text rest ≡ true
      unfolding Mark
      rest_text =
          both_true (every_drop nonzero_byte k (pattern_at s at) (and_true (every nonzero_byte (pattern_at s at)) (is_text (pattern_at s at)) pattern_text).0) mark

      rest_bytes : (n : ℕ) → n ≡ number_at s at 5 → rest ≡ bytes_at s (n - k) (at + 5 + 8 * k)
      rest_bytes n e = bytes_drop s (number_at s at 5) (at + 5) k ∙ ap (λ (m : ℕ). bytes_at s (m - k) (at + 5 + 8 * k)) (sym e)

      pub rest_some : (n : ℕ) → n ≡ number_at s at 5 → k < n
      rest_some n e = omega (arith, (pattern_count n e).0)

      -- The character in front of the rest.
      letter_is : (c w : ℕ) → char_of rest ≡ One c w → LetterIs s at k (record { code = c; width = w })
      unfolding Mark letters_from
      letter_is c w e =
          let d = decoded_one rest c w e in
          let some : 1 ≤ w = subst (λ (n : ℕ). 1 ≤ n) (sym d.2) (bytes_count c).0 in
          let moved = drop-drop w k (pattern_at s at) in
          record {
            is = λ i. record { code = code_of (sym e i); width = width_of (sym e i) };
            front = chars_front rest c w e some ∙ ap (λ (l : List ℕ). c ∷ chars_of l) moved;
            mark = ap is_text (sym moved) ∙ sym (text_front rest c w e some) ∙ mark;
            some = some;
            within = omega (arith, d.3, length-drop k (pattern_at s at));
            nonzero = ltb-true 0 c (and_true (ltb 0 c) (good_text (drop w rest)) (sym (front_text rest c w e) ∙ rest_text)).0;
          }

      pub letter_ascii : (v : ℕ) → v ≡ number_at s (at + 5 + 8 * k) 8 → v ≤ 0x7F → LetterIs s at k (record { code = v; width = 1 })
      letter_ascii v e i =
          letter_is v 1 (ap char_of (rest_bytes (number_at s at 5) refl)
          ∙ ascii s (number_at s at 5 - k) (at + 5 + 8 * k) (let l = rest_some (number_at s at 5) refl in omega arith) v e i)

      module _ (n : ℕ) (e : n ≡ number_at s at 5) (r : Option Letter) (d : r ≡ front_of (char_of (bytes_at s (n - k) (at + 5 + 8 * k)))) where
        pub letter_wide : (l : Letter) → r ≡ Some l → LetterIs s at k l
        letter_wide l f = letter_is l.code l.width (ap char_of (rest_bytes n e) ∙ (front_is (char_of (bytes_at s (n - k) (at + 5 + 8 * k))) l (sym d ∙ f)).0)

        -- There is one.
        letter_none : r ≡ None → ⊥
        letter_none f =
            false≢true (sym (not_front rest (λ z. let l = length-drop k (pattern_at s at) in omega arith) (ap (λ (l : List ℕ). front_of (char_of l)) (rest_bytes n e) ∙ sym d ∙ f)) ∙ rest_text)

        pub letter_there : IsSome r
        letter_there = go r letter_none
          where
            go : (q : Option Letter) → (q ≡ None → ⊥) → IsSome q
            go (Some l) h = refl
            go None h = absurd (h refl)

  -- ---- fields

  -- Each field of a rule that stands here is good.
  pub field_good : (at : ℕ) → Here s at → (which : FieldKind) → good_field (field_at s (field_place s at which)) ≡ true
  field_good at here which = go which
    where
      fields : good_field (rule_at s at).start && (good_field (rule_at s at).vowel && good_field (rule_at s at).other) ≡ true
      fields = (and_true (good_pattern (rule_at s at).pattern) (good_field (rule_at s at).start && (good_field (rule_at s at).vowel && good_field (rule_at s at).other)) here.good).1

      others : good_field (rule_at s at).vowel && good_field (rule_at s at).other ≡ true
      others = (and_true (good_field (rule_at s at).start) (good_field (rule_at s at).vowel && good_field (rule_at s at).other) fields).1

      go : (which : FieldKind) → good_field (field_at s (field_place s at which)) ≡ true
      go Start = (and_true (good_field (rule_at s at).start) (good_field (rule_at s at).vowel && good_field (rule_at s at).other) fields).0
      go Vowel = (and_true (good_field (rule_at s at).vowel) (good_field (rule_at s at).other) others).0
      go Other = (and_true (good_field (rule_at s at).vowel) (good_field (rule_at s at).other) others).1

  pub field_here : (at : ℕ) (which : FieldKind) → field_of (rule_at s at) which ≡ field_at s (field_place s at which)
  field_here at Start = refl
  field_here at Vowel = refl
  field_here at Other = refl
