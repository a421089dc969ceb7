-- A pattern's characters: its bytes at a bit place, the character in front, and a text without a zero byte, one character at a time. A zero byte stands
-- only in U+0000, so that both tests are one of each character. Assumes nothing.
use Rattle.std.specs.Bool.{then_some}
use Rattle.std.proofs.lemmas.Option.{same_Some, none-some}
use Rattle.std.proofs.Common.{Option, Some, None, ◌≡◌, ℕ, zero, suc, ◌+◌, ◌-◌, ◌*◌, ◌/◌, ◌%◌, ◌<◌, ◌≤◌, Bool, true, false, ◌&&◌, ltb, leb, List, [], ◌∷◌, length, get_or, take, drop, sym, refl, ap, ◌∙◌, subst, ap₂, arith, take-append-drop, lt-ltb, le-leb, leb-false, leb-true}
use mathlib.Core.Bool.{false≢true}
use lib.ListN.{get_or-eq_default}
use borrow.Author.Tests.{lt-leb}
use Rattle.laws.specs.Lists.{every, between}
use Rattle.laws.proofs.Tests.{and_true, and_left_false, and_right_false, by_test, is_between}
use Rattle.laws.proofs.Many.{and_holds, and_right_holds, and_assoc, every_append}
use Rattle.chars.specs.Utf8.{char_of, is_text, text_from, is_one, code_of, scalar, bytes_of}
use Rattle.chars.specs.declared.Char.{Char}
use Rattle.chars.specs.declared.Char.TheVariants.{One, Bad, End}
use Rattle.chars.proofs.Texts.{text_front}
use Rattle.chars.proofs.Exact.{decoded_one, bytes_count, scalar_most}
use Rattle.chars.proofs.Places.{numbers}
use Rattle.plate.specs.Bits.{number_at}
use Rattle.plate.specs.Plate.{most_bytes, nonzero_byte, good_pattern}
use Rattle.plate.specs.Read.{many}
use Rattle.plate.specs.Answers.{bytes_at, front_of, FrontTo, good_text, first_of}
use Rattle.plate.specs.declared.Letter.{Letter}
use Rattle.plate.proofs.Listed.{length_many, many_cons, get_d_many, drop_many, past_add, between_in, between_none, between_over}

-- ---- an answer taken apart

-- What is told if a test holds was told, so it held; and where nothing was told, it did not.
pub told : {A : Type 0} {r : Option A} (t : Bool) (x y : A) → r ≡ then_some t x → r ≡ Some y → (t ≡ true) × (x ≡ y)
told true x y e f = (refl, same_Some x y (sym e ∙ f))
told false x y e f = absurd (none-some y (sym e ∙ f))

pub untold : {A : Type 0} {r : Option A} (t : Bool) (x : A) → r ≡ then_some t x → r ≡ None → t ≡ false
untold true x e f = absurd (none-some x (sym f ∙ e))
untold false x e f = refl

abbrev pub letter : ℕ → ℕ → Letter
letter c w = record { code = c; width = w }

-- A character was found: it stands in front, and is not U+0000.
pub front_is : (x : Char) (l : Letter) → front_of x ≡ Some l → (x ≡ One l.code l.width) × (ltb 0 l.code ≡ true)
front_is (One d v) l e =
    let t = told (ltb 0 d) (letter d v) l refl e in (ap (λ (m : Letter). One m.code m.width) t.1, ap (λ (m : Letter). ltb 0 m.code) (sym t.1) ∙ t.0)
front_is Bad l e = absurd (none-some l e)
front_is End l e = absurd (none-some l e)

-- ---- bytes at a place

module _ (s : List ℕ) (n at : ℕ) where
  pub bytes_length : length (bytes_at s n at) ≡ n
  bytes_length = length_many (λ p. number_at s p 8) (λ p. p + 8) n at

  pub bytes_drop : (k : ℕ) → drop k (bytes_at s n at) ≡ bytes_at s (n - k) (at + 8 * k)
  bytes_drop k = drop_many (λ p. number_at s p 8) (λ p. p + 8) n at k ∙ ap (bytes_at s (n - k)) (past_add 8 k at)

  pub byte_here : (k v : ℕ) → k < n → v ≡ number_at s (at + 8 * k) 8 → v ≡ get_or (bytes_at s n at) k 0
  byte_here k v h e = e ∙ sym (get_d_many (λ p. number_at s p 8) (λ p. p + 8) n at k 0 h ∙ ap (λ (p : ℕ). number_at s p 8) (past_add 8 k at))

  pub byte_behind : (k : ℕ) → n ≤ k → 0 ≡ get_or (bytes_at s n at) k 0
  byte_behind k h = sym (get_or-eq_default (bytes_at s n at) 0 (subst (λ (m : ℕ). m ≤ k) (sym bytes_length) h))

  -- ---- the character in front

  module _ (h : 0 < n) where
    some : length (bytes_at s n at) ≡ 0 → ⊥
    some e = let l = bytes_length in omega arith

    -- Four bytes decide it.
    pub from_four : (a b c d : ℕ) (r : Char) → a ≡ get_or (bytes_at s n at) 0 0 → b ≡ get_or (bytes_at s n at) 1 0 → c ≡ get_or (bytes_at s n at) 2 0
        → d ≡ get_or (bytes_at s n at) 3 0 → r ≡ char_of (a ∷ b ∷ c ∷ d ∷ []) → r ≡ char_of (bytes_at s n at)
    from_four a b c d r i j k l e = e ∙ (λ x. char_of (i x ∷ j x ∷ k x ∷ l x ∷ [])) ∙ numbers (bytes_at s n at) some

    -- An ASCII byte is its own character.
    pub ascii : (v : ℕ) → v ≡ number_at s at 8 → v ≤ 0x7F → char_of (bytes_at s n at) ≡ One v 1
    ascii v e i =
        ap char_of (many_cons (λ p. number_at s p 8) (λ p. p + 8) n at h)
        ∙ ap (λ (b : ℕ). char_of (b ∷ many (λ p. number_at s p 8) (λ p. p + 8) (n - 1) (at + 8))) (sym e)
        ∙ simp (le-leb v 0x7F i)

    pub ascii_is : (v : ℕ) → v ≡ number_at s at 8 → v ≤ 0x7F → (v ≡ 0 → ⊥) → Some (letter v 1) ≡ front_of (char_of (bytes_at s n at))
    ascii_is v e i z =
        sym (ap front_of (ascii v e i) ∙ ap (λ (t : Bool). then_some t (letter v 1)) (lt-ltb 0 v (omega arith)))

    -- Two bytes are a character, from U+0080 to U+07FF.
    pub double_is : (a b : ℕ) → a ≡ number_at s at 8 → b ≡ number_at s (at + 8) 8 → 2 ≤ n → 0xC2 ≤ a → a ≤ 0xDF → 0x80 ≤ b → b ≤ 0xBF
        → Some (letter (a % 32 * 64 + b % 64) 2) ≡ front_of (char_of (bytes_at s n at))
    double_is a b e f m a-low a-high b-low b-high =
        let more : 0 < n - 1 = omega (arith, m) in
        let behind = many (λ p. number_at s p 8) (λ p. p + 8) (n - 1 - 1) (at + 8 + 8) in
        let large : 0x80 ≤ a % 32 * 64 + b % 64 = omega (arith, a-low, a-high) in
        let is : char_of (bytes_at s n at) ≡ One (a % 32 * 64 + b % 64) 2 =
        ap char_of (many_cons (λ p. number_at s p 8) (λ p. p + 8) n at h
        ∙ ap (λ (l : List ℕ). number_at s at 8 ∷ l) (many_cons (λ p. number_at s p 8) (λ p. p + 8) (n - 1) (at + 8) more))
        ∙ ap₂ (λ (x y : ℕ). char_of (x ∷ y ∷ behind)) (sym e) (sym f)
        ∙ simp (lt-leb a 0x7F (omega (arith, a-low)), is_between 0xC0 0xDF a (omega (arith, a-low)) a-high, is_between 0x80 0xBF b b-low b-high, le-leb 0x80 _ large) in
        sym (ap front_of is ∙ ap (λ (t : Bool). then_some t (letter (a % 32 * 64 + b % 64) 2)) (lt-ltb 0 (a % 32 * 64 + b % 64) (omega (arith, large))))

  -- It lies within the bytes.
  pub front_within : (r : Option Letter) → r ≡ front_of (char_of (bytes_at s n at)) → FrontTo r n
  front_within r e = subst (λ (x : Option Letter). FrontTo x n) (sym e) (go (char_of (bytes_at s n at)) refl)
    where
      go : (x : Char) → char_of (bytes_at s n at) ≡ x → FrontTo (front_of x) n
      go (One c w) f = within (ltb 0 c)
        where
          within : (t : Bool) → FrontTo (then_some t (letter c w)) n
          within true =
              let d = decoded_one (bytes_at s n at) c w f in
              let l = bytes_length in
              let m = bytes_count c in
              let u = d.2 in
              let v = d.3 in (omega arith, omega arith)
          within false = tt
      go Bad f = tt
      go End f = tt

-- ---- texts without a zero byte

-- The bytes of a character are not zero, unless it is U+0000.
nonzero_bytes : (c : ℕ) → scalar c ≡ true → every nonzero_byte (bytes_of c) ≡ ltb 0 c
nonzero_bytes c s =
    by_test Nonzero (leb c 0x7F) _ _ (λ e. one (leb-true c 0x7F e)) λ e.
    by_test Nonzero (leb c 0x7FF) _ _
    (λ f. let h = leb-false c 0x7F e in let k = leb-true c 0x7FF f in simp (is_between 1 255 (0xC0 + c / 64) (omega arith) (omega arith), tail c, lt-ltb 0 c (omega arith))) λ f.
    let h = leb-false c 0x7FF f in
    by_test Nonzero (leb c 0xFFFF) _ _
    (λ g. let k = leb-true c 0xFFFF g in simp (is_between 1 255 (0xE0 + c / 4096) (omega arith) (omega arith), tail (c / 64), tail c, lt-ltb 0 c (omega arith)))
    (λ g.
    let m = scalar_most c s in
    simp (is_between 1 255 (0xF0 + c / 262144) (omega arith) (omega arith), tail (c / 4096), tail (c / 64), tail c, lt-ltb 0 c (omega arith)))
  where
    Nonzero : List ℕ → Type 0
    Nonzero l = every nonzero_byte l ≡ ltb 0 c

    tail : (y : ℕ) → between 1 255 (0x80 + y % 64) ≡ true
    tail y = is_between 1 255 (0x80 + y % 64) (omega arith) (omega arith)

    one : c ≤ 0x7F → nonzero_byte c && true ≡ ltb 0 c
    one h = and_right_holds (nonzero_byte c) true refl ∙ and_right_holds (leb 1 c) (leb c 255) (le-leb c 255 (omega arith))

-- A character in front: the text is one where the character is not U+0000 and the rest is one.
pub front_text : (p : List ℕ) (c w : ℕ) → char_of p ≡ One c w → good_text p ≡ ltb 0 c && good_text (drop w p)
front_text p c w e =
    let d = decoded_one p c w e in
    ap₂ ◌&&◌
    (ap (every nonzero_byte) (sym (take-append-drop w p)) ∙ every_append nonzero_byte (take w p) (drop w p)
    ∙ ap (λ (t : Bool). t && every nonzero_byte (drop w p)) (ap (every nonzero_byte) d.1 ∙ nonzero_bytes c d.0))
    (text_front p c w e (subst (λ (n : ℕ). 1 ≤ n) (sym d.2) (bytes_count c).0))
    ∙ and_assoc (ltb 0 c) (every nonzero_byte (drop w p)) (is_text (drop w p))

-- No character in front: it is none.
not_text : (x : ℕ) (xs : List ℕ) → is_one (char_of (x ∷ xs)) ≡ false → good_text (x ∷ xs) ≡ false
unfolding text_from
not_text x xs e = and_right_false (every nonzero_byte (x ∷ xs)) _ (and_left_false (is_one (char_of (x ∷ xs))) _ e)

pub not_front : (p : List ℕ) → (length p ≡ 0 → ⊥) → front_of (char_of p) ≡ None → good_text p ≡ false
not_front [] h e = absurd (h refl)
not_front (x ∷ xs) h e = go (char_of (x ∷ xs)) refl e
  where
    zero_front : (c w : ℕ) → char_of (x ∷ xs) ≡ One c w → (t : Bool) → ltb 0 c ≡ t → then_some t (letter c w) ≡ None → good_text (x ∷ xs) ≡ false
    zero_front c w f true g k = absurd (none-some (letter c w) (sym k))
    zero_front c w f false g k = front_text (x ∷ xs) c w f ∙ and_left_false (ltb 0 c) (good_text (drop w (x ∷ xs))) g

    go : (r : Char) → char_of (x ∷ xs) ≡ r → front_of r ≡ None → good_text (x ∷ xs) ≡ false
    go (One c w) f k = zero_front c w f (ltb 0 c) refl k
    go Bad f k = not_text x xs (ap is_one f)
    go End f k = not_text x xs (ap is_one f)

-- The first code point of a pattern is not 0.
pub first_nonzero : (p : List ℕ) → good_pattern p ≡ true → ltb 0 (code_of (char_of p)) ≡ true
first_nonzero [] g = absurd (false≢true g)
first_nonzero (x ∷ xs) g = go (char_of (x ∷ xs)) refl
  where
    good : good_text (x ∷ xs) ≡ true
    good = (and_true (between 1 most_bytes (length (x ∷ xs))) (good_text (x ∷ xs)) g).1

    go : (r : Char) → char_of (x ∷ xs) ≡ r → ltb 0 (code_of r) ≡ true
    go (One c w) f = (and_true (ltb 0 c) (good_text (drop w (x ∷ xs))) (sym (front_text (x ∷ xs) c w f) ∙ good)).0
    go Bad f = absurd (false≢true (sym (not_text x xs (ap is_one f)) ∙ good))
    go End f = absurd (false≢true (sym (not_text x xs (ap is_one f)) ∙ good))

-- ---- one character at a time, from a place on

pub text_end : (s : List ℕ) (n at : ℕ) → n ≤ 0 → good_text (bytes_at s n at) ≡ true
unfolding text_from
text_end s zero at h = refl
text_end s (suc n) at h = absurd (omega arith)

module _ (s : List ℕ) (n at : ℕ) (h : 0 < n) (r : Option Letter) (e : r ≡ front_of (char_of (bytes_at s n at))) where
  pub text_stop : r ≡ None → good_text (bytes_at s n at) ≡ false
  text_stop f = not_front (bytes_at s n at) (λ z. let l = bytes_length s n at in omega arith) (sym e ∙ f)

  pub text_turn : (l : Letter) → r ≡ Some l → good_text (bytes_at s (n - l.width) (at + 8 * l.width)) ≡ good_text (bytes_at s n at)
  text_turn l f =
      let i = front_is (char_of (bytes_at s n at)) l (sym e ∙ f) in
      ap good_text (sym (bytes_drop s n at l.width))
      ∙ sym (front_text (bytes_at s n at) l.code l.width i.0 ∙ and_holds (ltb 0 l.code) (good_text (drop l.width (bytes_at s n at))) i.1)

-- ---- a pattern

module _ (s : List ℕ) (n at : ℕ) where
  first_out : between 1 most_bytes (length (bytes_at s n at)) ≡ false → None ≡ first_of (bytes_at s n at)
  first_out h = sym (ap (λ (t : Bool). then_some t (code_of (char_of (bytes_at s n at)))) (and_left_false _ (good_text (bytes_at s n at)) h))

  pub first_none : n < 1 → None ≡ first_of (bytes_at s n at)
  first_none h = first_out (between_none (λ p. number_at s p 8) (λ p. p + 8) n at most_bytes h)

  pub first_over : most_bytes < n → None ≡ first_of (bytes_at s n at)
  first_over h = first_out (between_over (λ p. number_at s p 8) (λ p. p + 8) n at most_bytes h)

  module _ (h : 1 ≤ n) (k : n ≤ most_bytes) (r : Option Letter) (e : r ≡ front_of (char_of (bytes_at s n at))) where
    -- The count is right, so the text decides.
    decides : (t : Bool) → good_text (bytes_at s n at) ≡ t → then_some t (code_of (char_of (bytes_at s n at))) ≡ first_of (bytes_at s n at)
    decides t g =
        ap (λ (b : Bool). then_some b (code_of (char_of (bytes_at s n at))))
        (sym (and_holds _ (good_text (bytes_at s n at)) (between_in (λ p. number_at s p 8) (λ p. p + 8) n at most_bytes h k) ∙ g))

    pub first_bad : r ≡ None → None ≡ first_of (bytes_at s n at)
    first_bad f = decides false (text_stop s n at h r e f)

    pub first_decided : (l : Letter) → r ≡ Some l → (v : Bool) → v ≡ good_text (bytes_at s (n - l.width) (at + 8 * l.width)) → (b : Bool) → v ≡ b
        → then_some b l.code ≡ first_of (bytes_at s n at)
    first_decided l f v d b g =
        ap (then_some b) (sym (ap code_of (front_is (char_of (bytes_at s n at)) l (sym e ∙ f)).0))
        ∙ decides b (sym (text_turn s n at h r e l f) ∙ sym d ∙ g)
