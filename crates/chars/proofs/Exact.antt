-- Decoding is exact: what is encoded is decoded, and what decodes was encoded, for one character and for whole texts.
-- Both hold by the four ranges of RFC 3629's table: within one, the digits base 64 of the character are the bytes. Assumes nothing.
use mathlib.Core.Path.{◌≡◌, refl, sym, ap, ap₂, subst, ◌∙◌}
use mathlib.Core.Logic.{⊎_elim}
use mathlib.Core.Bool.{Bool, true, ◌&&◌, ◌||◌, false≢true}
use mathlib.Core.List.{List, [], ◌∷◌, ◌++◌}
use Prim.Native.Nat.{ℕ, zero, suc, ◌+◌, ◌-◌, ◌*◌, ◌/◌, ◌%◌, ◌<◌, ◌≤◌}
use native.Mathlib.Omega.{arith}
use native.Mathlib.Numerals.{sub-one}
use borrow.Author.Tests.{leb-true, leb-false, le-leb, lt-leb}
use lib.Dec.{leb}
use lib.ListN.{length, take, drop, take-append-drop}
use lib.Seq.{drop-append_seam}
use Rattle.laws.specs.Lists.{every, between}
use Rattle.laws.proofs.Tests.{and_true, both_true, or_true, by_test, between_true, is_between, above_between}
use Rattle.chars.specs.Utf8.{scalar, bytes_of, bytes_of_all, tail, two, three, four, char_of, is_one, code_of, width_of, text_from, chars_from, is_text, chars_of}
use Rattle.chars.specs.declared.Char.{Char}
use Rattle.chars.specs.declared.Char.TheVariants.{One, Bad, End}
use Rattle.chars.proofs.Texts.{text_front, chars_front}

-- A scalar value is at most U+10FFFF.
pub scalar_most : (c : ℕ) → scalar c ≡ true → c ≤ 0x10FFFF
scalar_most c e =
    ⊎_elim (λ h. omega (arith, leb-true c 0xD7FF h)) (λ h. (between_true 0xE000 0x10FFFF c h).1) (or_true (leb c 0xD7FF) (between 0xE000 0x10FFFF c) e)

-- Whatever is at most U+D7FF is a scalar value.
low_scalar : (c : ℕ) → c ≤ 0xD7FF → scalar c ≡ true
low_scalar c h = ap (λ (t : Bool). t || between 0xE000 0x10FFFF c) (le-leb c 0xD7FF h)

-- ---- the bytes of a character, by its size

module _ (c : ℕ) where
  one_byte : c ≤ 0x7F → bytes_of c ≡ c ∷ []
  one_byte h = simp (le-leb c 0x7F h)

  two_bytes : 0x80 ≤ c → c ≤ 0x7FF → bytes_of c ≡ (0xC0 + c / 64) ∷ (0x80 + c % 64) ∷ []
  two_bytes h i = simp (lt-leb c 0x7F h, le-leb c 0x7FF i)

  three_bytes : 0x800 ≤ c → c ≤ 0xFFFF → bytes_of c ≡ (0xE0 + c / 4096) ∷ (0x80 + c / 64 % 64) ∷ (0x80 + c % 64) ∷ []
  three_bytes h i = simp (lt-leb c 0x7F (omega arith), lt-leb c 0x7FF h, le-leb c 0xFFFF i)

  four_bytes : 0x10000 ≤ c → bytes_of c ≡ (0xF0 + c / 262144) ∷ (0x80 + c / 4096 % 64) ∷ (0x80 + c / 64 % 64) ∷ (0x80 + c % 64) ∷ []
  four_bytes h = simp (lt-leb c 0x7F (omega arith), lt-leb c 0x7FF (omega arith), lt-leb c 0xFFFF h)

-- A character has one byte at least, and four at most.
pub bytes_count : (c : ℕ) → (1 ≤ length (bytes_of c)) × (length (bytes_of c) ≤ 4)
bytes_count c =
    by_test Few (leb c 0x7F) _ _ (λ e. (omega arith, omega arith)) λ e.
    by_test Few (leb c 0x7FF) _ _ (λ f. (omega arith, omega arith)) λ f.
    by_test Few (leb c 0xFFFF) _ _ (λ g. (omega arith, omega arith)) (λ g. (omega arith, omega arith))
  where
    Few : List ℕ → Type 0
    Few l = (1 ≤ length l) × (length l ≤ 4)

-- ---- what is encoded is decoded

module _ (c : ℕ) (rest : List ℕ) where
  back_1 : c ≤ 0x7F → char_of (c ∷ rest) ≡ One c 1
  back_1 h = simp (le-leb c 0x7F h)

  back_2 : 0x7F < c → c ≤ 0x7FF → char_of ((0xC0 + c / 64) ∷ (0x80 + c % 64) ∷ rest) ≡ One c 2
  back_2 h i =
      simp (
        lt-leb (0xC0 + c / 64) 0x7F (omega arith),
        is_between 0xC0 0xDF (0xC0 + c / 64) (omega arith) (omega arith),
        is_between 0x80 0xBF (0x80 + c % 64) (omega arith) (omega arith),
        is,
        le-leb 0x80 c h,
      )
    where
      is : (0xC0 + c / 64) % 32 * 64 + (0x80 + c % 64) % 64 ≡ c
      is = omega arith

  back_3 : 0x7FF < c → c ≤ 0xFFFF → scalar c ≡ true → char_of ((0xE0 + c / 4096) ∷ (0x80 + c / 64 % 64) ∷ (0x80 + c % 64) ∷ rest) ≡ One c 3
  back_3 h i s =
      simp (
        lt-leb (0xE0 + c / 4096) 0x7F (omega arith),
        above_between 0xC0 0xDF (0xE0 + c / 4096) (omega arith),
        is_between 0xE0 0xEF (0xE0 + c / 4096) (omega arith) (omega arith),
        is_between 0x80 0xBF (0x80 + c / 64 % 64) (omega arith) (omega arith),
        is_between 0x80 0xBF (0x80 + c % 64) (omega arith) (omega arith),
        is,
        le-leb 0x800 c h,
        s,
      )
    where
      is : (0xE0 + c / 4096) % 16 * 4096 + (0x80 + c / 64 % 64) % 64 * 64 + (0x80 + c % 64) % 64 ≡ c
      is = omega arith

  back_4 : 0xFFFF < c → scalar c ≡ true
      → char_of ((0xF0 + c / 262144) ∷ (0x80 + c / 4096 % 64) ∷ (0x80 + c / 64 % 64) ∷ (0x80 + c % 64) ∷ rest) ≡ One c 4
  back_4 h s =
      let most = scalar_most c s in
      simp (
        lt-leb (0xF0 + c / 262144) 0x7F (omega arith),
        above_between 0xC0 0xDF (0xF0 + c / 262144) (omega arith),
        above_between 0xE0 0xEF (0xF0 + c / 262144) (omega arith),
        is_between 0xF0 0xF7 (0xF0 + c / 262144) (omega arith) (omega arith),
        is_between 0x80 0xBF (0x80 + c / 4096 % 64) (omega arith) (omega arith),
        is_between 0x80 0xBF (0x80 + c / 64 % 64) (omega arith) (omega arith),
        is_between 0x80 0xBF (0x80 + c % 64) (omega arith) (omega arith),
        is most,
        le-leb 0x10000 c h,
        s,
      )
    where
      d₁ : c / 4096 ≡ c / 64 / 64
      d₁ = omega arith

      d₂ : c / 262144 ≡ c / 4096 / 64
      d₂ = omega arith

      first : (y : ℕ) → y ≤ 4 → (0xF0 + y) % 8 ≡ y
      first y h = omega arith

      other : (y : ℕ) → (0x80 + y % 64) % 64 ≡ y % 64
      other y = omega arith

      is : c ≤ 0x10FFFF → (0xF0 + c / 262144) % 8 * 262144 + (0x80 + c / 4096 % 64) % 64 * 4096 + (0x80 + c / 64 % 64) % 64 * 64 + (0x80 + c % 64) % 64 ≡ c
      is most = rw (first (c / 262144) (omega arith), other (c / 4096), other (c / 64), other c) (omega (arith, d₁, d₂))

-- One character: its bytes, whatever follows, begin with it.
pub encoded_one : (c : ℕ) → scalar c ≡ true → (rest : List ℕ) → char_of (bytes_of c ++ rest) ≡ One c (length (bytes_of c))
encoded_one c s rest =
    by_test Back (leb c 0x7F) _ _ (λ e. back_1 c rest (leb-true c 0x7F e)) λ e.
    by_test Back (leb c 0x7FF) _ _ (λ f. back_2 c rest (leb-false c 0x7F e) (leb-true c 0x7FF f)) λ f.
    by_test Back (leb c 0xFFFF) _ _ (λ g. back_3 c rest (leb-false c 0x7FF f) (leb-true c 0xFFFF g) s) (λ g. back_4 c rest (leb-false c 0xFFFF g) s)
  where
    Back : List ℕ → Type 0
    Back l = char_of (l ++ rest) ≡ One c (length l)

-- Every text of scalar values is UTF-8.
pub encoded_text : (cs : List ℕ) → every scalar cs ≡ true → is_text (bytes_of_all cs) ≡ true
unfolding text_from
encoded_text [] h = refl
encoded_text (c ∷ cs) h =
    let t = and_true (scalar c) (every scalar cs) h in
    text_front (bytes_of c ++ bytes_of_all cs) c (length (bytes_of c)) (encoded_one c t.0 (bytes_of_all cs)) (bytes_count c).0
    ∙ ap is_text (drop-append_seam (bytes_of c) (bytes_of_all cs))
    ∙ encoded_text cs t.1

-- Its characters are those that were encoded.
pub encoded_chars : (cs : List ℕ) → every scalar cs ≡ true → chars_of (bytes_of_all cs) ≡ cs
unfolding chars_from
encoded_chars [] h = refl
encoded_chars (c ∷ cs) h =
    let t = and_true (scalar c) (every scalar cs) h in
    chars_front (bytes_of c ++ bytes_of_all cs) c (length (bytes_of c)) (encoded_one c t.0 (bytes_of_all cs)) (bytes_count c).0
    ∙ ap (λ (l : List ℕ). c ∷ l) (ap chars_of (drop-append_seam (bytes_of c) (bytes_of_all cs)) ∙ encoded_chars cs t.1)

-- ---- what decodes was encoded

-- What holds of an answer on s: a character is a scalar value, and its bytes stand in front of s; only of no bytes is the answer that they end.
abbrev pub Decoded : List ℕ → Char → Type 0
Decoded s (One c w) = (scalar c ≡ true) × (take w s ≡ bytes_of c) × (w ≡ length (bytes_of c)) × (w ≤ length s)
Decoded s Bad = 0 < length s
Decoded s End = length s ≡ 0

-- The bytes in front, where they are those of a scalar value.
decoded_is : (s : List ℕ) (c w : ℕ) (l : List ℕ) → scalar c ≡ true → bytes_of c ≡ l → take w s ≡ l → w ≡ length l → w ≤ length s → Decoded s (One c w)
decoded_is s c w l h b e n m = (h, e ∙ sym b, n ∙ sym (ap (λ (x : List ℕ). length x) b), m)

-- A tail byte, from its last six bits.
tail_of : (b d : ℕ) → tail b ≡ true → d ≡ b % 64 → b ≡ 0x80 + d
tail_of b d t e = let h = between_true 0x80 0xBF b t in omega arith

decoded_2 : (a : ℕ) (s : List ℕ) → (0xC0 ≤ a) × (a ≤ 0xDF) → Decoded (a ∷ s) (two a s)
decoded_2 a [] h = omega arith
decoded_2 a (b ∷ s) h = by_test (Decoded (a ∷ b ∷ s)) (tail b && leb 0x80 c) (One c 2) Bad go (λ e. omega arith)
  where
    c : ℕ
    c = a % 32 * 64 + b % 64

    first : a ≡ 0xC0 + c / 64
    first = omega arith

    second : c % 64 ≡ b % 64
    second = omega arith

    go : tail b && leb 0x80 c ≡ true → Decoded (a ∷ b ∷ s) (One c 2)
    go e =
        let t = and_true (tail b) (leb 0x80 c) e in
        decoded_is (a ∷ b ∷ s) c 2 _ (low_scalar c (omega arith)) (two_bytes c (leb-true 0x80 c t.1) (omega arith))
        (λ i. first i ∷ tail_of b (c % 64) t.0 second i ∷ []) refl (omega arith)

decoded_3 : (a : ℕ) (s : List ℕ) → (0xE0 ≤ a) × (a ≤ 0xEF) → Decoded (a ∷ s) (three a s)
decoded_3 a [] h = omega arith
decoded_3 a (b ∷ []) h = omega arith
decoded_3 a (b ∷ b' ∷ s) h =
    by_test (Decoded (a ∷ b ∷ b' ∷ s)) (tail b && (tail b' && (leb 0x800 c && scalar c))) (One c 3) Bad go (λ e. omega arith)
  where
    c : ℕ
    c = a % 16 * 4096 + b % 64 * 64 + b' % 64

    first : a ≡ 0xE0 + c / 4096
    first = omega arith

    second : c / 64 % 64 ≡ b % 64
    second = omega arith

    third : c % 64 ≡ b' % 64
    third = omega arith

    go : tail b && (tail b' && (leb 0x800 c && scalar c)) ≡ true → Decoded (a ∷ b ∷ b' ∷ s) (One c 3)
    go e =
        let t = and_true (tail b) (tail b' && (leb 0x800 c && scalar c)) e in
        let u = and_true (tail b') (leb 0x800 c && scalar c) t.1 in
        let v = and_true (leb 0x800 c) (scalar c) u.1 in
        decoded_is (a ∷ b ∷ b' ∷ s) c 3 _ v.1 (three_bytes c (leb-true 0x800 c v.0) (omega arith))
        (λ i. first i ∷ tail_of b (c / 64 % 64) t.0 second i ∷ tail_of b' (c % 64) u.0 third i ∷ []) refl (omega arith)

decoded_4 : (a : ℕ) (s : List ℕ) → (0xF0 ≤ a) × (a ≤ 0xF7) → Decoded (a ∷ s) (four a s)
decoded_4 a [] h = omega arith
decoded_4 a (b ∷ []) h = omega arith
decoded_4 a (b ∷ b' ∷ []) h = omega arith
decoded_4 a (b ∷ b' ∷ b'' ∷ s) h =
    by_test (Decoded (a ∷ b ∷ b' ∷ b'' ∷ s)) (tail b && (tail b' && (tail b'' && (leb 0x10000 c && scalar c)))) (One c 4) Bad go (λ e. omega arith)
  where
    c : ℕ
    c = a % 8 * 262144 + b % 64 * 4096 + b' % 64 * 64 + b'' % 64

    first : a ≡ 0xF0 + c / 262144
    first = omega arith

    second : c / 4096 % 64 ≡ b % 64
    second = omega arith

    third : c / 64 % 64 ≡ b' % 64
    third = omega arith

    fourth : c % 64 ≡ b'' % 64
    fourth = omega arith

    go : tail b && (tail b' && (tail b'' && (leb 0x10000 c && scalar c))) ≡ true → Decoded (a ∷ b ∷ b' ∷ b'' ∷ s) (One c 4)
    go e =
        let t = and_true (tail b) (tail b' && (tail b'' && (leb 0x10000 c && scalar c))) e in
        let u = and_true (tail b') (tail b'' && (leb 0x10000 c && scalar c)) t.1 in
        let v = and_true (tail b'') (leb 0x10000 c && scalar c) u.1 in
        let w = and_true (leb 0x10000 c) (scalar c) v.1 in
        decoded_is (a ∷ b ∷ b' ∷ b'' ∷ s) c 4 _ w.1 (four_bytes c (leb-true 0x10000 c w.0))
        (λ i. first i ∷ tail_of b (c / 4096 % 64) t.0 second i ∷ tail_of b' (c / 64 % 64) u.0 third i ∷ tail_of b'' (c % 64) v.0 fourth i ∷ []) refl (omega arith)

-- What stands in front of any bytes.
pub decoded_any : (s : List ℕ) → Decoded s (char_of s)
decoded_any [] = refl
decoded_any (a ∷ s) =
    by_test (Decoded (a ∷ s)) (leb a 0x7F) _ _
    (λ e. let h = leb-true a 0x7F e in decoded_is (a ∷ s) a 1 _ (low_scalar a (omega arith)) (one_byte a h) refl refl (omega arith))
    λ e.
    by_test (Decoded (a ∷ s)) (between 0xC0 0xDF a) (two a s) _ (λ f. decoded_2 a s (between_true 0xC0 0xDF a f)) λ f.
    by_test (Decoded (a ∷ s)) (between 0xE0 0xEF a) (three a s) _ (λ g. decoded_3 a s (between_true 0xE0 0xEF a g)) λ g.
    by_test (Decoded (a ∷ s)) (between 0xF0 0xF7 a) (four a s) Bad (λ k. decoded_4 a s (between_true 0xF0 0xF7 a k)) (λ k. omega arith)

-- One character: what is decoded is a scalar value, and the bytes it was decoded from are its bytes.
pub decoded_one : (s : List ℕ) (c w : ℕ) → char_of s ≡ One c w → Decoded s (One c w)
decoded_one s c w e = subst (Decoded s) e (decoded_any s)

-- The bytes behind the first k, where they are UTF-8.
decoded : (k : ℕ) (s : List ℕ) → text_from k s ≡ true → (drop k s ≡ bytes_of_all (chars_from k s)) × (every scalar (chars_from k s) ≡ true)
unfolding text_from chars_from
decoded zero [] t = (refl, refl)
decoded (suc k) [] t = (refl, refl)
decoded (suc k) (x ∷ xs) t = decoded k xs t
decoded zero (x ∷ xs) t = go (char_of (x ∷ xs)) (decoded_any (x ∷ xs)) t (λ k. decoded k xs)
  where
    Behind : ℕ → Type 0
    Behind k = text_from k xs ≡ true → (drop k xs ≡ bytes_of_all (chars_from k xs)) × (every scalar (chars_from k xs) ≡ true)

    go : (r : Char) → Decoded (x ∷ xs) r → is_one r && text_from (width_of r - 1) xs ≡ true → ((k : ℕ) → Behind k)
        → (x ∷ xs ≡ bytes_of (code_of r) ++ bytes_of_all (chars_from (width_of r - 1) xs)) × (scalar (code_of r) && every scalar (chars_from (width_of r - 1) xs) ≡ true)
    go Bad f u below = absurd (false≢true u)
    go End f u below = absurd (false≢true u)
    go (One c zero) f u below = absurd (omega (arith, f.2, bytes_count c))
    go (One c (suc w)) f u below =
        rw sub-one
        (let b = below w (rw sub-one at u) in (sym (take-append-drop (suc w) (x ∷ xs)) ∙ ap₂ ◌++◌ f.1 b.0, both_true f.0 b.1))

-- Every text is the bytes of its characters.
pub decoded_text : (s : List ℕ) → is_text s ≡ true → s ≡ bytes_of_all (chars_of s)
decoded_text s t = (decoded 0 s t).0

-- Every character of a text is a scalar value.
pub decoded_chars : (s : List ℕ) → is_text s ≡ true → every scalar (chars_of s) ≡ true
decoded_chars s t = (decoded 0 s t).1
