-- Where the first fault of some bytes stands: the first sequence that is not UTF-8, and the first character that fails a test. One character at a time, for
-- who reads them; and what stands at the place and before it, which no other place has. Assumes nothing.
use mathlib.Core.Path.{◌≡◌, refl, sym, ap, ap₂, ◌∙◌}
use mathlib.Core.Bool.{Bool, true, false, cond, ◌&&◌, false≢true}
use mathlib.Core.List.{List, [], ◌∷◌, ◌++◌, append_assoc}
use Prim.Native.Nat.{ℕ, zero, suc, ◌+◌, ◌-◌, ◌≤◌}
use native.Mathlib.Nat.{add-zero, zero-add, add_assoc}
use native.Mathlib.Omega.{arith}
use native.Mathlib.Numerals.{sub-one}
use lib.ListN.{length, take, drop, take-append-drop, length-append}
use lib.Seq.{take-append_seam, drop-append_seam, length-take-le}
use Rattle.laws.specs.Lists.{every}
use Rattle.laws.proofs.Tests.{and_true, both_true, by_test}
use Rattle.laws.proofs.Parts.{by_lt}
use Rattle.laws.proofs.Many.{every_append}
use Rattle.laws.proofs.Lists.{cat_append}
use Rattle.chars.specs.Utf8.{scalar, bytes_of, bytes_of_all, char_of, is_one, width_of, text_from, is_text, chars_of, sound_from, bad_place, leading, fail_place}
use Rattle.chars.specs.declared.Char.{Char}
use Rattle.chars.specs.declared.Char.TheVariants.{One, Bad, End}
use Rattle.chars.proofs.Texts.{kind, chars_front}
use Rattle.chars.proofs.Exact.{Decoded, bytes_count, encoded_one, encoded_text, encoded_chars, decoded_any, decoded_one, decoded_text, decoded_chars}
use Rattle.chars.proofs.Places as places
use Rattle.chars.proofs.Checks.{sound_front}

-- ---- the character in front

-- A bad sequence in front is the first one.
pub bad_here : (s : List ℕ) → char_of s ≡ Bad → bad_place s ≡ 0
unfolding sound_from
bad_here [] e = absurd (omega (arith, ap kind e))
bad_here (x ∷ xs) e = rw e refl

-- The place lies within the bytes, or behind the last.
pub sound_within : (k : ℕ) (s : List ℕ) → sound_from k s ≤ length s
unfolding sound_from
sound_within k [] = omega arith
sound_within (suc k) (x ∷ xs) = let h = sound_within k xs in omega arith
sound_within zero (x ∷ xs) = by_test (λ (n : ℕ). n ≤ suc (length xs)) (is_one (char_of (x ∷ xs))) _ _ (λ e. let h = sound_within (width_of (char_of (x ∷ xs)) - 1) xs in omega arith) (λ e. omega arith)

module _ (t : ℕ → Bool) (s : List ℕ) (c w : ℕ) (e : char_of s ≡ One c w) (h : 1 ≤ w) where
  abbrev told : Bool → ℕ
  told b = length (bytes_of_all (cond b (c ∷ leading t (chars_of (drop w s))) []))

  by_front : fail_place t s ≡ told (t c)
  by_front = ap (λ (l : List ℕ). length (bytes_of_all (leading t l))) (chars_front s c w e h)

  -- A character in front that passes is passed by.
  pub fail_behind : t c ≡ true → fail_place t s ≡ w + fail_place t (drop w s)
  fail_behind p =
      by_front ∙ ap told p ∙ length-append (bytes_of c) (bytes_of_all (leading t (chars_of (drop w s))))
      ∙ ap (λ (n : ℕ). n + fail_place t (drop w s)) (sym (decoded_one s c w e).2)

  -- One that fails is the first.
  pub fail_here : t c ≡ false → fail_place t s ≡ 0
  fail_here p = by_front ∙ ap told p

-- ---- characters in front of any bytes

module _ (c : ℕ) (cs s : List ℕ) where
  apart : bytes_of_all (c ∷ cs) ++ s ≡ bytes_of c ++ (bytes_of_all cs ++ s)
  apart = append_assoc (bytes_of c) (bytes_of_all cs) s

  behind : drop (length (bytes_of c)) (bytes_of_all (c ∷ cs) ++ s) ≡ bytes_of_all cs ++ s
  behind = ap (drop (length (bytes_of c))) apart ∙ drop-append_seam (bytes_of c) (bytes_of_all cs ++ s)

  first : scalar c ≡ true → char_of (bytes_of_all (c ∷ cs) ++ s) ≡ One c (length (bytes_of c))
  first h = ap char_of apart ∙ encoded_one c h (bytes_of_all cs ++ s)

chars_then : (cs s : List ℕ) → every scalar cs ≡ true → chars_of (bytes_of_all cs ++ s) ≡ cs ++ chars_of s
chars_then [] s h = refl
chars_then (c ∷ cs) s h =
    let t = and_true (scalar c) (every scalar cs) h in
    chars_front (bytes_of_all (c ∷ cs) ++ s) c (length (bytes_of c)) (first c cs s t.0) (bytes_count c).0
    ∙ ap (λ (l : List ℕ). c ∷ l) (ap chars_of (behind c cs s) ∙ chars_then cs s t.1)

pub bad_then : (cs s : List ℕ) → every scalar cs ≡ true → bad_place (bytes_of_all cs ++ s) ≡ length (bytes_of_all cs) + bad_place s
bad_then [] s h = sym (zero-add (bad_place s))
bad_then (c ∷ cs) s h =
    let t = and_true (scalar c) (every scalar cs) h in
    let f = first c cs s t.0 in
    let n = length (bytes_of c) in
    sound_front (bytes_of_all (c ∷ cs) ++ s) c n f (bytes_count c).0 (decoded_one (bytes_of_all (c ∷ cs) ++ s) c n f).3
    ∙ ap (λ (m : ℕ). n + m) (ap bad_place (behind c cs s) ∙ bad_then cs s t.1)
    ∙ sym (add_assoc n (length (bytes_of_all cs)) (bad_place s))
    ∙ ap (λ (m : ℕ). m + bad_place s) (sym (length-append (bytes_of c) (bytes_of_all cs)))

-- ---- what stands at the place, and before it

-- Characters, and behind them bytes that begin with a bad sequence.
pub record Broken (s : List ℕ) : Type 0 where
  pub front : List ℕ
  pub rest : List ℕ
  pub joined : s ≡ bytes_of_all front ++ rest
  pub scalars : every scalar front ≡ true
  pub bad : char_of rest ≡ Bad

broken : (k : ℕ) (s : List ℕ) → text_from k s ≡ false → Broken (drop k s)
unfolding text_from
broken zero [] t = absurd (false≢true (sym t))
broken (suc k) [] t = absurd (false≢true (sym t))
broken (suc k) (x ∷ xs) t = broken k xs t
broken zero (x ∷ xs) t = go (char_of (x ∷ xs)) refl (decoded_any (x ∷ xs)) t (λ k. broken k xs)
  where
    go : (r : Char) → char_of (x ∷ xs) ≡ r → Decoded (x ∷ xs) r → is_one r && text_from (width_of r - 1) xs ≡ false → ((k : ℕ) → text_from k xs ≡ false → Broken (drop k xs))
        → Broken (x ∷ xs)
    go Bad e f u below = record { front = []; rest = x ∷ xs; joined = refl; scalars = refl; bad = e }
    go End e f u below = absurd (omega (arith, f))
    go (One c zero) e f u below = absurd (omega (arith, f.2, bytes_count c))
    go (One c (suc w)) e f u below =
        let b = below w (rw sub-one at u) in
        record {
          front = c ∷ b.front;
          rest = b.rest;
          joined = sym (take-append-drop (suc w) (x ∷ xs)) ∙ ap₂ ◌++◌ f.1 b.joined ∙ sym (append_assoc (bytes_of c) (bytes_of_all b.front) b.rest);
          scalars = both_true f.0 b.scalars;
          bad = b.bad;
        }

-- Where some bytes are not UTF-8, those before the place are, and no character stands at it.
pub bad_stands : (s : List ℕ) → is_text s ≡ false → (is_text (take (bad_place s) s) ≡ true) × (char_of (drop (bad_place s) s) ≡ Bad)
bad_stands s t = (
  ap is_text (ap₂ take at b.joined ∙ take-append_seam front b.rest) ∙ encoded_text b.front b.scalars,
  ap char_of (ap₂ drop at b.joined ∙ drop-append_seam front b.rest) ∙ b.bad,
)
  where
    b : Broken s
    b = broken 0 s t

    front : List ℕ
    front = bytes_of_all b.front

    at : bad_place s ≡ length front
    at =
        ap bad_place b.joined ∙ bad_then b.front b.rest b.scalars ∙ ap (λ (n : ℕ). length front + n) (bad_here b.rest b.bad)
        ∙ add-zero (length front)

-- Some fail a test: those in front pass, and the next one fails.
record Failing (t : ℕ → Bool) (cs : List ℕ) : Type 0 where
  first : ℕ
  rest : List ℕ
  split : cs ≡ leading t cs ++ (first ∷ rest)
  pass : every t (leading t cs) ≡ true
  fails : t first ≡ false

failing : (t : ℕ → Bool) (cs : List ℕ) → every t cs ≡ false → Failing t cs
failing t [] e = absurd (false≢true (sym e))
failing t (c ∷ cs) e = go (t c) refl (λ h. failing t cs h)
  where
    go : (b : Bool) → t c ≡ b → (every t cs ≡ false → Failing t cs) → Failing t (c ∷ cs)
    go false f below = record { first = c; rest = cs; split = rw f refl; pass = rw f refl; fails = f }
    go true f below =
        let r = below (ap (λ (b : Bool). b && every t cs) (sym f) ∙ e) in
        record {
          first = r.first;
          rest = r.rest;
          split = ap (λ (l : List ℕ). c ∷ l) r.split ∙ ap (λ (b : Bool). cond b (c ∷ leading t cs) [] ++ (r.first ∷ r.rest)) (sym f);
          pass = ap (λ (b : Bool). every t (cond b (c ∷ leading t cs) [])) f ∙ both_true f r.pass;
          fails = r.fails;
        }

-- Where some bytes hold a character that fails a test, those before the place hold none, and one stands at it.
pub record FailsAt (t : ℕ → Bool) (s : List ℕ) (p : ℕ) : Type 0 where
  pub c : ℕ
  pub w : ℕ
  pub text : is_text (take p s) ≡ true
  pub pass : every t (chars_of (take p s)) ≡ true
  pub stands : char_of (drop p s) ≡ One c w
  pub fails : t c ≡ false

pub fail_stands : (t : ℕ → Bool) (s : List ℕ) → is_text s ≡ true → every t (chars_of s) ≡ false → FailsAt t s (fail_place t s)
fail_stands t s text fails = record {
  c = f.first;
  w = length (bytes_of f.first);
  text = ap is_text before ∙ encoded_text front both.0;
  pass = ap (λ (l : List ℕ). every t (chars_of l)) before ∙ ap (every t) (encoded_chars front both.0) ∙ f.pass;
  stands = ap char_of from ∙ encoded_one f.first (and_true (scalar f.first) (every scalar f.rest) both.1).0 (bytes_of_all f.rest);
  fails = f.fails;
}
  where
    f : Failing t (chars_of s)
    f = failing t (chars_of s) fails

    front : List ℕ
    front = leading t (chars_of s)

    behind : List ℕ
    behind = f.first ∷ f.rest

    both : (every scalar front ≡ true) × (every scalar behind ≡ true)
    both = and_true (every scalar front) (every scalar behind) (sym (every_append scalar front behind) ∙ ap (every scalar) (sym f.split) ∙ decoded_chars s text)

    whole : s ≡ bytes_of_all front ++ bytes_of_all behind
    whole = decoded_text s text ∙ ap bytes_of_all f.split ∙ cat_append bytes_of front behind

    before : take (length (bytes_of_all front)) s ≡ bytes_of_all front
    before = ap (take (length (bytes_of_all front))) whole ∙ take-append_seam (bytes_of_all front) (bytes_of_all behind)

    from : drop (length (bytes_of_all front)) s ≡ bytes_of_all behind
    from = ap (drop (length (bytes_of_all front))) whole ∙ drop-append_seam (bytes_of_all front) (bytes_of_all behind)

-- In front of one that fails stand those that pass.
leading_only : (t : ℕ → Bool) (front : List ℕ) (c : ℕ) (rest : List ℕ) → every t front ≡ true → t c ≡ false → leading t (front ++ (c ∷ rest)) ≡ front
leading_only t [] c rest h f = rw f refl
leading_only t (d ∷ front) c rest h f =
    let b = and_true (t d) (every t front) h in
    rw b.0 (ap (λ (l : List ℕ). d ∷ l) (leading_only t front c rest b.1 f))

-- No other place is so.
module _ (s : List ℕ) (p : ℕ) (text : is_text (take p s) ≡ true) where
  abbrev front : List ℕ
  front = chars_of (take p s)

  joined : s ≡ bytes_of_all front ++ drop p s
  joined = sym (take-append-drop p s) ∙ ap (λ (l : List ℕ). l ++ drop p s) (decoded_text (take p s) text)

  -- Where something stands at the place, so many bytes stand before it.
  long : (char_of (drop p s) ≡ End → ⊥) → length (bytes_of_all front) ≡ p
  long some =
      ap length (sym (decoded_text (take p s) text))
      ∙ length-take-le p s (by_lt p (length s) (λ lt. omega arith) (λ le. absurd (some (sym (places.behind s p le)))))

  pub bad_only : char_of (drop p s) ≡ Bad → p ≡ bad_place s
  bad_only e = sym (
      ap bad_place joined ∙ bad_then front (drop p s) (decoded_chars (take p s) text)
      ∙ ap₂ ◌+◌ (long (λ z. omega (arith, ap kind (sym e ∙ z)))) (bad_here (drop p s) e) ∙ add-zero p)

  pub fail_only : (t : ℕ → Bool) (c w : ℕ) → every t (chars_of (take p s)) ≡ true → char_of (drop p s) ≡ One c w → t c ≡ false → p ≡ fail_place t s
  fail_only t c w pass e fails =
      let f = decoded_one (drop p s) c w e in
      let wide : 1 ≤ w = omega (arith, f.2, bytes_count c) in
      sym (
      ap (λ (l : List ℕ). length (bytes_of_all (leading t l)))
      (ap chars_of joined ∙ chars_then front (drop p s) (decoded_chars (take p s) text) ∙ ap (λ (l : List ℕ). front ++ l) (chars_front (drop p s) c w e wide))
      ∙ ap (λ (l : List ℕ). length (bytes_of_all l)) (leading_only t front c (chars_of (drop w (drop p s))) pass fails)
      ∙ long (λ z. omega (arith, ap kind (sym e ∙ z))))
