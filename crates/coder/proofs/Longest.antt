-- In a plate's order the first pattern that fits is the longest: rules of one first code point fall in byte length, and of two patterns that begin one
-- text the shorter in characters is the shorter in bytes. Assumes nothing.
use mathlib.Core.Path.{◌≡◌, refl, sym, ap, subst, ◌∙◌}
use mathlib.Core.Logic.{◌⊎◌, inl, inr}
use mathlib.Core.Bool.{Bool, true, false, cond, ◌&&◌, false≢true}
use mathlib.Core.Option.{Option, none, some}
use mathlib.Core.List.{List, [], ◌∷◌}
use Prim.Native.Nat.{ℕ, ◌<◌, ◌≤◌}
use native.Mathlib.Nat.{le_trans}
use native.Mathlib.Omega.{arith}
use borrow.Author.Tests.{ltb-true, eqb-true, le-ltb, ltb-false}
use lib.Dec.{ltb, eqb}
use lib.ListN.{length, length-append}
use Rattle.laws.specs.Lists.{In, every, keep, begins, between}
use Rattle.laws.proofs.Tests.{and_true, between_true}
use Rattle.laws.proofs.Members.{in_keep, in_every}
use Rattle.chars.specs.Utf8.{bytes_of, bytes_of_all, chars_of, char_of, code_of, is_text, chars_from}
use Rattle.chars.proofs.Exact.{decoded_text, bytes_count}
use Rattle.plate.specs.Plate.{Rule, good_rule, good_pattern, good_field, nonzero_byte, first_code, may_precede, ordered}
use Rattle.plate.proofs.Halves.{may_precede_lem, ordered_tail}
use Rattle.coder.specs.Walk.{letters, longer, longest, match}

-- ---- patterns that begin one text

-- Of two that begin one text, the one with fewer characters has fewer bytes.
pub shorter_bytes : (p q cs : List ℕ) → begins p cs ≡ true → begins q cs ≡ true → length p < length q → length (bytes_of_all p) < length (bytes_of_all q)
shorter_bytes [] [] cs b c h = absurd (omega arith)
shorter_bytes [] (y ∷ q) cs b c h = omega (arith, (bytes_count y).0, length-append (bytes_of y) (bytes_of_all q))
shorter_bytes (x ∷ p) [] cs b c h = absurd (omega arith)
shorter_bytes (x ∷ p) (y ∷ q) [] b c h = absurd (false≢true b)
shorter_bytes (x ∷ p) (y ∷ q) (z ∷ cs) b c h =
    let s = and_true (eqb x z) (begins p cs) b in
    let t = and_true (eqb y z) (begins q cs) c in
    let same : length (bytes_of x) ≡ length (bytes_of y) = ap (λ (n : ℕ). length (bytes_of n)) (eqb-true x z s.0 ∙ sym (eqb-true y z t.0)) in
    omega (arith, same, shorter_bytes p q cs s.1 t.1 (omega arith), length-append (bytes_of x) (bytes_of_all p), length-append (bytes_of y) (bytes_of_all q))

-- ---- good rules

-- A good pattern is UTF-8 and has a byte.
pub good_pattern_lem : (r : Rule) → good_rule r ≡ true → (is_text r.pattern ≡ true) × (1 ≤ length r.pattern)
good_pattern_lem r h =
    let g = (and_true (good_pattern r.pattern) (good_field r.start && (good_field r.vowel && good_field r.other)) h).0 in
    let b = and_true (between 1 16 (length r.pattern)) (every nonzero_byte r.pattern && is_text r.pattern) g in
    ((and_true (every nonzero_byte r.pattern) (is_text r.pattern) b.1).1, (between_true 1 16 (length r.pattern) b.0).0)

-- A pattern is the bytes of its letters.
pub pattern_is : (r : Rule) → good_rule r ≡ true → r.pattern ≡ bytes_of_all (letters r)
pattern_is r h = decoded_text r.pattern (good_pattern_lem r h).0

-- The first code point is the first letter, and there is one.
first_letter : (s : List ℕ) → 1 ≤ length s → (more : List ℕ) × (chars_of s ≡ code_of (char_of s) ∷ more)
unfolding chars_from
first_letter [] h = absurd (omega arith)
first_letter (x ∷ xs) h = (_, refl)

pub first_is : (r : Rule) → good_rule r ≡ true → (more : List ℕ) × (letters r ≡ first_code r ∷ more)
first_is r h = first_letter r.pattern (good_pattern_lem r h).1

-- Whoever fits at a character begins with it.
begins_first : (l : List ℕ) (f c : ℕ) (more cs : List ℕ) → l ≡ f ∷ more → begins l (c ∷ cs) ≡ true → f ≡ c
begins_first l f c more cs e b = eqb-true f c (and_true (eqb f c) (begins more cs) (subst (λ (x : List ℕ). begins x (c ∷ cs) ≡ true) e b)).0

pub fits_code : (r : Rule) (c : ℕ) (cs : List ℕ) → good_rule r ≡ true → begins (letters r) (c ∷ cs) ≡ true → first_code r ≡ c
fits_code r c cs g b = let f = first_is r g in begins_first (letters r) (first_code r) c f.0 cs f.1 b

-- ---- the order

-- Behind a rule first code points never fall and, within its own, byte lengths never grow.
abbrev Behind : Rule → Rule → Type 0
Behind r q = (first_code r ≤ first_code q) × (first_code q ≡ first_code r → length q.pattern ≤ length r.pattern)

behind : (r : Rule) (more : List Rule) → ordered (r ∷ more) ≡ true → (q : Rule) → In q more → Behind r q
behind r [] h q i = absurd i
behind r (x ∷ more) h q i =
    let b = and_true (may_precede r x) (ordered (x ∷ more)) h in
    go i (may_precede_lem r x b.0) (λ m. behind x more b.1 q m)
  where
    go : (q ≡ x) ⊎ In q more → (first_code r ≤ first_code x) × (first_code x ≡ first_code r → length x.pattern ≤ length r.pattern)
        → (In q more → (first_code x ≤ first_code q) × (first_code q ≡ first_code x → length q.pattern ≤ length x.pattern))
        → (first_code r ≤ first_code q) × (first_code q ≡ first_code r → length q.pattern ≤ length r.pattern)
    go (inl e) m f =
        subst (λ (y : Rule). (first_code r ≤ first_code y) × (first_code y ≡ first_code r → length y.pattern ≤ length r.pattern)) (sym e) m
    go (inr k) m f =
        let n = f k in (
          le_trans m.0 n.0,
          λ e.
              let low = m.0 in
              let high = n.0 in
              let same : first_code x ≡ first_code r = omega arith in
              le_trans (n.1 (e ∙ sym same)) (m.1 same),
        )

-- ---- the first that fits is the longest

-- What `longest` answers stands in the list.
abbrev Found : List Rule → Option Rule → Type 0
Found l none = Unit {0}
Found l (some q) = In q l

longest_in : (l : List Rule) → Found l (longest l)
longest_in [] = tt
longest_in (r ∷ more) = go (longest more) (longest_in more)
  where
    pick : (q : Rule) (b : Bool) → In q more → Found (r ∷ more) (cond b (some q) (some r))
    pick q true i = inr i
    pick q false i = inl refl

    go : (o : Option Rule) → Found more o → Found (r ∷ more) (longer r o)
    go none i = inl refl
    go (some q) i = pick q (ltb (length (letters r)) (length (letters q))) i

-- The first is the longest where none behind it is longer.
first_longest : (r : Rule) (more : List Rule) → ((q : Rule) → In q more → length (letters q) ≤ length (letters r)) → longest (r ∷ more) ≡ some r
first_longest r more h = go (longest more) (longest_in more)
  where
    go : (o : Option Rule) → Found more o → longer r o ≡ some r
    go none i = refl
    go (some q) i = ap (λ (t : Bool). cond t (some q) (some r)) (le-ltb (length (letters r)) (length (letters q)) (h q i))

-- The first of a list, if there is one.
abbrev pub first : List Rule → Option Rule
first [] = none
first (r ∷ more) = some r

-- A rule fits here.
abbrev pub fits : List ℕ → Rule → Bool
fits cs r = begins (letters r) cs

-- In a plate's order, the first that fits at a character is the match.
pub first_match : (rs : List Rule) (c : ℕ) (cs : List ℕ) → every good_rule rs ≡ true → ordered rs ≡ true → match rs (c ∷ cs) ≡ first (keep (fits (c ∷ cs)) rs)
first_match [] c cs g o = refl
first_match (r ∷ more) c cs g o =
    let b = and_true (good_rule r) (every good_rule more) g in
    go (fits (c ∷ cs) r) refl (first_match more c cs b.1 (ordered_tail r more o))
  where
    none_longer : good_rule r ≡ true → every good_rule more ≡ true → fits (c ∷ cs) r ≡ true → (q : Rule) → In q (keep (fits (c ∷ cs)) more) → length (letters q) ≤ length (letters r)
    none_longer gr gm fr q i =
        let k = in_keep (fits (c ∷ cs)) more q i in
        let gq = in_every good_rule more q gm k.0 in
        let same = fits_code q c cs gq k.1 ∙ sym (fits_code r c cs gr fr) in
        let fall = (behind r more o q k.0).1 same in
        case (ltb (length (letters r)) (length (letters q))) refl (shorter_bytes (letters r) (letters q) (c ∷ cs) fr k.1)
        (subst (λ (n : ℕ). n ≤ length (bytes_of_all (letters r))) (ap length (pattern_is q gq)) (subst (λ (n : ℕ). length q.pattern ≤ n) (ap length (pattern_is r gr)) fall))
      where
        case : {m n : ℕ} (t : Bool) → ltb m n ≡ t → (m < n → length (bytes_of_all (letters r)) < length (bytes_of_all (letters q))) → length (bytes_of_all
            (letters q)) ≤ length (bytes_of_all (letters r)) → n ≤ m
        case {m} {n} true e f k = absurd (omega (arith, f (ltb-true m n e), k))
        case {m} {n} false e f k = ltb-false m n e

    go : (t : Bool) → fits (c ∷ cs) r ≡ t → match more (c ∷ cs) ≡ first (keep (fits (c ∷ cs)) more)
        → longest (cond t (r ∷ keep (fits (c ∷ cs)) more) (keep (fits (c ∷ cs)) more)) ≡ first (cond t (r ∷ keep (fits (c ∷ cs)) more) (keep (fits (c ∷ cs)) more))
    go true e below =
        let b = and_true (good_rule r) (every good_rule more) g in
        first_longest r (keep (fits (c ∷ cs)) more) (none_longer b.0 b.1 e)
    go false e below = below
