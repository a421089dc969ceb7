-- The characters ahead as the bytes of a word: how they are put there, and that a pattern whose bytes stand in front of it begins them, and no other of as
-- many bytes. Assumes nothing.
use Prim.Native.Nat.{ℕ, zero, suc, ◌+◌, ◌-◌, ◌*◌, ◌/◌, ◌^◌, ◌<◌, ◌≤◌}
use mathlib.Core.Path.{◌≡◌, refl, sym, ap, ap₂, subst, ◌∙◌}
use mathlib.Core.Bool.{Bool, true, false, cond, ◌&&◌, false≢true}
use mathlib.Core.List.{List, [], ◌∷◌, ◌++◌}
use native.Mathlib.Nat.{add-zero, add-suc, div-one}
use native.Mathlib.Omega.{arith}
use borrow.Author.Tests.{eq-eqb, le-leb, eqb-true, ltb-false}
use lib.Dec.{eqb, ltb}
use lib.Pow.{pow-add, shl-shr, shr-shr}
use lib.ListN.{length, drop, get_or, length-append}
use Rattle.laws.specs.Lists.{every, between, begins}
use Rattle.laws.proofs.Tests.{and_true, both_true, between_true}
use Rattle.chars.specs.Utf8.{bytes_of, bytes_of_all, is_text, chars_from, chars_of}
use Rattle.chars.proofs.Exact.{bytes_count, decoded_text}
use Rattle.plate.specs.Plate.{nonzero_byte, good_pattern, good_field, most_bytes}
use Rattle.plate.specs.Read.{pattern_at, rule_at}
use Rattle.plate.specs.Stands.{Here, packed, beginning}
use Rattle.plate.specs.declared.Beginning.{Beginning}
use Rattle.plate.specs.declared.Beginning.TheVariants.{Is, Not, Unsaid}
use Rattle.coder.specs.Walk.{letters}
use Rattle.coder.specs.Held.{ahead, Plain, AheadIs}
use Rattle.coder.specs.declared.walk.Ahead.{Ahead}

-- ---- one more

-- One more of them stands behind the others.
ahead_more : (i : ℕ) (cs : List ℕ) → ahead (suc i) cs ≡ ahead i cs ++ (get_or cs i 0 ∷ [])
unfolding ahead
ahead_more zero [] = refl
ahead_more zero (c ∷ cs) = refl
ahead_more (suc i) [] = ap (λ (l : List ℕ). 0 ∷ l) (ahead_more i [])
ahead_more (suc i) (c ∷ cs) = ap (λ (l : List ℕ). c ∷ l) (ahead_more i cs)

packed_more : (v : ℕ) (xs : List ℕ) (x : ℕ) → packed v (xs ++ (x ∷ [])) ≡ packed v xs * 256 + x
unfolding packed
packed_more v [] x = refl
packed_more v (y ∷ xs) x = packed_more (v * 256 + y) xs x

pub bytes_more : (i : ℕ) (cs : List ℕ) → packed 0 (ahead (suc i) cs) ≡ packed 0 (ahead i cs) * 256 + get_or cs i 0
bytes_more i cs = ap (packed 0) (ahead_more i cs) ∙ packed_more 0 (ahead i cs) (get_or cs i 0)

pub plain_none : (cs : List ℕ) → Plain 0 cs
unfolding Plain
plain_none cs = tt

pub plain_more : (i : ℕ) (cs : List ℕ) → Plain i cs → get_or cs i 0 < 128 → Plain (suc i) cs
unfolding Plain
plain_more zero [] p h = tt
plain_more zero (c ∷ cs) p h = (h, tt)
plain_more (suc i) [] p h = tt
plain_more (suc i) (c ∷ cs) p h = (p.0, plain_more i cs p.1 h)

plain_last : (i : ℕ) (cs : List ℕ) → Plain (suc i) cs → get_or cs i 0 < 128
unfolding Plain
plain_last zero [] p = omega arith
plain_last zero (c ∷ cs) p = p.0
plain_last (suc i) [] p = omega arith
plain_last (suc i) (c ∷ cs) p = plain_last i cs p.1

plain_fewer : (n k : ℕ) (cs : List ℕ) → Plain (n + k) cs → Plain n cs
unfolding Plain
plain_fewer n zero cs p = subst (λ (m : ℕ). Plain m cs) (add-zero n) p
plain_fewer n (suc k) cs p = plain_fewer n k cs (plain_before (n + k) cs (subst (λ (m : ℕ). Plain m cs) (add-suc n k) p))
  where
    plain_before : (i : ℕ) (ds : List ℕ) → Plain (suc i) ds → Plain i ds
    plain_before zero ds q = tt
    plain_before (suc i) [] q = tt
    plain_before (suc i) (d ∷ ds) q = (q.0, plain_before i ds q.1)

-- ---- how large, and the first of them

pub bytes_lt : (i : ℕ) (cs : List ℕ) → Plain i cs → packed 0 (ahead i cs) < 2 ^ (8 * i)
unfolding packed ahead
bytes_lt zero cs p = omega arith
bytes_lt (suc i) cs p =
    let v = packed 0 (ahead i cs) in
    let less : v < 2 ^ (8 * i) = bytes_lt i cs (plain_fewer i 1 cs (subst (λ (m : ℕ). Plain m cs) {x = suc i} {y = i + 1} (omega arith) p)) in
    let last = plain_last i cs p in
    let wide : 2 ^ (8 * suc i) ≡ 2 ^ (8 * i) * 256 = ap (λ (k : ℕ). 2 ^ k) {x = 8 * suc i} {y = 8 * i + 8} (omega arith) ∙ pow-add 2 (8 * i) 8 in
    omega (arith, bytes_more i cs, less, last, wide)

-- The last k of them shifted out.
bytes_front : (n k : ℕ) (cs : List ℕ) → Plain (n + k) cs → packed 0 (ahead (n + k) cs) / 2 ^ (8 * k) ≡ packed 0 (ahead n cs)
bytes_front n zero cs p = ap (λ (m : ℕ). packed 0 (ahead m cs) / 1) (add-zero n) ∙ div-one (packed 0 (ahead n cs))
bytes_front n (suc k) cs p =
    let q : Plain (suc (n + k)) cs = subst (λ (m : ℕ). Plain m cs) (add-suc n k) p in
    let v = packed 0 (ahead (n + k) cs) in
    let last = plain_last (n + k) cs q in
    let one : (v * 256 + get_or cs (n + k) 0) / 2 ^ 8 ≡ v = omega arith in
    ap (λ (m : ℕ). packed 0 (ahead m cs) / 2 ^ (8 * suc k)) (add-suc n k)
    ∙ ap (λ (x : ℕ). x / 2 ^ (8 * suc k)) (bytes_more (n + k) cs)
    ∙ ap (λ (j : ℕ). (v * 256 + get_or cs (n + k) 0) / 2 ^ j) {x = 8 * suc k} {y = 8 + 8 * k} (omega arith)
    ∙ sym (shr-shr (v * 256 + get_or cs (n + k) 0) 8 (8 * k))
    ∙ ap (λ (x : ℕ). x / 2 ^ (8 * k)) one
    ∙ bytes_front n k cs (plain_fewer (n + k) 1 cs (subst (λ (m : ℕ). Plain m cs) {x = suc (n + k)} {y = n + k + 1} (omega arith) q))

-- So many bytes shifted to the front of a word are the characters ahead.
pub in_front : (cs : List ℕ) (plain v : ℕ) → plain ≤ 6 → Plain plain cs → v ≡ packed 0 (ahead plain cs) → (r : Ahead)
    → r ≡ record { word = v * 2 ^ (64 - 8 * plain); plain = plain } → AheadIs cs r
in_front cs plain v few p e r f =
    rw f (record {
      few = few;
      ascii = p;
      is = λ n h.
          let k : ℕ = plain - n in
          let all : plain ≡ n + k = omega arith in
          let off : 64 - 8 * n ≡ 64 - 8 * plain + 8 * k = omega arith in
          ap (λ (j : ℕ). v * 2 ^ (64 - 8 * plain) / 2 ^ j) off
          ∙ sym (shr-shr (v * 2 ^ (64 - 8 * plain)) (64 - 8 * plain) (8 * k))
          ∙ ap (λ (x : ℕ). x / 2 ^ (8 * k)) (shl-shr v (64 - 8 * plain) ∙ e ∙ ap (λ (m : ℕ). packed 0 (ahead m cs)) all)
          ∙ bytes_front n k cs (subst (λ (m : ℕ). Plain m cs) all p);
    })

-- ---- a pattern beside them

-- Bytes.
Small : List ℕ → Type 0
Small [] = Unit {0}
Small (x ∷ xs) = (x < 256) × Small xs

small_bytes : (p : List ℕ) → every nonzero_byte p ≡ true → Small p
unfolding Small
small_bytes [] z = tt
small_bytes (b ∷ more) z =
    let a = and_true (nonzero_byte b) (every nonzero_byte more) z in
    let s = (between_true 1 255 b a.0).1 in (omega arith, small_bytes more a.1)

small_ahead : (n : ℕ) (cs : List ℕ) → Plain n cs → Small (ahead n cs)
unfolding Small ahead Plain
small_ahead zero cs p = tt
small_ahead (suc n) [] p = (omega arith, small_ahead n [] (none n))
  where
    none : (i : ℕ) → Plain i []
    none zero = tt
    none (suc i) = tt
small_ahead (suc n) (c ∷ cs) p = let h = p.0 in (omega arith, small_ahead n cs p.1)

length_ahead : (n : ℕ) (cs : List ℕ) → length (ahead n cs) ≡ n
unfolding ahead
length_ahead zero cs = refl
length_ahead (suc n) [] = ap suc (length_ahead n [])
length_ahead (suc n) (c ∷ cs) = ap suc (length_ahead n cs)

-- Two lists of as many bytes that are one number are one list.
one_list : (xs ys : List ℕ) (u v : ℕ) → length xs ≡ length ys → Small xs → Small ys → packed u xs ≡ packed v ys → (u ≡ v) × (xs ≡ ys)
unfolding Small packed
one_list [] [] u v l a b e = (e, refl)
one_list [] (y ∷ ys) u v l a b e = absurd (omega arith)
one_list (x ∷ xs) [] u v l a b e = absurd (omega arith)
one_list (x ∷ xs) (y ∷ ys) u v l a b e =
    let r = one_list xs ys (u * 256 + x) (v * 256 + y) (omega arith) a.1 b.1 e in
    let same = r.0 in
    let x-small = a.0 in
    let y-small = b.0 in
    let front : x ≡ y = omega arith in
    (omega arith, ap₂ (λ (z : ℕ) (zs : List ℕ). z ∷ zs) front r.1)

-- An ASCII byte in front is a character.
ascii_front : (p : ℕ) (l : List ℕ) → p ≤ 0x7F → chars_of (p ∷ l) ≡ p ∷ chars_of l
unfolding chars_from
ascii_front p l h = rw (le-leb p 0x7F h)

-- A pattern that they are, begins them, and has as many characters as bytes.
ahead_begins : (p cs : List ℕ) → every nonzero_byte p ≡ true → Plain (length p) cs → ahead (length p) cs ≡ p
    → (begins (chars_of p) cs ≡ true) × (length (chars_of p) ≡ length p)
unfolding ahead Plain chars_from
ahead_begins [] cs z s e = (refl, refl)
ahead_begins (b ∷ more) [] z s e =
    let front : 0 ≡ b = ap (λ (l : List ℕ). get_or l 0 0) e in
    let some = (between_true 1 255 b (and_true (nonzero_byte b) (every nonzero_byte more) z).0).0 in absurd (omega arith)
ahead_begins (b ∷ more) (c ∷ cs) z s e =
    let front : c ≡ b = ap (λ (l : List ℕ). get_or l 0 0) e in
    let small = s.0 in
    let chars = ascii_front b more (omega arith) in
    let r = ahead_begins more cs (and_true (nonzero_byte b) (every nonzero_byte more) z).1 s.1 (ap (drop 1) e) in (
      ap (λ (l : List ℕ). begins l (c ∷ cs)) chars ∙ both_true (eq-eqb b c (sym front)) r.0,
      ap length chars ∙ ap suc r.1,
    )

-- A text that begins them, is what they are.
begins_ahead : (qs cs : List ℕ) → begins qs cs ≡ true → Plain (length (bytes_of_all qs)) cs → ahead (length (bytes_of_all qs)) cs ≡ bytes_of_all qs
unfolding ahead Plain
begins_ahead [] cs b s = refl
begins_ahead (q ∷ qs) [] b s = absurd (false≢true b)
begins_ahead (q ∷ qs) (c ∷ cs) b s =
    let t = and_true (eqb q c) (begins qs cs) b in
    let same : q ≡ c = eqb-true q c t.0 in
    let count = (bytes_count q).0 in
    let long = length-append (bytes_of q) (bytes_of_all qs) in
    let small : c < 128 = first (length (bytes_of_all (q ∷ qs))) (omega arith) s in
    let one : bytes_of q ≡ q ∷ [] = rw (le-leb q 0x7F (omega arith)) in
    let whole : bytes_of_all (q ∷ qs) ≡ q ∷ bytes_of_all qs = ap (λ (l : List ℕ). l ++ bytes_of_all qs) one in
    let left = (subst (λ (l : List ℕ). Plain (length l) (c ∷ cs)) whole s).1 in
    subst (λ (l : List ℕ). ahead (length l) (c ∷ cs) ≡ l) (sym whole) (ap₂ (λ (z : ℕ) (zs : List ℕ). z ∷ zs) (sym same) (begins_ahead qs cs t.1 left))
  where
    first : (n : ℕ) → 1 ≤ n → Plain n (c ∷ cs) → c < 128
    first zero h p = absurd (omega arith)
    first (suc n) h p = p.0

-- What is said of the pattern of a rule beside the characters ahead.
module _ (s : List ℕ) (at : ℕ) (here : Here s at) (cs : List ℕ) (a : Ahead) (is : AheadIs cs a) (r : Beginning)
    (e : r ≡ beginning (pattern_at s at) a.word a.plain) where
  abbrev p : List ℕ
  p = pattern_at s at

  text : (every nonzero_byte p ≡ true) × (is_text p ≡ true)
  text =
      let good = (and_true (good_pattern p) (good_field (rule_at s at).start && (good_field (rule_at s at).vowel && good_field (rule_at s at).other)) here.good).0 in
      and_true (every nonzero_byte p) (is_text p) (and_true (between 1 most_bytes (length p)) (every nonzero_byte p && is_text p) good).1

  -- What it says is not that there are too few: there are enough, and the test decides.
  Says : Beginning → Type 0
  Says (Is n) = (n ≡ length p) × (length p ≤ a.plain) × (packed 0 p ≡ a.word / 2 ^ (64 - 8 * length p))
  Says Not = (length p ≤ a.plain) × (packed 0 p ≡ a.word / 2 ^ (64 - 8 * length p) → ⊥)
  Says Unsaid = Unit {0}

  said : Says r
  unfolding Says
  said = subst Says (sym e) (go (ltb a.plain (length p)) refl)
    where
      same : ℕ
      same = a.word / 2 ^ (64 - 8 * length p)

      go : (t : Bool) → ltb a.plain (length p) ≡ t → Says (cond t Unsaid (cond (eqb (packed 0 p) same) (Is (length p)) Not))
      go true g = tt
      go false g = decide (eqb (packed 0 p) same) refl
        where
          enough : length p ≤ a.plain
          enough = ltb-false a.plain (length p) g

          decide : (t : Bool) → eqb (packed 0 p) same ≡ t → Says (cond t (Is (length p)) Not)
          decide true h = (refl, enough, eqb-true (packed 0 p) same h)
          decide false h = (enough, λ q. false≢true (sym h ∙ eq-eqb (packed 0 p) same q))

  plain_pattern : length p ≤ a.plain → Plain (length p) cs
  plain_pattern h = plain_fewer (length p) (a.plain - length p) cs (subst (λ (m : ℕ). Plain m cs) {x = a.plain} {y = length p + (a.plain - length p)} (omega arith) is.ascii)

  pub said_begins : (n : ℕ) → r ≡ Is n → (begins (letters (rule_at s at)) cs ≡ true) × (n ≡ length (letters (rule_at s at))) × (n ≤ 6)
  unfolding Says
  said_begins n f =
      let t = subst Says f said in
      let plain = plain_pattern t.1 in
      let lists = one_list p (ahead (length p) cs) 0 0 (sym (length_ahead (length p) cs)) (small_bytes p text.0) (small_ahead (length p) cs plain)
      (t.2 ∙ is.is (length p) t.1) in
      let b = ahead_begins p cs text.0 plain (sym lists.1) in
      let few = is.few in
      (b.0, t.0 ∙ sym b.1, omega (arith, t.0, t.1, few))

  pub said_not : r ≡ Not → begins (letters (rule_at s at)) cs ≡ false
  unfolding Says
  said_not f = go (begins (chars_of p) cs) refl
    where
      t : (length p ≤ a.plain) × (packed 0 p ≡ a.word / 2 ^ (64 - 8 * length p) → ⊥)
      t = subst Says f said

      whole : p ≡ bytes_of_all (chars_of p)
      whole = decoded_text p text.1

      go : (b : Bool) → begins (chars_of p) cs ≡ b → b ≡ false
      go true h =
          let plain = subst (λ (l : List ℕ). Plain (length l) cs) whole (plain_pattern t.0) in
          let lists = subst (λ (l : List ℕ). ahead (length l) cs ≡ l) (sym whole) (begins_ahead (chars_of p) cs h plain) in
          absurd (t.1 (ap (packed 0) (sym lists) ∙ sym (is.is (length p) t.0)))
      go false h = refl
