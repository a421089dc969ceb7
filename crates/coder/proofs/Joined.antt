-- Codes joined by bars in a buffer: a code of six bytes stands from byte 7k on, and the bar before it. Assumes nothing.
use Prim.Native.Nat.{ℕ, suc, ◌+◌, ◌-◌, ◌*◌, ◌≤◌, ◌<◌}
use mathlib.Core.Path.{◌≡◌, refl, sym, ap, ap₂, subst, ◌∙◌}
use mathlib.Core.List.{List, [], ◌∷◌, ◌++◌, append_assoc}
use native.Mathlib.Omega.{arith}
use native.Mathlib.Numerals.{add-one}
use lib.ListN.{length, take, drop, get_or, set, length-append, length-drop}
use lib.Seq.{drop-cons, drop-drop, set_at, take_at, drop_at, take-suc, take_all, length-take-le}
use Rattle.laws.specs.Arrays.{Each}
use Rattle.laws.proofs.Arrays.{each_behind}
use Rattle.coder.specs.Answer.{joined}

-- ---- codes of six bytes

abbrev pub Six : List (List ℕ) → Type 0
Six = Each (λ (c : List ℕ). length c ≡ 6)

-- a bar behind each
abbrev pub barred : List (List ℕ) → List ℕ
barred [] = []
barred (c ∷ cs) = c ++ (124 ∷ barred cs)

bar_behind : (c : List ℕ) (cs : List (List ℕ)) → joined (c ∷ cs) ++ (124 ∷ []) ≡ barred (c ∷ cs)
unfolding joined
bar_behind c [] = refl
bar_behind c (d ∷ cs) = append_assoc c (124 ∷ joined (d ∷ cs)) (124 ∷ []) ∙ ap (λ (l : List ℕ). c ++ (124 ∷ l)) (bar_behind d cs)

joined_snoc : (xs : List (List ℕ)) (c : List ℕ) → joined (xs ++ (c ∷ [])) ≡ barred xs ++ c
unfolding joined
joined_snoc [] c = refl
joined_snoc (x ∷ []) c = sym (append_assoc x (124 ∷ []) c)
joined_snoc (x ∷ y ∷ xs) c = ap (λ (l : List ℕ). x ++ (124 ∷ l)) (joined_snoc (y ∷ xs) c) ∙ sym (append_assoc x (124 ∷ barred (y ∷ xs)) c)

length_barred : (xs : List (List ℕ)) → Six xs → length (barred xs) ≡ 7 * length xs
length_barred [] h = refl
length_barred (x ∷ xs) h =
    let i = length_barred xs h.1 in
    let n = h.0 in
    length-append x (124 ∷ barred xs) ∙ omega arith

-- Joined codes have a bar fewer than codes.
pub length_joined : (xs : List (List ℕ)) → Six xs → length (joined xs) ≡ 7 * length xs - 1
unfolding joined
length_joined [] h = refl
length_joined (c ∷ cs) h =
    let e = sym (length-append (joined (c ∷ cs)) (124 ∷ [])) ∙ ap length (bar_behind c cs) ∙ length_barred (c ∷ cs) h in
    omega arith

-- ---- codes ys, of which the first k stand in the buffer that was lent as o

module _ (ys : List (List ℕ)) (k : ℕ) (six : Six (take k ys)) (o : List ℕ) where
  many : k ≤ length ys → length (barred (take k ys)) ≡ 7 * k
  many h = length_barred (take k ys) six ∙ ap (λ (m : ℕ). 7 * m) (length-take-le k ys h)

  pub joined_length : k ≤ length ys → length (joined (take k ys)) ≡ 7 * k - 1
  joined_length h = length_joined (take k ys) six ∙ ap (λ (m : ℕ). 7 * m - 1) (length-take-le k ys h)

  with_bar : 0 < k → k ≤ length ys → joined (take k ys) ++ (124 ∷ []) ≡ barred (take k ys)
  with_bar g h = go (take k ys) (length-take-le k ys h)
    where
      go : (l : List (List ℕ)) → length l ≡ k → joined l ++ (124 ∷ []) ≡ barred l
      go [] e = absurd (omega arith)
      go (c ∷ l) e = bar_behind c l

  -- Before the first code stands no bar.
  pub no_bar : (out : List ℕ) → k ≡ 0 → out ≡ joined (take k ys) ++ drop (7 * k - 1) o → out ≡ barred (take k ys) ++ drop (7 * k) o
  unfolding joined
  no_bar out z e = e ∙ rw z

  -- Before any other stands one.
  pub bar : (out : List ℕ) → 0 < k → k ≤ length ys → 7 * k - 1 < length o → out ≡ joined (take k ys) ++ drop (7 * k - 1) o
      → set out (7 * k - 1) 124 ≡ barred (take k ys) ++ drop (7 * k) o
  bar out g h l f =
      let e : suc (7 * k - 1) ≡ 7 * k = omega arith in
      ap (λ (x : List ℕ). set x (7 * k - 1) 124) f
      ∙ rw (drop-cons o (7 * k - 1) 0 l, e, set_at _ _ _ _ _ (joined_length h), ← with_bar g h, append_assoc)

  -- The code behind it, from byte 7k on.
  pub put_on : (p y behind : List ℕ) → k < length ys → p ≡ barred (take k ys) ++ drop (7 * k) o → y ≡ get_or ys k [] → behind ≡ drop (7 * k + 6) p
      → take (7 * k) p ++ (y ++ behind) ≡ joined (take (k + 1) ys) ++ drop (7 * (k + 1) - 1) o
  put_on p y behind h e f g =
      let l : k ≤ length ys = omega arith in
      let front : List ℕ = barred (take k ys) in
      let next : joined (take (k + 1) ys) ≡ front ++ y = rw (add-one k, take-suc ys k [] h) (joined_snoc (take k ys) (get_or ys k []) ∙ ap (λ (c : List ℕ). front ++ c) (sym f)) in
      let left : behind ≡ drop (7 * (k + 1) - 1) o =
      g ∙ sym (drop-drop 6 (7 * k) p ∙ ap (λ (n : ℕ). drop n p) {x = 7 * k + 6} {y = 7 * k + 6} refl) ∙ ap (λ (x : List ℕ). drop 6 (drop (7 * k) x)) e
      ∙ ap (drop 6) (drop_at front (drop (7 * k) o) (7 * k) (many l)) ∙ drop-drop 6 (7 * k) o ∙ ap (λ (n : ℕ). drop n o) {x = 7 * k + 6} {y = 7 * (k + 1) - 1} (omega arith) in
      ap (λ (x : List ℕ). take (7 * k) x ++ (y ++ behind)) e
      ∙ ap (λ (x : List ℕ). x ++ (y ++ behind)) (take_at front (drop (7 * k) o) (7 * k) (many l))
      ∙ sym (append_assoc front y behind)
      ∙ ap₂ ◌++◌ (sym next) left

  -- The buffer keeps its length.
  pub as_long : (q : List ℕ) → k ≤ length ys → 7 * k - 1 ≤ length o → q ≡ joined (take k ys) ++ drop (7 * k - 1) o → length q ≡ length o
  as_long q h g e =
      ap length e ∙ length-append (joined (take k ys)) (drop (7 * k - 1) o) ∙ rw (joined_length h, length-drop (7 * k - 1) o) (whole (7 * k - 1) (length o) g)
    where
      whole : (a b : ℕ) → a ≤ b → a + (b - a) ≡ b
      whole a b h = omega arith

-- One more has six.
pub six_more : (ys : List (List ℕ)) (k : ℕ) → Six (take k ys) → k < length ys → length (get_or ys k []) ≡ 6 → Six (take (k + 1) ys)
six_more ys k six h e = rw (add-one k, take-suc ys k [] h) (each_behind (λ (c : List ℕ). length c ≡ 6) (take k ys) (get_or ys k []) six e)

-- All codes stand.
pub all_joined : (ys : List (List ℕ)) (k : ℕ) → Six (take k ys) → (o q : List ℕ) → k ≡ length ys → q ≡ joined (take k ys) ++ drop (7 * k - 1) o → q ≡ joined ys ++ drop (length (joined ys)) o
all_joined ys k six o q n e =
    let whole : take k ys ≡ ys = take_all k ys (omega arith) in
    e ∙ ap (λ (l : List (List ℕ)). joined l ++ drop (7 * k - 1) o) whole
    ∙ ap (λ (m : ℕ). joined ys ++ drop m o) (sym (length_joined ys (subst Six whole six) ∙ ap (λ (m : ℕ). 7 * m - 1) (sym n)))
