-- The pen: a number behind the bits that it holds, a whole byte that leaves it, and what is written one behind the other. Assumes nothing.
use Prim.Native.Nat.{ℕ, zero, suc, ◌+◌, ◌-◌, ◌*◌, ◌/◌, ◌%◌, ◌^◌, ◌<◌, ◌≤◌}
use mathlib.Core.Path.{◌≡◌, refl, sym, ◌∙◌, ap, ap₂, subst}
use mathlib.Core.List.{List, [], ◌∷◌, ◌++◌, append_assoc, append-nil}
use native.Mathlib.Omega.{arith}
use native.Mathlib.Numerals.{add-one}
use native.Mathlib.Nat.{add-suc, add-zero, mul_assoc, pow-suc, mod-lt, one-mul, lt_of_lt_of_le}
use lib.Dec.{lit<}
use lib.ListN.{length, take, drop, get_or, set, length-set, take-append-drop, length-append}
use lib.Seq.{take-suc-set, drop-set-lt, take-suc, take_all, drop-cons, length-take-le, drop-drop}
use lib.Arith.{digits_lt}
use lib.Pow.{pow-add, pow_pos, pow_mono, shl_exact, shr_lt, split}
use Rattle.laws.specs.Lists.{cat}
use Rattle.laws.proofs.Lists.{cat_append}
use Rattle.plate.specs.Bits.{bits_of, unpack, pack}
use Rattle.plate.proofs.Packed.{Bytes, length_bits_of, zero_bits, pack_unpack, pack_fill}
use Rattle.plate.proofs.Place.{length_unpack}
use Rattle.book.specs.Pen.{bits_in, Ready, Wrote, Finished}
use Rattle.book.specs.declared.pen.Sheet.{Sheet}

-- ---- numbers

half : (m v : ℕ) → (m * 2 + v) / 2 ≡ m + v / 2
half m v = omega arith

odd : (m v : ℕ) → (m * 2 + v) % 2 ≡ v % 2
odd m v = omega arith

below : (v p : ℕ) → v < p * 2 → v / 2 < p
below v p i = omega arith

none : (a v : ℕ) → v < 1 → a * 1 + v ≡ a
none a v i = omega arith

-- The bits of one number and of another behind it.
join : (h n a v : ℕ) → v < 2 ^ n → bits_of (h + n) (a * 2 ^ n + v) ≡ bits_of h a ++ bits_of n v
join h zero a v i = ap₂ bits_of (add-zero h) (none a v i) ∙ sym (append-nil (bits_of h a))
join h (suc n) a v i =
    ap₂ bits_of (add-suc h n) (ap (λ (x : ℕ). x + v) (ap (λ (x : ℕ). a * x) (pow-suc 2 n) ∙ sym (mul_assoc a (2 ^ n) 2)))
    ∙ ap₂ (λ (q r : ℕ). bits_of (h + n) q ++ (r ∷ [])) (half (a * 2 ^ n) v) (odd (a * 2 ^ n) v)
    ∙ ap (λ (l : List ℕ). l ++ (v % 2 ∷ [])) (join h n a (v / 2) (below v (2 ^ n) (subst (λ (x : ℕ). v < x) (pow-suc 2 n) i)))
    ∙ append_assoc (bits_of h a) (bits_of n (v / 2)) (v % 2 ∷ [])

-- The code's way to write 2 ^ n.
pub shl_one : (n : ℕ) → n ≤ 31 → 1 * 2 ^ n % 18446744073709551616 ≡ 2 ^ n
shl_one n h = shl_exact {a = 1} 1 n 64 (lit< tt) (omega arith) ∙ one-mul _

pub shl_pos : (n : ℕ) → n ≤ 31 → 0 < 1 * 2 ^ n % 18446744073709551616
shl_pos n h = subst (λ (x : ℕ). 0 < x) (sym (shl_one n h)) (pow_pos n)

-- h bits and n bits are h + n bits, and fit.
pub joined_lt : (h n a v : ℕ) → a < 2 ^ h → v < 2 ^ n → a * 2 ^ n + v < 2 ^ (h + n)
joined_lt h n a v i j = subst (λ (x : ℕ). a * 2 ^ n + v < x) (sym (pow-add 2 h n)) (digits_lt i j)

pub fits : (h n a v : ℕ) → h ≤ 7 → n ≤ 24 → a < 2 ^ h → v < 2 ^ n → a * 2 ^ n + v < 2147483648
fits h n a v i j k l = lt_of_lt_of_le (joined_lt h n a v k l) (pow_mono {i = h + n} {j = 31} (omega arith))

pub byte_lt : (h a : ℕ) → 8 ≤ h → a < 2 ^ h → a / 2 ^ (h - 8) < 256
byte_lt h a i k = shr_lt 8 (h - 8) (subst (λ (x : ℕ). a < 2 ^ x) {x = h} {y = 8 + (h - 8)} (omega arith) k)

-- ---- a whole byte leaves the pen

unpack_snoc : (l : List ℕ) (b : ℕ) → unpack (l ++ (b ∷ [])) ≡ unpack l ++ bits_of 8 b
unpack_snoc [] b = append-nil (bits_of 8 b)
unpack_snoc (x ∷ xs) b = ap (λ (l : List ℕ). bits_of 8 x ++ l) (unpack_snoc xs b) ∙ sym (append_assoc (bits_of 8 x) (unpack xs) (bits_of 8 b))

module _ (h a : ℕ) (i : 8 ≤ h) (out : List ℕ) (at : ℕ) (j : at < length out) where
  apart : bits_of h a ≡ bits_of 8 (a / 2 ^ (h - 8)) ++ bits_of (h - 8) (a % 2 ^ (h - 8))
  apart =
      ap₂ bits_of {x = h} {y = 8 + (h - 8)} {u = a} {v = a / 2 ^ (h - 8) * 2 ^ (h - 8) + a % 2 ^ (h - 8)} (omega arith) (sym (split a (h - 8)))
      ∙ join 8 (h - 8) (a / 2 ^ (h - 8)) (a % 2 ^ (h - 8)) (mod-lt a (pow_pos (h - 8)))

  flush : unpack (take (at + 1) (set out at (a / 2 ^ (h - 8)))) ++ bits_of (h - 8) (a % 2 ^ (h - 8)) ≡ unpack (take at out) ++ bits_of h a
  flush =
      ap (λ (l : List ℕ). unpack l ++ bits_of (h - 8) (a % 2 ^ (h - 8)))
      (ap (λ (n : ℕ). take n (set out at (a / 2 ^ (h - 8)))) (add-one at) ∙ take-suc-set out at (a / 2 ^ (h - 8)) j)
      ∙ ap (λ (l : List ℕ). l ++ bits_of (h - 8) (a % 2 ^ (h - 8))) (unpack_snoc (take at out) (a / 2 ^ (h - 8)))
      ∙ append_assoc (unpack (take at out)) (bits_of 8 (a / 2 ^ (h - 8))) (bits_of (h - 8) (a % 2 ^ (h - 8)))
      ∙ ap (λ (l : List ℕ). unpack (take at out) ++ l) (sym apart)

  -- One turn: the bits stay the same, and the pen holds what is left.
  pub byte_turn : h - 8 ≤ 31
      → (a % (1 * 2 ^ (h - 8) % 18446744073709551616) < 2 ^ (h - 8))
      × (unpack (take (at + 1) (set out at (a / 2 ^ (h - 8)))) ++ bits_of (h - 8) (a % (1 * 2 ^ (h - 8) % 18446744073709551616)) ≡ unpack (take at out) ++ bits_of h a)
      × (length (set out at (a / 2 ^ (h - 8))) ≡ length out)
  byte_turn k =
      let e = shl_one (h - 8) k in (
        subst (λ (x : ℕ). a % x < 2 ^ (h - 8)) (sym e) (mod-lt a (pow_pos (h - 8))),
        ap (λ (x : ℕ). unpack (take (at + 1) (set out at (a / 2 ^ (h - 8)))) ++ bits_of (h - 8) (a % x)) e ∙ flush,
        length-set out at (a / 2 ^ (h - 8)),
      )

-- What is stored is bytes still.
pub byte_stored : (l : List ℕ) (i b : ℕ) → b < 256 → ((k : ℕ) → get_or l k 0 < 256) → (k : ℕ) → get_or (set l i b) k 0 < 256
byte_stored [] i b h f k = f k
byte_stored (x ∷ xs) zero b h f zero = h
byte_stored (x ∷ xs) zero b h f (suc k) = f (suc k)
byte_stored (x ∷ xs) (suc i) b h f zero = f 0
byte_stored (x ∷ xs) (suc i) b h f (suc k) = byte_stored xs i b h (λ j. f (suc j)) k

-- What was not reached is as it was.
pub not_reached : (out lent : List ℕ) (at b : ℕ) → drop at out ≡ drop at lent → drop (at + 1) (set out at b) ≡ drop (at + 1) lent
not_reached out lent at b e = drop-set-lt (at + 1) out at b (omega arith) ∙ sym (drop-drop 1 at out) ∙ ap (drop 1) e ∙ drop-drop 1 at lent

-- The bits of the pen and the number's behind them are those of the number that `put` makes of both.
pub both_bits : (h n a v : ℕ) → n ≤ 24 → v < 2 ^ n → (front bits : List ℕ) → bits ≡ front ++ bits_of (h + n) (a * (1 * 2 ^ n % 18446744073709551616) + v)
    → bits ≡ (front ++ bits_of h a) ++ bits_of n v
both_bits h n a v i j front bits e =
    e ∙ ap (λ (x : ℕ). front ++ bits_of (h + n) (a * x + v)) (shl_one n (omega arith))
    ∙ ap (λ (l : List ℕ). front ++ l) (join h n a v j) ∙ sym (append_assoc front (bits_of h a) (bits_of n v))

-- ---- bits written one behind the other

pub wrote_then : {s s₁ s₂ : Sheet} (a b : List ℕ) → Wrote s a s₁ → Wrote s₁ b s₂ → Wrote s (a ++ b) s₂
wrote_then {s = s} {s₁ = s₁} {s₂ = s₂} a b x y =
    let n : ℕ = s₂.pen.bytes - s₁.pen.bytes in
    let on : s₁.pen.bytes + n ≡ s₂.pen.bytes = omega (arith, s₁.pen.part, s₂.pen.part, x.moved, y.moved) in
    record {
      is = y.is ∙ ap (λ (l : List ℕ). l ++ b) x.is ∙ append_assoc (bits_in s) a b;
      kept =
          y.kept ∙ ap (λ (m : ℕ). drop m s₁.out.now) (sym on) ∙ sym (drop-drop n s₁.pen.bytes s₁.out.now) ∙ ap (drop n) x.kept ∙ drop-drop n s₁.pen.bytes s.out.now
          ∙ ap (λ (m : ℕ). drop m s.out.now) on;
      size = y.size ∙ x.size;
      moved = omega (arith, x.moved, y.moved, length-append a b);
      same = y.same ∙ x.same;
    }

-- Room for all is room for the first.
pub ready_first : {s : Sheet} (a b : List ℕ) → Ready s (a ++ b) → Ready s a
ready_first a b r = record { room = omega (arith, r.room, length-append a b) }

-- Behind the first there is room for the others.
pub ready_then : {s s₁ : Sheet} (a b : List ℕ) → Ready s (a ++ b) → Wrote s a s₁ → Ready s₁ b
ready_then a b r x = record { room = omega (arith, r.room, x.moved, x.size, length-append a b) }

-- The same bits, said otherwise.
pub ready_as : {s : Sheet} {a b : List ℕ} → a ≡ b → Ready s a → Ready s b
ready_as {s = s} e r = subst (Ready s) e r

pub wrote_as : {s s₁ : Sheet} {a b : List ℕ} → a ≡ b → Wrote s a s₁ → Wrote s b s₁
wrote_as {s = s} {s₁ = s₁} e w = subst (λ (bits : List ℕ). Wrote s bits s₁) e w

-- ---- a loop that writes the bits of each of a list

module _ {A : Type 0} (f : A → List ℕ) (l : List A) (k : ℕ) (d : A) (h : k < length l) where
  one_more : cat f (take (k + 1) l) ≡ cat f (take k l) ++ f (get_or l k d)
  one_more =
      ap (λ (n : ℕ). cat f (take n l)) (add-one k) ∙ ap (cat f) (take-suc l k d h) ∙ cat_append f (take k l) (get_or l k d ∷ [])
      ∙ ap (λ (bits : List ℕ). cat f (take k l) ++ bits) (append-nil (f (get_or l k d)))

  parted : cat f l ≡ cat f (take k l) ++ (f (get_or l k d) ++ cat f (drop (suc k) l))
  parted = ap (cat f) (sym (take-append-drop k l)) ∙ cat_append f (take k l) (drop k l) ∙ ap (λ (more : List A). cat f (take k l) ++ cat f more) (drop-cons l k d h)

  module _ {s s₁ : Sheet} (w : Wrote s (cat f (take k l)) s₁) where
    -- There is room for the next.
    pub each_ready : Ready s (cat f l) → Ready s₁ (f (get_or l k d))
    each_ready r =
        ready_first (f (get_or l k d)) (cat f (drop (suc k) l)) (ready_then (cat f (take k l)) (f (get_or l k d) ++ cat f (drop (suc k) l)) (ready_as parted r) w)

    -- The next is written behind those before it.
    pub each_turn : {s₂ : Sheet} → Wrote s₁ (f (get_or l k d)) s₂ → Wrote s (cat f (take (k + 1) l)) s₂
    each_turn x = wrote_as (sym one_more) (wrote_then (cat f (take k l)) (f (get_or l k d)) w x)

-- All are written.
pub each_end : {A : Type 0} (f : A → List ℕ) (l : List A) (k : ℕ) → length l ≤ k → {s s₁ : Sheet} → Wrote s (cat f (take k l)) s₁ → Wrote s (cat f l) s₁
each_end f l k h w = wrote_as (ap (cat f) (take_all k l h)) w

-- ---- the end

bytes_take : (l : List ℕ) → ((k : ℕ) → get_or l k 0 < 256) → (n : ℕ) → Bytes (take n l)
bytes_take l h zero = tt
bytes_take [] h (suc n) = tt
bytes_take (b ∷ bs) h (suc n) = (h 0, bytes_take bs (λ k. h (suc k)) n)

-- There is room to fill the last byte.
pub fill_ready : {s : Sheet} (n : ℕ) → n ≡ 7 - (s.pen.count + 7) % 8 → Ready s [] → Ready s (bits_of n 0)
fill_ready {s = s} n e r = record { room = omega (arith, e, s.pen.part, r.room, length_bits_of n 0) }

module _ {s s₁ : Sheet} (n : ℕ) (e : n ≡ 7 - (s.pen.count + 7) % 8) (r : Ready s []) (w : Wrote s (bits_of n 0) s₁) where
  empty : s₁.pen.count ≡ 0
  empty = omega (arith, e, s.pen.part, s₁.pen.part, w.moved, length_bits_of n 0)

  whole : (length (bits_in s) + n) % 8 ≡ 0
  whole =
      omega (
        arith,
        e,
        s.pen.part,
        length-append (unpack (take s.pen.bytes s.out.now)) (bits_of s.pen.count s.pen.begun),
        length_unpack (take s.pen.bytes s.out.now),
        length-take-le
            s.pen.bytes s.out.now (omega (arith, r.room)),
        length_bits_of s.pen.count s.pen.begun,
      )

  packed : take s₁.pen.bytes s₁.out.now ≡ pack (bits_in s)
  packed =
      sym (pack_unpack (take s₁.pen.bytes s₁.out.now) (bytes_take s₁.out.now s₁.stored s₁.pen.bytes))
      ∙ ap pack
      (sym (append-nil (unpack (take s₁.pen.bytes s₁.out.now))) ∙ ap (λ (m : ℕ). unpack (take s₁.pen.bytes s₁.out.now) ++ bits_of m s₁.pen.begun) (sym empty) ∙ w.is
      ∙ ap (λ (l : List ℕ). bits_in s ++ l) (sym (zero_bits n)))
      ∙ pack_fill (bits_in s) n (omega (arith, e)) whole

  -- No bit is held then.
  blank : s₁.pen.begun ≡ 0
  blank = let h : s₁.pen.begun < 1 = subst (λ (m : ℕ). s₁.pen.begun < 2 ^ m) empty s₁.pen.held in omega arith

  -- The bytes are the bits, packed, and what stood behind them; the pen stands between the two.
  pub finished : Finished s s₁ s₁.pen.bytes
  finished = (
    (
      sym (take-append-drop s₁.pen.bytes s₁.out.now) ∙ ap₂ ◌++◌ packed w.kept,
      sym (length-take-le s₁.pen.bytes s₁.out.now (omega (arith, w.size, w.moved, r.room, e, length_bits_of n 0, s.pen.part, empty))) ∙ ap length packed,
    ),
    omega (arith, w.moved, s₁.pen.part, s.pen.part, length_bits_of n 0, empty),
    w.same,
    (refl, blank, empty),
  )

-- So many bytes are so many bits.
pub pack_length : (l : List ℕ) → length (pack l) ≡ (length l + 7) / 8
pack_length [] = refl
pack_length (a ∷ []) = refl
pack_length (a ∷ b ∷ []) = refl
pack_length (a ∷ b ∷ c ∷ []) = refl
pack_length (a ∷ b ∷ c ∷ d ∷ []) = refl
pack_length (a ∷ b ∷ c ∷ d ∷ e ∷ []) = refl
pack_length (a ∷ b ∷ c ∷ d ∷ e ∷ f ∷ []) = refl
pack_length (a ∷ b ∷ c ∷ d ∷ e ∷ f ∷ g ∷ []) = refl
pack_length (a ∷ b ∷ c ∷ d ∷ e ∷ f ∷ g ∷ h ∷ more) = ap suc (pack_length more) ∙ omega arith
