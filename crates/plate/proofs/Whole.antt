-- Parts of a plate that are read whole: a pattern as one number beside the characters ahead, the first key. Assumes nothing.
use Rattle.std.proofs.Common.{◌≡◌, ℕ, zero, suc, ◌+◌, ◌-◌, ◌*◌, ◌/◌, ◌%◌, ◌^◌, ◌<◌, ◌≤◌, Bool, true, false, cond, eqb, List, length, sym, ap, ◌∙◌, ap₂, add-zero, zero-add, arith, le-ltb, lt-ltb, eq-eqb, ne_eqb}
use Rattle.plate.specs.Bits.{number_at}
use Rattle.plate.specs.Window.{Holds}
use Rattle.plate.specs.Read.{many, pattern_at, folding_at, folding_end}
use Rattle.plate.specs.Answers.{bytes_at}
use Rattle.plate.specs.Stands.{packed, beginning, first_key}
use Rattle.plate.specs.declared.Beginning.TheVariants.{Is, Not, Unsaid}
use Rattle.plate.proofs.Windows.{number_append, front, shifted}
use Rattle.plate.proofs.Listed.{many_cons}

module _ (s : List ℕ) where
  -- ---- bytes as one number

  -- n bytes behind m bits are packed behind their number.
  packed_behind : (at m n : ℕ) → number_at s at (m + 8 * n) ≡ packed (number_at s at m) (bytes_at s n (at + m))
  unfolding packed
  packed_behind at m zero = ap (number_at s at) {x = m + 8 * 0} {y = m} (omega arith)
  packed_behind at m (suc n) =
      ap (number_at s at) {x = m + 8 * suc n} {y = m + 8 + 8 * n} (omega arith)
      ∙ packed_behind at (m + 8) n
      ∙ ap₂ packed (number_append s at m 8) (ap (bytes_at s n) {x = at + (m + 8)} {y = at + m + 8} (omega arith))

  packed_all : (at n : ℕ) → number_at s at (8 * n) ≡ packed 0 (bytes_at s n at)
  unfolding number_at
  packed_all at n = ap (number_at s at) (sym (zero-add (8 * n))) ∙ packed_behind at 0 n ∙ ap (λ (p : ℕ). packed 0 (bytes_at s n p)) (add-zero at)

  -- ---- a pattern in front of a window

  module _ (at w : ℕ) (h : Holds s at 57 w) where
    -- Its length.
    pub pattern_length_in : w / 2 ^ 59 ≡ number_at s at 5
    pattern_length_in = front s at 57 w h (omega arith) 5 (omega arith)

    -- Its bytes, where they are few.
    pub pattern_packed : (n : ℕ) → n ≡ number_at s at 5 → n ≤ 6 → w * 2 ^ 5 % 2 ^ 64 / 2 ^ (64 - 8 * n) ≡ packed 0 (pattern_at s at)
    pattern_packed n e few =
        front s (at + 5) 52 (w * 2 ^ 5 % 2 ^ 64) (shifted s at 57 w h (omega arith) 5 (omega arith)) (omega arith) (8 * n) (omega arith)
        ∙ packed_all (at + 5) n
        ∙ ap (λ (k : ℕ). packed 0 (bytes_at s k (at + 5))) e

  -- ---- foldings

  module _ (count n : ℕ) (e : n ≡ count) where
    pub key_first : 1 ≤ n → (k : ℕ) → k ≡ number_at s 32 21 → k ≡ first_key (many (folding_at s) folding_end count 32)
    key_first h k f = f ∙ sym (ap first_key (many_cons (folding_at s) folding_end count 32 (omega arith)))

-- ---- what is said of a pattern beside the characters ahead

module _ (p : List ℕ) (word plain n : ℕ) (e : n ≡ length p) where
  pub unsaid : plain < n → Unsaid ≡ beginning p word plain
  unsaid h = sym (ap (λ (t : Bool). cond t Unsaid (cond (eqb (packed 0 p) (word / 2 ^ (64 - 8 * length p))) (Is (length p)) Not)) (lt-ltb plain (length p) (omega arith)))

  module _ (h : n ≤ plain) (x : ℕ) (f : x ≡ packed 0 p) where
    said : (t : Bool) → eqb (packed 0 p) (word / 2 ^ (64 - 8 * length p)) ≡ t → cond t (Is (length p)) Not ≡ beginning p word plain
    said t g =
        sym (ap (λ (u : Bool). cond u Unsaid (cond (eqb (packed 0 p) (word / 2 ^ (64 - 8 * length p))) (Is (length p)) Not)) (le-ltb plain (length p) (omega arith))
        ∙ ap (λ (u : Bool). cond u (Is (length p)) Not) g)

    here : word / 2 ^ (64 - 8 * n) ≡ word / 2 ^ (64 - 8 * length p)
    here = ap (λ (k : ℕ). word / 2 ^ (64 - 8 * k)) e

    pub said_is : x ≡ word / 2 ^ (64 - 8 * n) → Is n ≡ beginning p word plain
    said_is g = ap Is e ∙ said true (eq-eqb (packed 0 p) (word / 2 ^ (64 - 8 * length p)) (sym f ∙ g ∙ here))

    pub said_not : (x ≡ word / 2 ^ (64 - 8 * n) → ⊥) → Not ≡ beginning p word plain
    said_not g = said false (ne_eqb (packed 0 p) (word / 2 ^ (64 - 8 * length p)) (λ q. g (f ∙ q ∙ sym here)))
