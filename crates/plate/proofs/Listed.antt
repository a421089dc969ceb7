-- Things one behind the other, from a place on: their count, the first and those behind it, the last, the k-th, and the place behind them.
-- Each is an induction on the count. Assumes nothing.
use Rattle.std.proofs.Common.{◌≡◌, ℕ, zero, suc, ◌+◌, ◌-◌, ◌*◌, ◌<◌, ◌≤◌, Bool, true, false, leb, List, [], ◌∷◌, ◌++◌, length, get_or, take, drop, sym, refl, ap, ◌∙◌, mul-suc, arith, le-leb}
use borrow.Author.Tests.{lt-leb}
use Rattle.laws.specs.Lists.{every, between}
use Rattle.laws.proofs.Tests.{and_true, and_left_false, is_between, below_between, above_between}
use Rattle.laws.proofs.Many.{and_holds}
use Rattle.plate.specs.Read.{many, past}

module _ {A : Type 0} (f : ℕ → A) (e : ℕ → ℕ) where
  pub length_many : (n at : ℕ) → length (many f e n at) ≡ n
  length_many zero at = refl
  length_many (suc n) at = ap suc (length_many n (e at))

  pub many_cons : (n at : ℕ) → 0 < n → many f e n at ≡ f at ∷ many f e (n - 1) (e at)
  many_cons zero at h = absurd (omega arith)
  many_cons (suc n) at h = ap (λ (k : ℕ). f at ∷ many f e k (e at)) {x = n} {y = suc n - 1} (omega arith)

  pub many_snoc : (n at : ℕ) → many f e (suc n) at ≡ many f e n at ++ (f (past e n at) ∷ [])
  many_snoc zero at = refl
  many_snoc (suc n) at = ap (λ (l : List A). f at ∷ l) (many_snoc n (e at))

  pub get_d_many : (n at k : ℕ) (d : A) → k < n → get_or (many f e n at) k d ≡ f (past e k at)
  get_d_many zero at k d h = absurd (omega arith)
  get_d_many (suc n) at zero d h = refl
  get_d_many (suc n) at (suc k) d h = get_d_many n (e at) k d (omega arith)

  pub drop_many : (n at k : ℕ) → drop k (many f e n at) ≡ many f e (n - k) (past e k at)
  drop_many n at zero = ap (λ (m : ℕ). many f e m at) {x = n} {y = n - 0} (omega arith)
  drop_many zero at (suc k) = ap (λ (m : ℕ). many f e m (past e k (e at))) {x = 0} {y = 0 - suc k} (omega arith)
  drop_many (suc n) at (suc k) = drop_many n (e at) k ∙ ap (λ (m : ℕ). many f e m (past e k (e at))) {x = n - k} {y = suc n - suc k} (omega arith)

  pub take_many : (k n at : ℕ) → k ≤ n → take k (many f e n at) ≡ many f e k at
  take_many zero n at h = refl
  take_many (suc k) zero at h = absurd (omega arith)
  take_many (suc k) (suc n) at h = ap (λ (l : List A). f at ∷ l) (take_many k n (e at) (omega arith))

  pub every_at : (t : A → Bool) (n at k : ℕ) → k < n → every t (many f e n at) ≡ true → t (f (past e k at)) ≡ true
  every_at t zero at k h g = absurd (omega arith)
  every_at t (suc n) at zero h g = (and_true (t (f at)) (every t (many f e n (e at))) g).0
  every_at t (suc n) at (suc k) h g = every_at t n (e at) k (omega arith) (and_true (t (f at)) (every t (many f e n (e at))) g).1

  -- ---- a test of each, one by one

  -- Where each that passes a test ends at most w behind where it begins, n that pass end at most n times w behind.
  pub past_most : (t : A → Bool) (w : ℕ) → ((p : ℕ) → t (f p) ≡ true → e p ≤ p + w) → (n at : ℕ) → every t (many f e n at) ≡ true → past e n at ≤ at + w * n
  past_most t w g zero at h = omega arith
  past_most t w g (suc n) at h =
      let b = and_true (t (f at)) (every t (many f e n (e at))) h in
      let i = g at b.0 in
      let j = past_most t w g n (e at) b.1 in omega (arith, mul-suc w n)

  module _ (t : A → Bool) (n at : ℕ) where
    pub every_turn : 0 < n → t (f at) ≡ true → every t (many f e (n - 1) (e at)) ≡ every t (many f e n at)
    every_turn h g = sym (ap (every t) (many_cons n at h) ∙ and_holds (t (f at)) (every t (many f e (n - 1) (e at))) g)

    pub every_stop : 0 < n → t (f at) ≡ false → false ≡ every t (many f e n at)
    every_stop h g = sym (ap (every t) (many_cons n at h) ∙ and_left_false (t (f at)) (every t (many f e (n - 1) (e at))) g)

  -- ---- the count is within its limits, or not

  module _ (n at most : ℕ) where
    pub count_in : n ≤ most → leb (length (many f e n at)) most ≡ true
    count_in h = ap (λ (m : ℕ). leb m most) (length_many n at) ∙ le-leb n most h

    pub count_over : most < n → leb (length (many f e n at)) most ≡ false
    count_over h = ap (λ (m : ℕ). leb m most) (length_many n at) ∙ lt-leb n most h

    pub between_in : 1 ≤ n → n ≤ most → between 1 most (length (many f e n at)) ≡ true
    between_in h g = ap (between 1 most) (length_many n at) ∙ is_between 1 most n h g

    pub between_none : n < 1 → between 1 most (length (many f e n at)) ≡ false
    between_none h = ap (between 1 most) (length_many n at) ∙ below_between 1 most n h

    pub between_over : most < n → between 1 most (length (many f e n at)) ≡ false
    between_over h = ap (between 1 most) (length_many n at) ∙ above_between 1 most n h

module _ (e : ℕ → ℕ) where
  pub past_cons : (n at : ℕ) → 0 < n → past e n at ≡ past e (n - 1) (e at)
  past_cons zero at h = absurd (omega arith)
  past_cons (suc n) at h = ap (λ (k : ℕ). past e k (e at)) {x = n} {y = suc n - 1} (omega arith)

  -- Where each ends no earlier than it begins, so do all.
  pub past_grows : ((p : ℕ) → p ≤ e p) → (n at : ℕ) → at ≤ past e n at
  past_grows g zero at = omega arith
  past_grows g (suc n) at = omega (arith, g at, past_grows g n (e at))

  pub past_end : (n at : ℕ) → n ≤ 0 → past e n at ≡ at
  past_end zero at h = refl
  past_end (suc n) at h = absurd (omega arith)

  pub past_snoc : (n at : ℕ) → past e (suc n) at ≡ e (past e n at)
  past_snoc zero at = refl
  past_snoc (suc n) at = past_snoc n (e at)

-- Things of one width end at the width times their count.
pub past_add : (w n at : ℕ) → past (λ p. p + w) n at ≡ at + w * n
past_add w zero at = omega arith
past_add w (suc n) at = past_add w n (at + w) ∙ shift (w * n) ∙ ap (λ (k : ℕ). at + k) (sym (mul-suc w n))
  where
    shift : (x : ℕ) → at + w + x ≡ at + (x + w)
    shift x = omega arith
