-- The lowercase tables: ONE test at each entry, which antt computes, shows of a table from its first character on that the entry is the definition's, lies in
-- the table, is its own lowercase, and stays where the character is White_Space. It passes for both tables; outside them nothing changes. Assumes nothing.
use mathlib.Core.Path.{◌≡◌, refl, sym, ap, subst, ◌∙◌}
use mathlib.Core.Bool.{Bool, true, false, cond, not, ◌&&◌, ◌||◌, false≢true}
use mathlib.Core.List.{List}
use Prim.Native.Nat.{ℕ, ◌+◌, ◌-◌, ◌%◌, ◌<◌, ◌≤◌}
use native.Mathlib.Nat.{zero-add}
use native.Mathlib.Omega.{arith}
use borrow.Author.Tests.{eqb-true, ltb-true, ltb-false, leb-true, ne_eqb}
use lib.Dec.{ltb, leb, eqb}
use lib.ListN.{length, get_or}
use Rattle.laws.proofs.Tests.{and_true, and_right_false, above_between, between_true}
use Rattle.laws.proofs.Table.{passes, at}
use Rattle.chars.specs.Letters.{latin_end, latin, cyrillic_first, cyrillic_last, cyrillic, white, capital, even_capital, odd_capital, latin_lower, cyrillic_lower, lower_of}
use Rattle.chars.specs.Table.{table, cyrillic_count, cyrillic_table}

-- ---- the rule, over any table

-- The test of the k-th character from `base` on and its entry x, in a table of n.
right : ℕ → ℕ → ℕ → ℕ → Bool
right base n k x = eqb x (lower_of (base + k)) && (leb base x && (ltb x (base + n) && (eqb (lower_of x) x && (not (white (base + k)) || eqb x (base + k)))))

-- What it says of the character: its entry in the table is its lowercase, which lies in the table and is its own; White_Space stays.
pub record Lowers (base : ℕ) (entries : List ℕ) (k : ℕ) : Type 0 where
  pub entry : get_or entries k 0 ≡ lower_of (base + k)
  pub from : base ≤ lower_of (base + k)
  pub below : lower_of (base + k) < base + length entries
  pub twice : lower_of (lower_of (base + k)) ≡ lower_of (base + k)
  pub untouched : white (base + k) ≡ true → lower_of (base + k) ≡ base + k

shown : (base : ℕ) (entries : List ℕ) → passes (right base (length entries)) 0 entries ≡ true → (k : ℕ) → k < length entries → Lowers base entries k
unfolding right
shown base entries computed k h =
    let n = length entries in
    let c = base + k in
    let x = get_or entries k 0 in
    let kept = not (white c) || eqb x c in
    let t = and_true (eqb x (lower_of c)) (leb base x && (ltb x (base + n) && (eqb (lower_of x) x && kept))) (at (right base n) entries computed k h) in
    let u = and_true (leb base x) (ltb x (base + n) && (eqb (lower_of x) x && kept)) t.1 in
    let v = and_true (ltb x (base + n)) (eqb (lower_of x) x && kept) u.1 in
    let w = and_true (eqb (lower_of x) x) kept v.1 in
    let is : x ≡ lower_of c = eqb-true x (lower_of c) t.0 in
    record {
      entry = is;
      from = subst (λ (y : ℕ). base ≤ y) is (leb-true base x u.0);
      below = subst (λ (y : ℕ). y < base + n) is (ltb-true x (base + n) v.0);
      twice = subst (λ (y : ℕ). lower_of y ≡ y) is (eqb-true (lower_of x) x w.0);
      untouched = λ e. sym is ∙ stays c x (white c) e w.1;
    }
  where
    stays : (c x : ℕ) (b : Bool) → b ≡ true → not b || eqb x c ≡ true → x ≡ c
    stays c x true e f = eqb-true x c f
    stays c x false e f = absurd (false≢true e)

-- ---- both tables

latin_lowers : (k : ℕ) → k < latin_end → Lowers 0 table k
unfolding table right lower_of capital even_capital odd_capital white
latin_lowers k h = shown 0 table refl k h

cyrillic_lowers : (k : ℕ) → k < cyrillic_count → Lowers cyrillic_first cyrillic_table k
unfolding cyrillic_table right lower_of capital even_capital odd_capital white
cyrillic_lowers k h = shown cyrillic_first cyrillic_table refl k h

-- The entry of a character is its lowercase.
pub latin_entry : (c : ℕ) → c < latin_end → get_or table c 0 ≡ lower_of c
latin_entry c h = (latin_lowers c h).entry ∙ ap lower_of (zero-add c)

module _ (c : ℕ) (first : cyrillic_first ≤ c) (last : c ≤ cyrillic_last) where
  within : c - cyrillic_first < cyrillic_count
  within = omega arith

  again : cyrillic_first + (c - cyrillic_first) ≡ c
  again = omega arith

  pub cyrillic_entry : get_or cyrillic_table (c - cyrillic_first) 0 ≡ lower_of c
  cyrillic_entry = (cyrillic_lowers (c - cyrillic_first) within).entry ∙ ap lower_of again

-- What has no entry is its own lowercase.
pub untabled : (c : ℕ) → latin_end ≤ c → cyrillic c ≡ false → lower_of c ≡ c
unfolding lower_of capital even_capital odd_capital
untabled c h e =
    ap (λ (t : Bool). cond t (cyrillic_lower c) (latin_lower c)) e
    ∙ simp (
      above_between 0x41 0x5A c (omega arith),
      above_between 0xC0 0xD6 c (omega arith),
      above_between 0xD8 0xDE c (omega arith),
      above_between 0x100 0x12F c (omega arith),
      above_between 0x132 0x137 c (omega arith),
      above_between 0x14A 0x177 c (omega arith),
      above_between 0x139 0x148 c (omega arith),
      above_between 0x179 0x17E c (omega arith),
      and_right_false (eqb (c % 2) 0) false refl,
      and_right_false (eqb (c % 2) 1) false refl,
      ne_eqb c 0x130 (λ e. omega arith),
      ne_eqb c 0x178 (λ e. omega arith),
    )

-- What holds of a character of either table, and of one that is its own lowercase, holds of each.
by_table : (P : ℕ → Type 0) → ((base : ℕ) (entries : List ℕ) (k : ℕ) → Lowers base entries k → P (base + k)) → ((c : ℕ) → lower_of c ≡ c → P c) → (c : ℕ) → P c
by_table P tabled other c = go (latin c) (cyrillic c) refl refl
  where
    go : (l r : Bool) → latin c ≡ l → cyrillic c ≡ r → P c
    go true r e f = subst P (zero-add c) (tabled 0 table c (latin_lowers c (ltb-true c latin_end e)))
    go false true e f =
        let b = between_true cyrillic_first cyrillic_last c f in
        subst P (again c b.0 b.1) (tabled cyrillic_first cyrillic_table (c - cyrillic_first) (cyrillic_lowers (c - cyrillic_first) (within c b.0 b.1)))
    go false false e f = other c (untabled c (ltb-false c latin_end e) f)

-- Lowering twice equals once.
pub twice : (c : ℕ) → lower_of (lower_of c) ≡ lower_of c
twice = by_table (λ c. lower_of (lower_of c) ≡ lower_of c) (λ base entries k l. l.twice) (λ c e. ap lower_of e)

-- White space is untouched.
pub untouched : (c : ℕ) → white c ≡ true → lower_of c ≡ c
untouched = by_table (λ c. white c ≡ true → lower_of c ≡ c) (λ base entries k l. l.untouched) (λ c e w. e)

-- Outside the second table lowering is as it was without it.
pub as_before : (c : ℕ) → cyrillic c ≡ false → lower_of c ≡ latin_lower c
unfolding lower_of
as_before c e = ap (λ (t : Bool). cond t (cyrillic_lower c) (latin_lower c)) e
