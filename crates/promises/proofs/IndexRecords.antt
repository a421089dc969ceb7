-- The records that share a code, and where each stands in what is written: two bytes, most significant first. Assumes nothing.
use Prim.Native.Nat.{ℕ, zero, suc, ◌+◌, ◌*◌, ◌/◌, ◌%◌, ◌<◌}
use mathlib.Core.Path.{◌≡◌, refl, sym, ap, ◌∙◌}
use mathlib.Core.Logic.{◌⊎◌, inl, inr}
use mathlib.Core.Bool.{Bool, true, false, cond, false≢true}
use mathlib.Core.List.{List, [], ◌∷◌, ◌++◌, map}
use native.Mathlib.Omega.{arith}
use lib.ListN.{length, get_or}
use Rattle.laws.specs.Lists.{In, keep, cat}
use Rattle.laws.specs.Arrays.{Each}
use Rattle.laws.proofs.Members.{in_map, map_in, in_keep}
use Rattle.entries.specs.Entries.{record_in}
use Rattle.laws.specs.Sort.{Sorted}
use Rattle.laws.proofs.Rising.{rising_in, in_rising, rising_strict}
use Rattle.index.specs.Find.{shares, records_of, two_bytes}

-- What passes is kept.
keep_in : {A : Type 0} (t : A → Bool) (l : List A) (x : A) → In x l → t x ≡ true → In x (keep t l)
keep_in t [] x i e = absurd i
keep_in {A} t (y ∷ l) x i e = go (t y) refl i (λ j. keep_in t l x j e)
  where
    go : (b : Bool) → t y ≡ b → (x ≡ y) ⊎ In x l → (In x l → In x (keep t l)) → In x (cond b (y ∷ keep t l) (keep t l))
    go true f (inl g) below = inl g
    go true f (inr j) below = inr (below j)
    go false f (inl g) below = absurd (false≢true (sym f ∙ ap t (sym g) ∙ e))
    go false f (inr j) below = below j

module _ (codes es : List ℕ) where
  -- an entry with one of these codes, under this record's number
  pub record Sharer (k : ℕ) : Type 0 where
    pub entry : ℕ
    pub stands : In entry es
    pub sharing : shares codes entry ≡ true
    pub is : k ≡ record_in entry

  pub record_sharer : (k : ℕ) → In k (records_of codes es) → Sharer k
  record_sharer k h =
      let kept = keep (shares codes) es in
      let r = map_in record_in k kept (rising_in (map record_in kept) k h) in
      let m = in_keep (shares codes) es r.0 r.1 in
      record { entry = r.0; stands = m.0; sharing = m.1; is = r.2 }

  pub sharer_record : (e : ℕ) → In e es → shares codes e ≡ true → In (record_in e) (records_of codes es)
  sharer_record e i s =
      let kept = keep (shares codes) es in
      in_rising (map record_in kept) (record_in e) (in_map record_in e kept (keep_in (shares codes) es e i s))

  pub records_rise : Sorted ◌<◌ (records_of codes es)
  records_rise = rising_strict (map record_in (keep (shares codes) es))

-- ---- in bytes

pub record_placed : (rs rest : List ℕ) (r : ℕ) → r < length rs
    → (let l = cat two_bytes rs ++ rest in get_or l (2 * r) 0 * 256 + get_or l (2 * r + 1) 0 ≡ get_or rs r 0)
record_placed [] rest r h = absurd (omega arith)
record_placed (x ∷ rs) rest zero h = omega arith
record_placed (x ∷ rs) rest (suc r) h =
    let l : List ℕ = (x / 256) ∷ (x % 256) ∷ (cat two_bytes rs ++ rest) in
    ap (λ (m : ℕ). get_or l m 0 * 256 + get_or l (2 * suc r + 1) 0) {x = 2 * suc r} {y = suc (suc (2 * r))} (omega arith)
    ∙ ap (λ (m : ℕ). get_or l (suc (suc (2 * r))) 0 * 256 + get_or l m 0) {x = 2 * suc r + 1} {y = suc (suc (2 * r + 1))} (omega arith)
    ∙ record_placed rs rest r (omega arith)

-- Of a list that rises strictly each is below those behind it.
pub places_rise : (l : List ℕ) → Sorted ◌<◌ l → (r s : ℕ) → r < s → s < length l → get_or l r 0 < get_or l s 0
places_rise [] t r s g h = absurd (omega arith)
places_rise (x ∷ l) t zero zero g h = absurd (omega arith)
places_rise (x ∷ l) t zero (suc s) g h = each_at l s t.0 (omega arith)
  where
    each_at : (m : List ℕ) (j : ℕ) → Each (λ y. x < y) m → j < length m → x < get_or m j 0
    each_at [] j e i = absurd (omega arith)
    each_at (y ∷ m) zero e i = e.0
    each_at (y ∷ m) (suc j) e i = each_at m j e.1 (omega arith)
places_rise (x ∷ l) t (suc r) zero g h = absurd (omega arith)
places_rise (x ∷ l) t (suc r) (suc s) g h = places_rise l t.1 r s (omega arith) (omega arith)
