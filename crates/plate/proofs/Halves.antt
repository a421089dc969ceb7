-- Rules in order, parted by a character: since first code points never fall, one rule below it tells that all before it are, and one that is not tells that
-- none behind is. Parted by c and by the character behind it, what lies between is c's group. Assumes nothing.
use Rattle.std.proofs.Common.{◌≡◌, ℕ, zero, suc, ◌+◌, ◌<◌, ◌≤◌, true, not, ◌&&◌, eqb, ltb, leb, List, [], ◌∷◌, length, get_or, take, drop, refl, ap, ◌∙◌, ⊎_elim, le_trans, add-one, arith, ltb-true, lt-ltb, eq-eqb, ne_eqb, eqb-true, le-leb, leb-true}
use lib.Seq.{slice}
use Rattle.laws.specs.Lists.{every}
use Rattle.laws.proofs.Tests.{and_true, both_true, or_true}
use Rattle.laws.proofs.Cuts.{every_drop, every_slice, every_also}
use Rattle.plate.specs.Plate.{Rule, first_code, may_precede, ordered}
use Rattle.plate.specs.Noted.{is_of, is_other, is_below, is_from, GroupIs, Parted}

-- ---- first code points never fall

-- A rule that may precede another has no higher first code point, and where it has the same, no shorter pattern.
pub may_precede_lem : (q r : Rule) → may_precede q r ≡ true → (first_code q ≤ first_code r) × (first_code r ≡ first_code q → length r.pattern ≤ length q.pattern)
may_precede_lem q r h =
    ⊎_elim
    (λ t. let k = ltb-true (first_code q) (first_code r) t in (omega arith, λ e. absurd (omega arith)))
    (λ t.
    let b = and_true (eqb (first_code q) (first_code r)) (leb (length r.pattern) (length q.pattern)) t in
    let e = eqb-true (first_code q) (first_code r) b.0 in
    (omega arith, λ _. leb-true (length r.pattern) (length q.pattern) b.1))
    (or_true (ltb (first_code q) (first_code r)) (eqb (first_code q) (first_code r) && leb (length r.pattern) (length q.pattern)) h)

-- Where the first is not below c, none is.
all_from : (c : ℕ) (r : Rule) (more : List Rule) → ordered (r ∷ more) ≡ true → c ≤ first_code r → every (is_from c) (r ∷ more) ≡ true
all_from c r [] o h = both_true (le-leb c (first_code r) h) refl
all_from c r (q ∷ more) o h =
    let b = and_true (may_precede r q) (ordered (q ∷ more)) o in
    both_true (le-leb c (first_code r) h) (all_from c q more b.1 (le_trans h (may_precede_lem r q b.0).0))

-- Where one is below c, the first is.
first_below : (c : ℕ) (d r : Rule) (more : List Rule) (m : ℕ) → ordered (r ∷ more) ≡ true → m < length (r ∷ more) → first_code (get_or (r ∷ more) m d) < c → first_code r < c
first_below c d r more zero o l h = h
first_below c d r [] (suc m) o l h = absurd (omega arith)
first_below c d r (q ∷ more) (suc m) o l h =
    let b = and_true (may_precede r q) (ordered (q ∷ more)) o in
    let k = (may_precede_lem r q b.0).0 in
    let f = first_below c d q more m b.1 (omega arith) h in
    omega arith

pub ordered_tail : (r : Rule) (more : List Rule) → ordered (r ∷ more) ≡ true → ordered more ≡ true
ordered_tail r [] o = refl
ordered_tail r (q ∷ more) o = (and_true (may_precede r q) (ordered (q ∷ more)) o).1

-- ---- one rule looked at

below_to : (c : ℕ) (d : Rule) (rs : List Rule) (m : ℕ) → ordered rs ≡ true → m < length rs → first_code (get_or rs m d) < c → every (is_below c) (take (suc m) rs) ≡ true
below_to c d [] m o l h = absurd (omega arith)
below_to c d (r ∷ more) zero o l h = both_true (lt-ltb (first_code r) c h) refl
below_to c d (r ∷ more) (suc m) o l h =
    both_true (lt-ltb (first_code r) c (first_below c d r more (suc m) o l h)) (below_to c d more m (ordered_tail r more o) (omega arith) h)

from_on : (c : ℕ) (d : Rule) (rs : List Rule) (m : ℕ) → ordered rs ≡ true → m < length rs → c ≤ first_code (get_or rs m d) → every (is_from c) (drop m rs) ≡ true
from_on c d [] m o l h = absurd (omega arith)
from_on c d (r ∷ more) zero o l h = all_from c r more o h
from_on c d (r ∷ more) (suc m) o l h = from_on c d more m (ordered_tail r more o) (omega arith) h

-- ---- the loop by halves: the rules up to `low` are below c, those from `high` on are not

pub record Halving (rs : List Rule) (c low high : ℕ) : Type 0 where
  pub rising : low ≤ high
  pub within : high ≤ length rs
  pub below : every (is_below c) (take low rs) ≡ true
  pub from : every (is_from c) (drop high rs) ≡ true

module _ (rs : List Rule) (c : ℕ) where
  module _ (low high m : ℕ) (h : Halving rs c low high) (d : Rule) (o : ordered rs ≡ true) (l : m < high) where
    inside : m < length rs
    inside = let w = h.within in omega arith

    pub halving_up : first_code (get_or rs m d) < c → Halving rs c (m + 1) high
    halving_up b = record {
      rising = omega arith;
      within = h.within;
      below = ap (λ (k : ℕ). every (is_below c) (take k rs)) (add-one m) ∙ below_to c d rs m o inside b;
      from = h.from;
    }

    pub halving_down : low ≤ m → c ≤ first_code (get_or rs m d) → Halving rs c low m
    halving_down k b = record { rising = k; within = let w = inside in omega arith; below = h.below; from = from_on c d rs m o inside b }

-- ---- what lies between is the group

-- A rule in front of one part and not in front of the other lies between them.
part_rises : (rs : List Rule) (c a b : ℕ) → every (is_below c) (take a rs) ≡ true → every (is_from (suc c)) (drop b rs) ≡ true → a ≤ length rs → a ≤ b
part_rises [] c a b f g h = omega arith
part_rises (r ∷ rs) c zero b f g h = omega arith
part_rises (r ∷ rs) c (suc a) zero f g h =
    let x = ltb-true (first_code r) c (and_true (is_below c r) (every (is_below c) (take a rs)) f).0 in
    let y = leb-true (suc c) (first_code r) (and_true (is_from (suc c) r) (every (is_from (suc c)) rs) g).0 in
    absurd (omega arith)
part_rises (r ∷ rs) c (suc a) (suc b) f g h =
    let k = part_rises rs c a b (and_true (is_below c r) (every (is_below c) (take a rs)) f).1 g (omega arith) in
    omega arith

module _ (c : ℕ) where
  below_other : (r : Rule) → is_below c r ≡ true → is_other c r ≡ true
  below_other r h = let l = ltb-true (first_code r) c h in ap not (ne_eqb (first_code r) c (λ e. omega arith))

  above_other : (r : Rule) → is_from (suc c) r ≡ true → is_other c r ≡ true
  above_other r h = let l = leb-true (suc c) (first_code r) h in ap not (ne_eqb (first_code r) c (λ e. omega arith))

  between_of : (r : Rule) → is_from c r ≡ true → is_below (suc c) r ≡ true → is_of c r ≡ true
  between_of r f b =
      let l = leb-true c (first_code r) f in
      let m = ltb-true (first_code r) (suc c) b in
      eq-eqb (first_code r) c (omega arith)

  pub parted_group : (rs : List Rule) (a b : ℕ) → Parted rs c a → Parted rs (suc c) b → GroupIs rs c a b
  parted_group rs a b p q = record {
    rising = part_rises rs c a b p.below q.from p.within;
    within = q.within;
    before = every_also (is_below c) (is_below c) (is_other c) (λ r h g. below_other r h) (take a rs) p.below p.below;
    inside = every_also (is_from c) (is_below (suc c)) (is_of c) between_of (slice a b rs) (every_slice (is_from c) a b rs p.from) (every_drop (is_below (suc c)) a (take b rs) q.below);
    after = every_also (is_from (suc c)) (is_from (suc c)) (is_other c) (λ r h g. above_other r h) (drop b rs) q.from q.from;
  }
