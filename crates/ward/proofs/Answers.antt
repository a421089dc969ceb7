-- What ward answers, by its tests in their order. Assumes nothing.
use Prim.Native.Nat.{ℕ, ◌+◌, ◌*◌, ◌<◌, ◌≤◌}
use mathlib.Core.Path.{◌≡◌, refl, sym, ap, ap₂, ◌∙◌}
use mathlib.Core.Bool.{Bool, true, false, cond}
use mathlib.Core.List.{List}
use native.Mathlib.Omega.{arith}
use borrow.Author.Tests.{leb-true, lt-ltb, le-ltb}
use lib.Dec.{ltb, leb}
use lib.ListN.{length}
use Rattle.laws.specs.Lists.{cat}
use Rattle.plate.specs.Read.{accepted}
use Rattle.coder.specs.Answer.{smaller}
use Rattle.ward.specs.Ward.{Written, unwritten, written, names, line, most_names, line_bytes, ward_answer}
use Rattle.ward.specs.Puts.{Puts}

-- A count that stops at one over the most.
pub many : (most n m : ℕ) → n ≡ smaller (most + 1) m → most < n → most < m
many most n m e h = go (leb (most + 1) m) refl e
  where
    go : (t : Bool) → leb (most + 1) m ≡ t → n ≡ cond t (most + 1) m → most < m
    go true l f = let k = leb-true (most + 1) m l in omega arith
    go false l f = omega arith

pub exact : (most n m : ℕ) → n ≡ smaller (most + 1) m → n ≤ most → n ≡ m
exact most n m e h = go (leb (most + 1) m) e
  where
    go : (t : Bool) → n ≡ cond t (most + 1) m → n ≡ m
    go true f = absurd (omega arith)
    go false f = f

module _ (plate bytes lent : List ℕ) where
  -- `wardAnswer`, by the outcomes of its tests
  abbrev judged : Bool → Bool → Bool → Written
  judged plated long tight = cond plated (cond long (unwritten 1 lent) (cond tight (unwritten 12 lent) (written (cat (line plate) (names bytes)) lent))) (unwritten 10 lent)

  pub no_plate : accepted plate ≡ false → unwritten 10 lent ≡ ward_answer plate bytes lent
  unfolding ward_answer
  no_plate a = ap (λ (t : Bool). judged t (ltb most_names (length (names bytes))) (ltb (length lent) (line_bytes * length (names bytes)))) (sym a)

  module _ (a : accepted plate ≡ true) (n : ℕ) (e : n ≡ smaller (most_names + 1) (length (names bytes))) where
    pub many_names : most_names < n → unwritten 1 lent ≡ ward_answer plate bytes lent
    unfolding ward_answer
    many_names h =
        ap₂ (λ (t u : Bool). judged t u (ltb (length lent) (line_bytes * length (names bytes)))) (sym a) (sym (lt-ltb most_names (length (names bytes)) (many most_names n (length (names bytes)) e h)))

    module _ (h : n ≤ most_names) where
      few : ltb most_names (length (names bytes)) ≡ false
      few = let k = exact most_names n (length (names bytes)) e h in le-ltb most_names (length (names bytes)) (omega arith)

      by_room : (t : Bool) → ltb (length lent) (line_bytes * length (names bytes)) ≡ t → judged true false t ≡ ward_answer plate bytes lent
      unfolding ward_answer
      by_room t f =
          ap (λ (x : Bool). judged x false t) (sym a) ∙ ap₂ (λ (x y : Bool). judged (accepted plate) x y) (sym few) (sym f)

      pub too_small : length lent < line_bytes * n → unwritten 12 lent ≡ ward_answer plate bytes lent
      too_small r = let k = exact most_names n (length (names bytes)) e h in by_room true (lt-ltb (length lent) (line_bytes * length (names bytes)) (omega arith))

      pub room_for : line_bytes * n ≤ length lent → line_bytes * length (names bytes) ≤ length lent
      room_for r = let k = exact most_names n (length (names bytes)) e h in omega arith

      pub all_written : line_bytes * n ≤ length lent → (m : ℕ) (out : List ℕ) → Puts (cat (line plate) (names bytes)) m lent out
          → record { number = 0; length = m; buffer = out } ≡ ward_answer plate bytes lent
      all_written r m out p =
          (λ i. record { number = 0; length = p.count i; buffer = p.is i }) ∙ by_room false (le-ltb (length lent) (line_bytes * length (names bytes)) (room_for r))
