-- What stands in the structs that hold digits and fields (src/held.rt). Bytes past a count are b'0' and alternatives past one are empty, so that
-- digits, and a field, are held in one way only. Assumes nothing.
use Rattle.std.specs.Prelude.{ℕ, ◌-◌, ◌≤◌, ◌≡◌, List, [], ◌++◌, length, take, drop, replicate}
use lib.Seq.{length-take-le}
use lib.ListN.{take-append-drop}
use mathlib.Core.Path.{sym, ap, subst, ◌∙◌}
use Rattle.plate.specs.Plate.{most_digits, most_alternatives}

-- six bytes, of which the first n count and the others are b'0'
pub record DigitsOk (l : List ℕ) (n : ℕ) : Type 0 where
  pub small : n ≤ most_digits
  pub six : length l ≡ most_digits
  pub clear : drop n l ≡ replicate (most_digits - n) 48

-- "At the end zeros fill each code to six digits."
abbrev pub padded : List ℕ → List ℕ
padded ds = ds ++ replicate (most_digits - length ds) 48

-- Where so many are in use and what stands behind them is blank, these say the whole and their count again.
pub again : {A : Type 0} (size : ℕ) (blank : A) (l : List A) (n : ℕ) → n ≤ size → length l ≡ size → drop n l ≡ replicate (size - n) blank
    → (take n l ++ replicate (size - length (take n l)) blank ≡ l) × (length (take n l) ≡ n)
again {A} size blank l n small long clear =
    let c = length-take-le n l (subst (λ (m : ℕ). n ≤ m) (sym long) small) in
    (ap (λ (k : ℕ). take n l ++ replicate (size - k) blank) c ∙ ap (λ (r : List A). take n l ++ r) (sym clear) ∙ take-append-drop n l, c)

-- What is held says the bytes and the count again.
pub held_again : (l : List ℕ) (n : ℕ) → DigitsOk l n → (padded (take n l) ≡ l) × (length (take n l) ≡ n)
held_again l n ok = again most_digits 48 l n ok.small ok.six ok.clear

-- eight alternatives, of which the first n count and the others are empty
pub record FieldOk (l : List (List ℕ)) (n : ℕ) : Type 0 where
  pub small : n ≤ most_alternatives
  pub long : length l ≡ most_alternatives
  pub clear : drop n l ≡ replicate (most_alternatives - n) []

-- all eight, empty ones behind those that are held
abbrev pub filled : List (List ℕ) → List (List ℕ)
filled ls = ls ++ replicate (most_alternatives - length ls) []

-- What is held says the alternatives and the count again.
pub field_again : (l : List (List ℕ)) (n : ℕ) → FieldOk l n → (filled (take n l) ≡ l) × (length (take n l) ≡ n)
field_again l n ok = again most_alternatives [] l n ok.small ok.long ok.clear
