-- The number that digits write: read digit by digit from a line, at most 999,999 of six, and told apart by the digits. Assumes nothing.
use Prim.Native.Nat.{ℕ, zero, suc, ◌+◌, ◌-◌, ◌*◌, ◌<◌, ◌≤◌}
use mathlib.Core.Path.{◌≡◌, refl, sym, ap, ap₂, ◌∙◌}
use mathlib.Core.Bool.{true}
use mathlib.Core.List.{List, [], ◌∷◌}
use native.Mathlib.Omega.{arith}
use native.Mathlib.Numerals.{add-one}
use lib.ListN.{length, take, drop, get_or, length-take, length-drop, drop_of_length-le}
use lib.Seq.{drop-cons}
use Rattle.laws.specs.Lists.{every}
use Rattle.laws.proofs.Tests.{and_true, between_true}
use Rattle.chars.specs.Digits.{digit}
use Rattle.ward.specs.Codes.{SixDigits}
use Rattle.entries.specs.Entries.{most_code}
use Rattle.index.specs.Index.{number_from, code_number}

is_digit : (d : ℕ) → digit d ≡ true → (48 ≤ d) × (d ≤ 57)
is_digit d h = between_true 48 57 d h

-- ---- read from a line

digit_in : (l : List ℕ) (j : ℕ) → every digit l ≡ true → j < length l → (48 ≤ get_or l j 0) × (get_or l j 0 ≤ 57)
digit_in [] j h g = absurd (omega arith)
digit_in (x ∷ l) zero h g = is_digit x (and_true (digit x) (every digit l) h).0
digit_in (x ∷ l) (suc j) h g = digit_in l j (and_true (digit x) (every digit l) h).1 (omega arith)

module _ (l : List ℕ) (at : ℕ) (six : SixDigits (take 6 (drop at l))) where
  -- All six stand in the line.
  pub within : at + 6 ≤ length l
  within = let n = six.0 in let m = length-take 6 (drop at l) in let k = length-drop at l in omega arith

-- ---- how large

-- A digit more: ten times as many.
bounded : (d n m : ℕ) → digit d ≡ true → n ≤ m → n * 10 + (d - 48) ≤ m * 10 + 9
bounded d n m h g = let b = is_digit d h in let low = b.0 in let high = b.1 in omega arith

pub small : (c : List ℕ) → SixDigits c → code_number c ≤ most_code
small [] six = let n = six.0 in absurd (omega arith)
small (a ∷ []) six = let n = six.0 in absurd (omega arith)
small (a ∷ b ∷ []) six = let n = six.0 in absurd (omega arith)
small (a ∷ b ∷ c ∷ []) six = let n = six.0 in absurd (omega arith)
small (a ∷ b ∷ c ∷ d ∷ []) six = let n = six.0 in absurd (omega arith)
small (a ∷ b ∷ c ∷ d ∷ e ∷ []) six = let n = six.0 in absurd (omega arith)
small (a ∷ b ∷ c ∷ d ∷ e ∷ f ∷ g ∷ l) six = let n = six.0 in absurd (omega arith)
small (a ∷ b ∷ c ∷ d ∷ e ∷ f ∷ []) six =
    let p = and_true (digit a) (every digit (b ∷ c ∷ d ∷ e ∷ f ∷ [])) six.1 in
    let q = and_true (digit b) (every digit (c ∷ d ∷ e ∷ f ∷ [])) p.1 in
    let r = and_true (digit c) (every digit (d ∷ e ∷ f ∷ [])) q.1 in
    let s = and_true (digit d) (every digit (e ∷ f ∷ [])) r.1 in
    let t = and_true (digit e) (every digit (f ∷ [])) s.1 in
    let u = and_true (digit f) true t.1 in
    bounded f _ 99999 u.0 (bounded e _ 9999 t.0 (bounded d _ 999 s.0 (bounded c _ 99 r.0 (bounded b _ 9 q.0 (bounded a 0 0 p.0 (omega arith))))))

-- ---- digit by digit

grows : (n : ℕ) (l : List ℕ) → n ≤ number_from n l
grows n [] = omega arith
grows n (x ∷ l) = omega (arith, grows (n * 10 + (x - 48)) l)

-- The digits from place i on are left, and n was written before them: the next is a digit, and no number on the way is larger than the whole.
pub record Turn (ds : List ℕ) (i n d : ℕ) : Type 0 where
  pub is_digit : 48 ≤ d
  pub few : n * 10 + (d - 48) ≤ most_code
  pub next : number_from (n * 10 + (d - 48)) (drop (i + 1) ds) ≡ code_number ds

pub turn : (ds : List ℕ) (i n : ℕ) → SixDigits ds → i < length ds → number_from n (drop i ds) ≡ code_number ds → Turn ds i n (get_or ds i 0)
turn ds i n six h f =
    let m = n * 10 + (get_or ds i 0 - 48) in
    let next : number_from m (drop (i + 1) ds) ≡ code_number ds =
    ap (λ (k : ℕ). number_from m (drop k ds)) (add-one i) ∙ sym (ap (number_from n) (drop-cons ds i 0 h)) ∙ f in
    record { is_digit = (digit_in ds i six.1 h).0; few = omega (arith, grows m (drop (i + 1) ds), next, small ds six); next = next }

pub written : (ds : List ℕ) (i n : ℕ) → SixDigits ds → length ds ≤ i → number_from n (drop i ds) ≡ code_number ds → (n ≡ code_number ds) × (n ≤ most_code)
written ds i n six h f =
    let e : n ≡ code_number ds = ap (number_from n) (sym (drop_of_length-le ds h)) ∙ f in
    (e, omega (arith, e, small ds six))

-- ---- told apart

-- Digits of one length that write the same number, behind numbers, are the same behind the same.
told_apart : (l l' : List ℕ) (n n' : ℕ) → every digit l ≡ true → every digit l' ≡ true → length l ≡ length l' → number_from n l ≡ number_from n' l' → (n ≡ n') × (l ≡ l')
told_apart [] [] n n' h h' e f = (f, refl)
told_apart [] (x ∷ l') n n' h h' e f = absurd (omega arith)
told_apart (x ∷ l) [] n n' h h' e f = absurd (omega arith)
told_apart (x ∷ l) (y ∷ l') n n' h h' e f =
    let a = and_true (digit x) (every digit l) h in
    let b = and_true (digit y) (every digit l') h' in
    let below = told_apart l l' (n * 10 + (x - 48)) (n' * 10 + (y - 48)) a.1 b.1 (omega arith) f in
    let first = below.0 in
    let one = is_digit x a.0 in
    let two = is_digit y b.0 in
    let low = one.0 in
    let high = one.1 in
    let low' = two.0 in
    let high' = two.1 in
    (omega arith, ap₂ (λ (z : ℕ) (m : List ℕ). z ∷ m) (same_digit n n' x y low high low' high' first) below.1)
  where
    same_digit : (n n' x y : ℕ) → 48 ≤ x → x ≤ 57 → 48 ≤ y → y ≤ 57 → n * 10 + (x - 48) ≡ n' * 10 + (y - 48) → x ≡ y
    same_digit n n' x y a b c d e = omega arith

pub same_code : (c d : List ℕ) → SixDigits c → SixDigits d → code_number c ≡ code_number d → c ≡ d
same_code c d h g e = (told_apart c d 0 0 h.1 g.1 (h.0 ∙ sym g.0) e).1
