-- The codes of a name as list at 447 bytes gives them: the same whatever is lent, at most 64, each six digits, none twice. Assumes nothing.
use Prim.Native.Nat.{ℕ, zero, suc, ◌+◌, ◌*◌, ◌≤◌}
use mathlib.Core.Path.{◌≡◌, refl, sym, ap, ap₂, subst, ◌∙◌}
use mathlib.Core.Bool.{Bool, true, false, cond}
use mathlib.Core.Option.{none, some}
use mathlib.Core.List.{List, [], ◌∷◌, ◌++◌}
use native.Mathlib.Omega.{arith}
use lib.ListN.{length, take, drop, get_or, replicate, length-replicate}
use lib.Seq.{drop-drop}
use Rattle.laws.specs.Lists.{every}
use Rattle.laws.specs.Arrays.{Each}
use Rattle.laws.proofs.Once.{Distinct}
use Rattle.plate.specs.Plate.{Plate, good_rule}
use Rattle.plate.specs.Read.{plate_in, accepted, read_plate}
use Rattle.plate.proofs.Facts.{rules_good}
use Rattle.branches.specs.Branches.{Use, start, over, codes}
use Rattle.branches.proofs.Choice.{listed_once}
use Rattle.coder.specs.Walk.{uses}
use Rattle.coder.specs.Answer.{Coded, no_codes, joined, room, listing, listed, list_answer}
use Rattle.coder.proofs.Joined.{Six}
use Rattle.coder.proofs.Demands.{some_inj}
use Rattle.ward.specs.Ward.{list_bytes}
use Rattle.ward.proofs.Front.{front, others}
use Rattle.ward.proofs.Digits.{codes_six}
use Rattle.ward.proofs.Lines.{codes_long, by_answer, same_room, few_codes}
use Rattle.ward.specs.Codes.{SixDigits}
use Rattle.index.specs.Index.{full_list, codes_from}
use Rattle.std.specs.Prelude.{Result, Ok, Err}
use Rattle.coder.specs.Outcome.{told}
use Rattle.coder.specs.declared.CodeError.{CodeError}
use Rattle.index.specs.Held.{Listed, ListedIs}

-- ---- codes in a buffer

-- Codes in front of other bytes are read back.
codes_read : (cs : List (List ℕ)) → Six cs → (rest : List ℕ) → codes_from (length cs) (joined cs ++ rest) ≡ cs
codes_read [] six rest = refl
codes_read (c ∷ []) six rest = ap (λ (d : List ℕ). d ∷ []) (front c [] rest six.0)
codes_read (c ∷ d ∷ cs) six rest =
    ap₂ (λ (x : List ℕ) (l : List (List ℕ)). x ∷ l) (front c (d ∷ cs) rest six.0)
    (ap (codes_from (length (d ∷ cs))) (others c d cs rest six.0) ∙ codes_read (d ∷ cs) six.1 rest)

pub codes_count : (n : ℕ) (l : List ℕ) → length (codes_from n l) ≡ n
codes_count zero l = refl
codes_count (suc n) l = ap suc (codes_count n (drop 7 l))

-- The digits of code i begin at byte 7i.
pub code_here : (P : List ℕ → Type 0) (n : ℕ) (l : List ℕ) (i : ℕ) → suc i ≤ n → Each P (codes_from n l) → P (take 6 (drop (7 * i) l))
code_here P zero l i h e = absurd (omega arith)
code_here P (suc n) l zero h e = e.0
code_here P (suc n) l (suc i) h e = subst (λ (m : List ℕ). P (take 6 m)) (further i l) (code_here P n (drop 7 l) i (omega arith) e.1)
  where
    further : (i : ℕ) (l : List ℕ) → drop (7 * i) (drop 7 l) ≡ drop (7 * suc i) l
    further i l = drop-drop (7 * i) 7 l ∙ ap (λ (m : ℕ). drop m l) {x = 7 + 7 * i} {y = 7 * suc i} (omega arith)

pub code_is : (n : ℕ) (l : List ℕ) (i : ℕ) → suc i ≤ n → get_or (codes_from n l) i [] ≡ take 6 (drop (7 * i) l)
code_is zero l i h = absurd (omega arith)
code_is (suc n) l zero h = refl
code_is (suc n) l (suc i) h =
    code_is n (drop 7 l) i (omega arith) ∙ ap (take 6) (drop-drop (7 * i) 7 l ∙ ap (λ (m : ℕ). drop m l) {x = 7 + 7 * i} {y = 7 * suc i} (omega arith))

-- ---- an answer's codes

-- as they stand
abbrev standing : Coded → List (List ℕ)
standing a = codes_from a.count a.buffer

-- What list leaves for the uses of a name: its codes, or none.
listed_codes : (us : List Use) (lent : List ℕ) → standing (listed us lent) ≡ cond (over (room lent) us start) [] (codes us)
listed_codes us lent = go (over (room lent) us start)
  where
    go : (t : Bool) → standing (cond t (no_codes 12 lent) (listing (codes us) lent)) ≡ cond t [] (codes us)
    go true = refl
    go false = codes_read (codes us) (codes_long us) (drop (length (joined (codes us))) lent)

-- two answers with one number and the same codes
record Alike (a b : Coded) : Type 0 where
  pub number : a.number ≡ b.number
  pub count : a.count ≡ b.count
  pub place : a.place ≡ b.place
  pub codes : standing a ≡ standing b

any_lent : (plate name lent lent' : List ℕ) → length lent ≡ length lent' → Alike (list_answer plate name lent) (list_answer plate name lent')
any_lent plate name lent lent' e =
    by_answer plate name (λ (f : List ℕ → Coded). Alike (f lent) (f lent')) (λ number place. record { number = refl; count = refl; place = refl; codes = refl })
    (λ p read cs. go (uses p.rules cs))
  where
    by_room : (us : List Use) (t : Bool) → Alike (cond t (no_codes 12 lent) (listing (codes us) lent)) (cond t (no_codes 12 lent') (listing (codes us) lent'))
    by_room us true = record { number = refl; count = refl; place = refl; codes = refl }
    by_room us false = record {
      number = refl;
      count = refl;
      place = refl;
      codes =
          codes_read (codes us) (codes_long us) (drop (length (joined (codes us))) lent)
          ∙ sym (codes_read (codes us) (codes_long us) (drop (length (joined (codes us))) lent'));
    }

    go : (us : List Use) → Alike (listed us lent) (listed us lent')
    go us =
        subst (λ (t : Bool). Alike (listed us lent) (cond t (no_codes 12 lent') (listing (codes us) lent'))) (ap (λ (n : ℕ). over n us start) (same_room lent lent' e))
        (by_room us (over (room lent) us start))

-- At most 64.
few : (plate name lent : List ℕ) → length lent ≡ list_bytes → (list_answer plate name lent).count ≤ 64
few plate name lent e =
    by_answer plate name (λ (f : List ℕ → Coded). (f lent).count ≤ 64) (λ number place. omega arith)
    (λ p read cs. let us = uses p.rules cs in go us (over (room lent) us start) refl)
  where
    go : (us : List Use) (t : Bool) → over (room lent) us start ≡ t → (cond t (no_codes 12 lent) (listing (codes us) lent)).count ≤ 64
    go us true o = omega arith
    go us false o = few_codes us lent e o

-- Each is six digits.
digits : (plate name lent : List ℕ) → accepted plate ≡ true → Each SixDigits (standing (list_answer plate name lent))
digits plate name lent a =
    by_answer plate name (λ (f : List ℕ → Coded). Each SixDigits (standing (f lent))) (λ number place. tt)
    (λ p read cs. let us = uses p.rules cs in
    subst (Each SixDigits) (sym (listed_codes us lent)) (go p read cs (over (room lent) us start)))
  where
    good : (p : Plate) → read_plate plate ≡ some p → every good_rule p.rules ≡ true
    good p read =
        subst (λ (q : Plate). every good_rule q.rules ≡ true)
        (some_inj (plate_in plate) p (sym (ap (λ (t : Bool). cond t (some (plate_in plate)) none) a) ∙ read)) (rules_good plate a)

    go : (p : Plate) → read_plate plate ≡ some p → (cs : List ℕ) (t : Bool) → Each SixDigits (cond t [] (codes (uses p.rules cs)))
    go p read cs true = tt
    go p read cs false = codes_six p.rules (good p read) cs

-- None stands twice.
apart : (plate name lent : List ℕ) → Distinct (standing (list_answer plate name lent))
apart plate name lent =
    by_answer plate name (λ (f : List ℕ → Coded). Distinct (standing (f lent))) (λ number place. tt)
    (λ p read cs. let us = uses p.rules cs in subst Distinct (sym (listed_codes us lent)) (go us (over (room lent) us start)))
  where
    go : (us : List Use) (t : Bool) → Distinct (cond t [] (codes us))
    go us true = tt
    go us false = listed_once us

-- ---- list at 447 bytes

module _ (plate name : List ℕ) where
  zeros_long : length {A = ℕ} (replicate list_bytes 0) ≡ list_bytes
  zeros_long = length-replicate {A = ℕ} list_bytes 0

  pub full_few : (full_list plate name).count ≤ 64
  unfolding full_list
  full_few = few plate name (replicate list_bytes 0) zeros_long

  pub full_digits : accepted plate ≡ true → Each SixDigits (codes_from (full_list plate name).count (full_list plate name).buffer)
  unfolding full_list
  full_digits a = digits plate name (replicate list_bytes 0) a

  pub full_apart : Distinct (codes_from (full_list plate name).count (full_list plate name).buffer)
  unfolding full_list
  full_apart = apart plate name (replicate list_bytes 0)

  -- What list answers into any 447 bytes.
  listed_as : (lent : List ℕ) → accepted plate ≡ true → length lent ≡ list_bytes → (a : Coded) → a ≡ list_answer plate name lent → length a.buffer ≡ list_bytes
      → Listed plate name a.buffer a.count a.number a.place
  unfolding full_list
  listed_as lent h long a e as_long =
      let same = subst (λ (x : Coded). Alike x (list_answer plate name (replicate list_bytes 0))) (sym e) (any_lent plate name lent (replicate list_bytes 0) (long ∙ sym zeros_long)) in
      record {
        refused = same.number;
        placed = same.place;
        counted = same.count;
        codes = same.codes ∙ ap (λ (n : ℕ). codes_from n (list_answer plate name (replicate list_bytes 0)).buffer) (sym same.count);
        digits = subst (λ (x : Coded). Each SixDigits (standing x)) (sym e) (digits plate name lent h);
        few = subst (λ (x : Coded). x.count ≤ 64) (sym e) (few plate name lent long);
        long = as_long;
      }

  pub is_listed : (lent : List ℕ) → accepted plate ≡ true → length lent ≡ list_bytes → (r : Result ℕ CodeError) (out : List ℕ) → told r out ≡ list_answer plate name lent
      → length out ≡ list_bytes → ListedIs plate name out r
  is_listed lent h long (Ok n) out e as_long = listed_as lent h long (told (Ok n) out) e as_long
  is_listed lent h long (Err x) out e as_long = listed_as lent h long (told (Err x) out) e as_long
