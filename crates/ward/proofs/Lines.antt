-- The line of a name: it is the same whatever 447 bytes list is lent, and fits them. Assumes nothing.
use Prim.Native.Nat.{ℕ, ◌+◌, ◌-◌, ◌*◌, ◌/◌, ◌≤◌}
use mathlib.Core.Path.{◌≡◌, refl, sym, ap, subst, ◌∙◌}
use mathlib.Core.Logic.{inl, inr}
use mathlib.Core.Bool.{Bool, true, false, cond, not, ◌||◌}
use mathlib.Core.Option.{Option, none, some}
use mathlib.Core.List.{List, [], ◌∷◌, ◌++◌, map}
use native.Mathlib.Omega.{arith}
use borrow.Author.Tests.{eq-eqb}
use lib.Dec.{eqb}
use lib.ListN.{length, take, drop, replicate, length-append, length-take, length-replicate, length-map}
use lib.Seq.{take_at}
use Rattle.laws.specs.Lists.{In, same}
use Rattle.laws.proofs.Once.{once_short}
use Rattle.laws.proofs.Tests.{by_test}
use Rattle.plate.specs.Plate.{Plate}
use Rattle.plate.specs.Read.{read_plate}
use Rattle.branches.specs.Branches.{Branch, Use, ends_with, extend, start, run, over, code, codes}
use Rattle.branches.specs.Choice.{follow, yielded}
use Rattle.branches.proofs.Choice.{listed_chosen, first_listed}
use Rattle.branches.proofs.Room.{run_fits}
use Rattle.coder.specs.Name.{Named, named}
use Rattle.coder.specs.Name.Named.{Refused, Chars}
use Rattle.coder.specs.Walk.{uses}
use Rattle.coder.specs.Answer.{Coded, no_codes, no_codes_at, joined, smaller, listing, room, listed, answered, plated, list_answer}
use Rattle.coder.specs.Given.{uses_in}
use Rattle.coder.proofs.Joined.{Six, length_joined}
use Rattle.coder.proofs.Demands.{filled, gives}
use Rattle.ward.specs.Ward.{list_bytes, refused_line, line_of}
use Rattle.ward.specs.Puts.{Puts}

-- ---- codes have six digits

-- A branch never has more than six.
follow_short : (us : List Use) (choice : List (List ℕ)) (b : Branch) → length b.digits ≤ 6 → length (follow us choice b).digits ≤ 6
unfolding extend
follow_short [] choice b h = h
follow_short (u ∷ us) [] b h = h
follow_short (u ∷ us) (a ∷ choice) b h =
    follow_short us choice (extend u.anyway a b)
    (by_test (λ (l : List ℕ). length l ≤ 6) (u.anyway || not (ends_with b.last a)) (take 6 (b.digits ++ a)) b.digits
    (λ e. let n = length-take 6 (b.digits ++ a) in omega arith) (λ e. h))

yielded_long : (us : List Use) (choice : List (List ℕ)) → length (yielded us choice) ≡ 6
yielded_long us choice =
    let b = follow us choice (record { digits = []; last = [] }) in
    let h = follow_short us choice (record { digits = []; last = [] }) (omega arith) in
    length-append b.digits (replicate (6 - length b.digits) 48)
    ∙ ap (λ (m : ℕ). length b.digits + m) (length-replicate (6 - length b.digits) 48)
    ∙ omega arith

pub codes_long : (us : List Use) → Six (codes us)
codes_long us = all (codes us) (λ k h. let r = listed_chosen us k h in ap length r.2 ∙ yielded_long us r.0)
  where
    all : (l : List (List ℕ)) → ((k : List ℕ) → In k l → length k ≡ 6) → Six l
    all [] h = tt
    all (k ∷ l) h = (h k (inl refl), all l (λ j i. h j (inr i)))

-- A bar fewer than codes.
joined_long : (us : List Use) → length (joined (codes us)) ≡ 7 * length (codes us) - 1
joined_long us = length_joined (codes us) (codes_long us)

-- ---- what list answers for a name, whatever is lent: a refusal, or what it lists

pub by_answer : (plate name : List ℕ) (P : (List ℕ → Coded) → Type 0) → ((number place : ℕ) → P (no_codes_at number place))
    → ((p : Plate) → read_plate plate ≡ some p → (cs : List ℕ) → P (listed (uses p.rules cs))) → P (list_answer plate name)
unfolding list_answer
by_answer plate name P refuses lists = by_plate (read_plate plate) refl
  where
    by_name : (p : Plate) → read_plate plate ≡ some p → (n : Named) → P (answered listed p.rules n)
    by_name p e (Refused number place) = refuses number place
    by_name p e (Chars cs) = lists p e cs

    by_plate : (o : Option Plate) → read_plate plate ≡ o → P (plated listed o name)
    by_plate none e = refuses 10 0
    by_plate (some p) e = by_name p e (named p name)

-- The line of what it lists: its codes, or that there is no room.
listed_line : (us : List Use) (lent : List ℕ) → line_of (listed us lent) ≡ cond (over (room lent) us start) (refused_line 12) (joined (codes us))
listed_line us lent = go (over (room lent) us start)
  where
    go : (t : Bool) → line_of (cond t (no_codes 12 lent) (listing (codes us) lent)) ≡ cond t (refused_line 12) (joined (codes us))
    go true = refl
    go false = take_at (joined (codes us)) (drop (length (joined (codes us))) lent) (7 * length (codes us) - 1) (joined_long us)

-- ---- the buffer does not matter

pub same_room : (lent lent' : List ℕ) → length lent ≡ length lent' → room lent ≡ room lent'
unfolding room
same_room lent lent' e = ap (λ (n : ℕ). smaller 64 ((n + 1) / 7)) e

pub any_buffer : (plate name lent lent' : List ℕ) → length lent ≡ length lent' → line_of (list_answer plate name lent) ≡ line_of (list_answer plate name lent')
any_buffer plate name lent lent' e =
    by_answer plate name (λ (f : List ℕ → Coded). line_of (f lent) ≡ line_of (f lent')) (λ number place. refl) (λ p read cs. go (uses p.rules cs))
  where
    go : (us : List Use) → line_of (listed us lent) ≡ line_of (listed us lent')
    go us = listed_line us lent ∙ ap (λ (n : ℕ). cond (over n us start) (refused_line 12) (joined (codes us))) (same_room lent lent' e) ∙ sym (listed_line us lent')

-- Where list refuses, every byte is as lent.
pub refused_lent : (plate name lent : List ℕ) → ((list_answer plate name lent).number ≡ 0 → ⊥) → (list_answer plate name lent).buffer ≡ lent
refused_lent plate name lent =
    by_answer plate name (λ (f : List ℕ → Coded). ((f lent).number ≡ 0 → ⊥) → (f lent).buffer ≡ lent) (λ number place h. refl)
    (λ p read cs h. let us = uses p.rules cs in go us (over (room lent) us start) h)
  where
    go : (us : List Use) (t : Bool) → ((cond t (no_codes 12 lent) (listing (codes us) lent)).number ≡ 0 → ⊥) → (cond t (no_codes 12 lent) (listing (codes us) lent)).buffer ≡ lent
    go us true h = refl
    go us false h = absurd (h refl)

-- ---- a line fits

-- Where list gives codes, their line stands in front of what it leaves, and behind it what was lent.
pub codes_stand : (plate name lent : List ℕ) → let a = list_answer plate name lent in a.number ≡ 0 → Puts (line_of a) (7 * a.count - 1) lent a.buffer
codes_stand plate name lent =
    by_answer plate name (λ (f : List ℕ → Coded). (f lent).number ≡ 0 → Puts (line_of (f lent)) (7 * (f lent).count - 1) lent (f lent).buffer) none_stand
    (λ p read cs. let us = uses p.rules cs in some_stand us (over (room lent) us start))
  where
    none_stand : (number place : ℕ) → number ≡ 0 → Puts (line_of (no_codes_at number place lent)) 0 lent lent
    none_stand number place e = subst (λ (l : List ℕ). Puts l 0 lent lent) (ap (λ (t : Bool). cond t [] (refused_line number)) (sym (eq-eqb number 0 e))) (record { count = refl; is = refl })

    some_stand : (us : List Use) (t : Bool) → let a = cond t (no_codes 12 lent) (listing (codes us) lent) in a.number ≡ 0 → Puts (line_of a) (7 * a.count - 1) lent a.buffer
    some_stand us true e = absurd (omega arith)
    some_stand us false e =
        let cs = joined (codes us) in
        subst (λ (l : List ℕ). Puts l (7 * length (codes us) - 1) lent (cs ++ drop (length cs) lent))
        (sym (take_at cs (drop (length cs) lent) (7 * length (codes us) - 1) (joined_long us))) (record { count = sym (joined_long us); is = refl })

-- Room for 64 codes: no list has more branches, so none has more codes.
pub few_codes : (us : List Use) (lent : List ℕ) → length lent ≡ list_bytes → over (room lent) us start ≡ false → length (codes us) ≤ 64
unfolding room
few_codes us lent e o =
    let n = run_fits (room lent) us start o in
    let m : room lent ≡ 64 = ap (λ (k : ℕ). smaller 64 ((k + 1) / 7)) e in
    let k = length-map (run us start) code in
    let fewer = once_short same (map code (run us start)) in
    omega arith

pub given_fits : (plate name lent : List ℕ) → length lent ≡ list_bytes → length (line_of (list_answer plate name lent)) ≤ list_bytes
given_fits plate name lent e =
    by_answer plate name (λ (f : List ℕ → Coded). length (line_of (f lent)) ≤ list_bytes)
    (λ number place. by_test (λ (l : List ℕ). length l ≤ list_bytes) (eqb number 0) [] (refused_line number) (λ t. omega arith) (λ t. omega arith))
    (λ p read cs. go (uses p.rules cs))
  where
    go : (us : List Use) → length (line_of (listed us lent)) ≤ list_bytes
    go us =
        subst (λ (l : List ℕ). length l ≤ list_bytes) (sym (listed_line us lent))
        (by_test (λ (l : List ℕ). length l ≤ list_bytes) (over (room lent) us start) (refused_line 12) (joined (codes us)) (λ t. omega arith)
        (λ t. let n = joined_long us in let m = few_codes us lent e t in omega arith))

-- A name that is not refused has a code.
pub some_code : (plate name lent : List ℕ) → (list_answer plate name lent).number ≡ 0 → 1 ≤ (list_answer plate name lent).count
some_code plate name lent e =
    let g = gives plate name lent e in
    let us = uses_in g.0 name in
    let first = ap length (first_listed us (filled plate name g.0 g.2.read)).1 in
    let all = ap length g.2.all in
    let n = ap (λ (a : Coded). a.count) g.2.written in
    omega arith
