-- Demand 2, proved of the definitions: what is built is the plate that the text says; what is listed or encoded is written at its places. Assumes nothing.
use Prim.Native.Nat.{ℕ, zero, suc, ◌-◌, ◌+◌, ◌*◌, ◌/◌, ◌<◌, ◌≤◌}
use mathlib.Core.Path.{◌≡◌, refl, sym, ap, subst, ◌∙◌}
use mathlib.Core.Logic.{inl, inr}
use mathlib.Core.Bool.{Bool, true, false, ◌&&◌, false≢true}
use mathlib.Core.List.{List, [], ◌∷◌, ◌++◌, map, append-nil, append_assoc}
use native.Mathlib.Omega.{arith}
use borrow.Author.Tests.{leb-true, ltb-false}
use lib.Dec.{ltb, leb}
use lib.ListN.{length, drop, length-map}
use Rattle.laws.specs.Lists.{In, every, same}
use Rattle.laws.proofs.Once.{once_short}
use Rattle.laws.specs.Arrays.{Each}
use Rattle.laws.proofs.Tests.{by_test}
use Rattle.laws.proofs.Parts.{by_lt}
use Rattle.chars.specs.Utf8.{is_text}
use Rattle.rule_text.specs.Items.{Saying, Item, items}
use Rattle.plate.specs.Plate.{Plate, good_plate}
use Rattle.plate.specs.Written.{plate_bytes}
use Rattle.plate.proofs.Packed.{Bytes}
use Rattle.plate.proofs.Round.{good_is}
use Rattle.book.specs.Book.{Book, blank, plate_of}
use Rattle.builder.specs.Build.{enter, fault, Verdict, unless, verdict, Built, refusal, delivered, answered, nonzero, build_answer}
use Rattle.builder.specs.Build.Verdict.{Faulty, Fine}
use Rattle.builder.proofs.Goods.{build_good, build_accepted}
use Rattle.branches.specs.Branches.{Use, start, run, code, codes}
use Rattle.branches.specs.Choice.{Chosen, Filled, yielded, first, firsts}
use Rattle.coder.specs.Name.{prepared}
use Rattle.coder.specs.Answer.{joined, room, listing, list_answer, encode_answer}
use Rattle.coder.specs.Given.{uses_in}
use Rattle.coder.proofs.Joined.{Six}
use Rattle.coder.proofs.Demands.{some_inj, filled, gives, encodes}
use Rattle.ward.specs.Codes.{SixDigits}
use Rattle.ward.proofs.Digits.{yielded_six, codes_six}
use Rattle.promises.specs.Said.{sayings, plate_said, IsPlate}
use Rattle.promises.specs.When.{Check, Overfull, NameNumber}
use Rattle.promises.specs.Demands.{Writes, BuildGives, ListGives, EncodeGives, OnePlate}
use Rattle.promises.proofs.Said.{Holds, enter_holds}
use Rattle.promises.proofs.CodedWhen.{plate_read, read_plate_lem, list_checks, encode_checks}
use Rattle.promises.proofs.Places.{each_place, code_placed, bar_placed, as_lent, as_long}

-- ---- build

-- A verdict without fault is the book of all items.
book : Book → Verdict → Book
book d (Faulty n place) = d
book d (Fine b) = b

is_fine : Verdict → Bool
is_fine (Faulty n place) = false
is_fine (Fine b) = true

fine_holds : (before : List Saying) (b : Book) (is : List Item) (d : Book) → Holds before b → verdict b is ≡ Fine d → Holds (before ++ sayings is) d
unfolding verdict book is_fine
fine_holds before b [] d h e = subst (λ (l : List Saying). Holds l d) (sym (append-nil before)) (subst (Holds before) (ap (book b) e) h)
fine_holds before b (i ∷ is) d h e =
    let s = i.saying in
    subst (λ (l : List Saying). Holds l d) (append_assoc before (s ∷ []) (sayings is))
    (fine_holds (before ++ (s ∷ [])) (enter s b) is d (enter_holds before s b h) (go (fault s b) (verdict (enter s b) is) e))
  where
    go : (n : ℕ) (v : Verdict) → unless n i.place v ≡ Fine d → v ≡ Fine d
    go zero v x = x
    go (suc n) v x = absurd (false≢true (ap is_fine x))

-- the plate in front, the bytes behind as lent
abbrev whole : List ℕ → List ℕ → Built
whole plate lent = record { number = 0; line = 0; length = length plate; buffer = plate ++ drop (length plate) lent }

-- An answer of 0 passed the tests of the whole text.
abbrev Judged : List ℕ → Bool → List ℕ → Built → Type 0
Judged text flag lent a = a.number ≡ 0 → (is_text text && every nonzero text ≡ true) × (a ≡ answered text flag lent (verdict blank (items text)))

judged : (text : List ℕ) (flag : Bool) (lent : List ℕ) → Judged text flag lent (build_answer text flag lent)
unfolding build_answer
judged text flag lent =
    by_test (Judged text flag lent) (ltb 65536 (length text)) (refusal 1 0 lent) _ (λ e n. absurd (omega arith)) λ e.
    by_test (Judged text flag lent) (is_text text && every nonzero text) _ (refusal 2 0 lent) (λ h n. (h, refl)) (λ h n. absurd (omega arith))

-- A plate that was delivered is whole, and fits.
abbrev Fitting : List ℕ → List ℕ → Built → Type 0
Fitting s lent a = a.number ≡ 0 → (a ≡ whole s lent) × (length s ≤ length lent)

fitting : (s lent : List ℕ) → Fitting s lent (delivered s lent)
fitting s lent =
    by_test (Fitting s lent) (ltb (length lent) (length s)) (refusal 9 0 lent) (whole s lent) (λ t n. absurd (omega arith))
    (λ t n. (refl, ltb-false (length lent) (length s) t))

pub build_gives : (text : List ℕ) (flag : Bool) (lent : List ℕ) → Bytes text → BuildGives text flag lent (build_answer text flag lent)
build_gives text flag lent bytes n =
    let a = build_answer text flag lent in
    let j = judged text flag lent n in
    let x = build_accepted text flag lent bytes n in
    let b = x.0 in
    let h = fine_holds [] blank (items text) b (record { rules = refl; read = refl; foldings = refl }) x.1 in
    let said : plate_of flag b ≡ plate_said flag text = λ i. record { flag = flag; foldings = h.foldings i; rules = h.rules i } in
    let made : a ≡ delivered (plate_bytes (plate_of flag b)) lent = j.1 ∙ ap (answered text flag lent) x.1 in
    let made' : a ≡ delivered (plate_bytes (plate_said flag text)) lent = made ∙ ap (λ (p : Plate). delivered (plate_bytes p) lent) said in
    let f = fitting (plate_bytes (plate_said flag text)) lent (ap (λ (c : Built). c.number) (sym made') ∙ n) in
    let is : a ≡ whole (plate_bytes (plate_said flag text)) lent = made' ∙ f.0 in
    let long : a.length ≡ length (plate_bytes (plate_said flag text)) = ap (λ (c : Built). c.length) is in
    record {
      good = ap good_plate (sym said) ∙ build_good text bytes j.0 b x.1 flag;
      long = long;
      fits = subst (λ (m : ℕ). m ≤ length lent) (sym long) f.1;
      written = ap (λ (c : Built). c.buffer) is;
    }

-- ---- what a listing writes

pub six : (cs : List (List ℕ)) → Each SixDigits cs → Six cs
six [] e = tt
six (c ∷ cs) e = (e.0.0, six cs e.1)

pub writes : (cs : List (List ℕ)) (lent : List ℕ) → Each SixDigits cs → 7 * length cs - 1 ≤ length lent → Writes cs lent (listing cs lent)
writes cs lent e fits =
    let s = six cs e in
    let rest = drop (length (joined cs)) lent in
    record {
      counted = refl;
      long = as_long cs s lent fits;
      placed = λ k h. code_placed cs s rest k h;
      digits = λ k h. subst SixDigits (sym (code_placed cs s rest k h)) (each_place SixDigits [] cs e k h);
      bars = λ k h. bar_placed cs s rest k h;
      behind = as_lent cs s lent fits;
    }

-- ---- what passed the checks

passed : {w else : Type 0} (m n : ℕ) → 0 < m → n ≡ 0 → Check n m w else → (w → ⊥) × else
passed m n h e (inl a) = let f = a.1 in absurd (omega arith)
passed m n h e (inr a) = a

name_passed : (name : List ℕ) (full : Type 0) (n : ℕ) → n ≡ 0 → NameNumber name full n → full → ⊥
name_passed name full n e c =
    let a = passed 1 n (omega arith) e c in
    let b = passed 2 n (omega arith) e a.1 in
    let d = passed 11 n (omega arith) e b.1 in
    (passed 12 n (omega arith) e d.1).0

-- ---- encode and list

room_holds : (lent : List ℕ) (n : ℕ) → n ≤ room lent → 7 * n - 1 ≤ length lent
unfolding room
room_holds lent n h =
    let sevens : ℕ = (length lent + 1) / 7 in
    let low : room lent ≤ sevens = by_test (λ (m : ℕ). m ≤ sevens) (leb 64 sevens) 64 sevens (λ e. leb-true 64 sevens e) (λ e. omega arith) in
    omega arith

module _ (plate name lent : List ℕ) (bytes : Bytes plate) where
  -- The branches of an answered list fit the room.
  fits : (p : Plate) → IsPlate p plate → (list_answer plate name lent).number ≡ 0 → length (codes (uses_in p name)) ≤ room lent
  fits p w n =
      let a = passed 10 (list_answer plate name lent).number (omega arith) n (list_checks plate name lent bytes) in
      let never = name_passed name (Overfull plate name lent) (list_answer plate name lent).number n a.1 in
      let many = length-map (run (uses_in p name) start) code in
      let fewer = once_short same (map code (run (uses_in p name) start)) in
      by_lt (room lent) (length (run (uses_in p name) start))
      (λ h. absurd (never (record { p = p; is = w; done = uses_in p name; more = []; cut = sym (append-nil (uses_in p name)); longer = h }))) (λ h. omega arith)

  pub list_gives : ListGives plate name lent (list_answer plate name lent)
  list_gives n =
      let g = gives plate name lent n in
      let p = g.0 in
      let w = read_plate_lem plate p bytes g.2.read in
      let is : list_answer plate name lent ≡ listing (codes (uses_in p name)) lent = g.2.written ∙ ap (λ (cs : List (List ℕ)). listing cs lent) g.2.all in
      let six = codes_six p.rules (good_is p w.0).rules (prepared p name) in
      let cs = codes (uses_in p name) in
      (p, w, subst (Writes cs lent) (sym is) (writes cs lent six (room_holds lent (length cs) (fits p w n))))

  -- The first alternatives are a choice.
  firsts_chosen : (us : List Use) → Filled us → Chosen us (firsts us)
  firsts_chosen [] f = tt
  firsts_chosen (u ∷ us) f = (one u.alternatives f.0, firsts_chosen us f.1)
    where
      one : (l : List (List ℕ)) → 0 < length l → In (first l) l
      one [] h = absurd (omega arith)
      one (a ∷ l) h = inl refl

  pub encode_gives : EncodeGives plate name lent (encode_answer plate name lent)
  encode_gives n =
      let g = encodes plate name lent n in
      let p = g.0 in
      let us = uses_in p name in
      let w = read_plate_lem plate p bytes g.1 in
      let a = passed 10 (encode_answer plate name lent).number (omega arith) n (encode_checks plate name lent bytes) in
      let never = name_passed name (length lent < 6) (encode_answer plate name lent).number n a.1 in
      let six = yielded_six p.rules (good_is p w.0).rules (prepared p name) (firsts us) (firsts_chosen us (filled plate name p g.1)) in
      let long : 7 * 1 - 1 ≤ length lent = by_lt (length lent) 6 (λ h. absurd (never h)) (λ h. omega arith) in
      (p, w, subst (Writes (yielded us (firsts us) ∷ []) lent) (sym g.2) (writes (yielded us (firsts us) ∷ []) lent (six, tt) long))

pub one_plate : OnePlate
one_plate bytes p q v w = some_inj p q (sym (plate_read bytes p v) ∙ plate_read bytes q w)
