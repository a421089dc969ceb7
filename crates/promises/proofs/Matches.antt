-- Demand 3, proved of what calls leave: more never loses a match. Each part rests on what list writes (Gives.antt) and on the laws of branches and choices.
-- Assumes nothing.
use Prim.Native.Nat.{ℕ, ◌-◌, ◌*◌, ◌<◌}
use mathlib.Core.Path.{◌≡◌, refl, sym, ap, subst, ◌∙◌}
use mathlib.Core.List.{List, [], ◌∷◌, ◌++◌}
use native.Mathlib.Omega.{arith}
use lib.ListN.{length, take, drop, get_or}
use lib.Seq.{take_at}
use Rattle.laws.specs.Lists.{In}
use Rattle.laws.specs.Arrays.{Each}
use Rattle.plate.specs.Plate.{Plate}
use Rattle.plate.proofs.Packed.{Bytes}
use Rattle.plate.proofs.Round.{good_is}
use Rattle.branches.specs.Branches.{codes}
use Rattle.branches.specs.Choice.{yielded, firsts, Starts, Wider}
use Rattle.branches.proofs.Choice.{chosen_listed, listed_chosen, first_listed, wider_listed, wider_first}
use Rattle.coder.specs.Name.{prepared}
use Rattle.coder.specs.Walk.{uses}
use Rattle.coder.specs.Answer.{Coded, listing, joined, list_answer, encode_answer}
use Rattle.coder.specs.Given.{uses_in}
use Rattle.coder.proofs.Demands.{filled, gives, longer, encode_gives}
use Rattle.ward.specs.Codes.{SixDigits}
use Rattle.ward.proofs.Digits.{codes_six}
use Rattle.coder.proofs.Wider.{uses_wider}
use Rattle.promises.specs.Demands.{code_at, Writes, ListsChoices, EncodesFirst, WiderPlate, PlatesKeep, GivenAgain}
use Rattle.promises.proofs.CodedWhen.{plate_read, read_plate_lem}
use Rattle.coder.proofs.Joined.{length_joined}
use Rattle.promises.proofs.Places.{in_place, place_in}
use Rattle.promises.proofs.Gives as goal
use Rattle.promises.proofs.Gives.{six, list_gives, one_plate}

-- ---- codes at their places

module _ (cs : List (List ℕ)) (lent : List ℕ) (a : Coded) (w : Writes cs lent a) where
  -- The code at a place is one of the list,
  place_listed : (k : ℕ) → k < a.count → In (code_at a k) cs
  place_listed k h =
      let n = w.counted in
      subst (λ (c : List ℕ). In c cs) (sym (w.placed k h)) (place_in [] cs k (omega arith))

  -- and each of the list stands at some place,
  listed_place : (c : List ℕ) → In c cs → (k : ℕ) × (k < a.count) × (code_at a k ≡ c)
  listed_place c i =
      let r = in_place c [] cs i in
      let b = r.1 in
      let n = w.counted in
      let h : r.0 < a.count = omega arith in
      (r.0, h, w.placed r.0 h ∙ r.2)

  -- the first at the first.
  first_place : (c : List ℕ) → Starts c cs → code_at a 0 ≡ c
  first_place c s =
      let n = w.counted ∙ ap length s.1 in
      let h : 0 < a.count = omega arith in
      w.placed 0 h ∙ ap (λ (l : List (List ℕ)). get_or l 0 []) s.1

-- ---- a, b

module _ (plate name lent : List ℕ) (bytes : Bytes plate) where
  pub lists_choices : ListsChoices plate name (list_answer plate name lent)
  lists_choices n =
      let a = list_answer plate name lent in
      let g = list_gives plate name lent bytes n in
      let us = uses_in g.0 name in (
        g.0,
        g.1,
        record {
          only = λ k h. listed_chosen us (code_at a k) (place_listed (codes us) lent a g.2 k h);
          every = λ choice c. listed_place (codes us) lent a g.2 (yielded us choice) (chosen_listed us choice c);
        },
      )

  pub encodes_first : (other : List ℕ) → EncodesFirst (list_answer plate name lent) other (encode_answer plate name other)
  encodes_first other n h =
      let a = list_answer plate name lent in
      let e = encode_answer plate name other in
      let g = list_gives plate name lent bytes n in
      let p = g.0 in
      let us = uses_in p name in
      let got = gives plate name lent n in
      let is = encode_gives plate name lent got.0 got.1 got.2 other h in
      let zero : e.number ≡ 0 = ap (λ (c : Coded). c.number) is in
      let one : e.count ≡ 1 = ap (λ (c : Coded). c.count) is in
      let w = goal.encode_gives plate name other bytes zero in
      let same = one_plate plate w.0 p w.1 g.1 in
      let f = first_listed us (filled plate name p (plate_read plate p g.1)) in
      let alone = first_place (yielded (uses_in w.0 name) (firsts (uses_in w.0 name)) ∷ []) other e w.2 (yielded (uses_in w.0 name) (firsts (uses_in w.0 name))) ([], refl) in (
        zero,
        one,
        alone ∙ ap (λ (q : Plate). yielded (uses_in q name) (firsts (uses_in q name))) same ∙ sym (first_place (codes us) lent a g.2 (yielded us (firsts us)) f),
      )

-- ---- c

prepared_same : (p q : Plate) (name : List ℕ) → q.flag ≡ p.flag → q.foldings ≡ p.foldings → prepared q name ≡ prepared p name
prepared_same p q name e f i = prepared (record { flag = e i; foldings = f i; rules = [] }) name

plate_uses : (p q : Plate) (name : List ℕ) → WiderPlate p q → Wider (uses_in p name) (uses_in q name)
plate_uses p q name w =
    subst (λ (x : List ℕ). Wider (uses_in p name) (uses q.rules x)) (sym (prepared_same p q name w.0 w.1)) (uses_wider p.rules q.rules w.2 (prepared p name))

module _ (plate wide name lent more : List ℕ) (bytes : Bytes plate) (bytes' : Bytes wide) where
  pub plates_keep : PlatesKeep plate wide (list_answer plate name lent) (list_answer wide name more)
  plates_keep p q v v' w n n' =
      let a = list_answer plate name lent in
      let b = list_answer wide name more in
      let g = list_gives plate name lent bytes n in
      let h = list_gives wide name more bytes' n' in
      let us = uses_in p name in
      let vs = uses_in q name in
      let wa = subst (λ (r : Plate). Writes (codes (uses_in r name)) lent a) (one_plate plate g.0 p g.1 v) g.2 in
      let wb = subst (λ (r : Plate). Writes (codes (uses_in r name)) more b) (one_plate wide h.0 q h.1 v') h.2 in
      let wider = plate_uses p q name w in
      let full = filled plate name p (plate_read plate p v) in
      record {
        each = λ k l. listed_place (codes vs) more b wb (code_at a k) (wider_listed us vs wider (code_at a k) (place_listed (codes us) lent a wa k l));
        first =
            first_place (codes vs) more b wb (yielded us (firsts us)) (wider_first us vs wider full)
            ∙ sym (first_place (codes us) lent a wa (yielded us (firsts us)) (first_listed us full));
      }

-- ---- d

module _ (plate name lent more : List ℕ) (bytes : Bytes plate) where
  pub given_again : GivenAgain lent more (list_answer plate name lent) (list_answer plate name more)
  given_again n h =
      let a = list_answer plate name lent in
      let b = list_answer plate name more in
      let g = gives plate name lent n in
      let cs = g.1 in
      let is : a ≡ listing cs lent = g.2.written in
      let is' : b ≡ listing cs more = (longer plate name lent g.0 cs g.2 more h).written in
      let w = list_gives plate name more bytes (ap (λ (c : Coded). c.number) is') in
      let counted : a.count ≡ length cs = ap (λ (c : Coded). c.count) is in
      let good = (read_plate_lem plate g.0 bytes g.2.read).0 in
      let long = length_joined cs (six cs (subst (Each SixDigits) (sym g.2.all) (codes_six g.0.rules (good_is g.0 good).rules (prepared g.0 name)))) in
      let front : (l : List ℕ) → take (7 * a.count - 1) (joined cs ++ l) ≡ joined cs = λ l. take_at (joined cs) l (7 * a.count - 1) (long ∙ ap (λ (m : ℕ). 7 * m - 1) (sym counted)) in
      let count : b.count ≡ a.count = ap (λ (c : Coded). c.count) is' ∙ sym counted in
      record {
        answers = ap (λ (c : Coded). c.number) is';
        counted = count;
        same =
            ap (λ (c : Coded). take (7 * a.count - 1) c.buffer) is'
            ∙ front (drop (length (joined cs)) more)
            ∙ sym (front (drop (length (joined cs)) lent))
            ∙ ap (λ (c : Coded). take (7 * a.count - 1) c.buffer) (sym is);
        behind = subst (λ (m : ℕ). drop (7 * m - 1) b.buffer ≡ drop (7 * m - 1) more) count w.2.behind;
      }
