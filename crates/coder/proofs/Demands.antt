-- Demand 3 about whole calls: list's answer rests on the plate and the name alone as long as there is room, and its codes are those of the uses, for which
-- the laws on branches stand. Assumes nothing.
use Prim.Native.Nat.{ℕ, ◌+◌, ◌/◌, ◌<◌, ◌≤◌}
use mathlib.Core.Path.{◌≡◌, refl, sym, ap, subst, ◌∙◌}
use mathlib.Core.Bool.{Bool, true, false, cond, false≢true}
use mathlib.Core.Option.{Option, none, some}
use mathlib.Core.List.{List, [], ◌∷◌, map}
use native.Mathlib.Omega.{arith}
use borrow.Author.Tests.{leb-true, leb-false, le-ltb}
use lib.Dec.{ltb, leb}
use lib.ListN.{length}
use Rattle.laws.specs.Lists.{every}
use Rattle.laws.proofs.Tests.{and_true, by_test, between_true}
use Rattle.chars.specs.Utf8.{is_text, chars_of, bad_place, fail_place}
use Rattle.chars.specs.Letters.{allowed}
use Rattle.plate.specs.Plate.{Plate, good_rule, ordered}
use Rattle.plate.specs.Read.{plate_in, accepted, read_plate}
use Rattle.branches.specs.Branches.{Use, start, over, codes}
use Rattle.branches.specs.Choice.{yielded, Filled, firsts, first_only}
use Rattle.branches.proofs.Choice.{firsts_alone}
use Rattle.branches.proofs.Room.{more_room}
use Rattle.coder.specs.Name.{prepared, Named, most_name, named}
use Rattle.coder.specs.Name.Named.{Chars}
use Rattle.coder.specs.Answer.{Coded, no_codes, listing, smaller, room, listed, encoded, answered, coded_by, plated, list_answer, encode_answer}
use Rattle.coder.specs.Given.{Given, uses_in}
use Rattle.plate.proofs.Facts.{rules_good, rules_ordered}
use Rattle.coder.proofs.Firsts.{good_use, uses_good}
use Rattle.coder.proofs.Answers.{judged}

-- ---- what an answer of 0 says

-- The name's characters are coded.
coded_chars : (call : List Use → List ℕ → Coded) (p : Plate) (name lent : List ℕ) → (coded_by call p name lent).number ≡ 0 → named p name ≡ Chars (prepared p name)
coded_chars call p name lent e = go (ltb most_name (length name)) (is_text name) (every allowed (chars_of name)) e
  where
    go : (long text fine : Bool) → (answered call p.rules (judged long text fine (fail_place allowed name) (bad_place name)
        (prepared p name)) lent).number ≡ 0 → judged long text fine (fail_place allowed name) (bad_place name) (prepared p name) ≡ Chars (prepared p name)
    go true text fine e = absurd (omega arith)
    go false true true e = refl
    go false true false e = absurd (omega arith)
    go false false fine e = absurd (omega arith)

-- An answer of 0: the bytes are a plate, and the call answered for its uses; so does any call, whatever is lent.
by_uses : (call : List Use → List ℕ → Coded) (o : Option Plate) (name lent : List ℕ) → (plated call o name lent).number ≡ 0
    → (p : Plate) × (o ≡ some p) × ((call' : List Use → List ℕ → Coded) (lent' : List ℕ) → plated call' o name lent' ≡ call' (uses_in p name) lent')
by_uses call none name lent e = absurd (omega arith)
by_uses call (some p) name lent e = (p, refl, λ call' lent'. ap (λ (n : Named). answered call' p.rules n lent') (coded_chars call p name lent e))

-- An answer of 0 is no refusal 12.
not_12 : (t : Bool) (x : Coded) (lent : List ℕ) → (cond t (no_codes 12 lent) x).number ≡ 0 → t ≡ false
not_12 true x lent e = absurd (omega arith)
not_12 false x lent e = refl

-- List answers 0 only where the branches fit.
fits : (us : List Use) (lent : List ℕ) → (listed us lent).number ≡ 0 → over (room lent) us start ≡ false
fits us lent e = not_12 (over (room lent) us start) (listing (codes us) lent) lent e

listed_fits : (us : List Use) (lent : List ℕ) → over (room lent) us start ≡ false → listed us lent ≡ listing (codes us) lent
listed_fits us lent e = ap (λ (b : Bool). cond b (no_codes 12 lent) (listing (codes us) lent)) e

-- In a buffer that holds a code encode gives that of the first alternatives, alone.
encoded_alone : (us : List Use) (lent : List ℕ) → Filled us → ltb (length lent) 6 ≡ false → encoded us lent ≡ listing (yielded us (firsts us) ∷ []) lent
encoded_alone us lent f e =
    ap (λ (b : Bool). cond b (no_codes 12 lent) (listing (codes (map first_only us)) lent)) e ∙ ap (λ (l : List (List ℕ)). listing l lent) (firsts_alone us f)

-- A longer buffer has no less room.
room_grows : (lent lent' : List ℕ) → length lent ≤ length lent' → room lent ≤ room lent'
unfolding room
room_grows lent lent' h =
    by_test (λ (m : ℕ). m ≤ smaller 64 ((length lent' + 1) / 7)) (leb 64 ((length lent + 1) / 7)) 64 ((length lent + 1) / 7)
    (λ e. let a = leb-true 64 ((length lent + 1) / 7) e in
    by_test (λ (m : ℕ). 64 ≤ m) (leb 64 ((length lent' + 1) / 7)) 64 ((length lent' + 1) / 7) (λ f. omega arith) (λ f. let b = leb-false 64 ((length lent' + 1) / 7) f in absurd (omega arith)))
    (λ e. let a = leb-false 64 ((length lent + 1) / 7) e in
    by_test (λ (m : ℕ). (length lent + 1) / 7 ≤ m) (leb 64 ((length lent' + 1) / 7)) 64 ((length lent' + 1) / 7) (λ f. omega arith) (λ f. omega arith))

-- ---- an accepted plate

-- the same plate
pub some_inj : (x y : Plate) → some x ≡ some y → x ≡ y
some_inj x y e = ap (λ (o : Option Plate). held o) e
  where
    held : Option Plate → Plate
    held (some q) = q
    held none = x

-- The plate is a good one, so each use has an alternative.
pub filled : (plate name : List ℕ) (p : Plate) → read_plate plate ≡ some p → Filled (uses_in p name)
filled plate name p read = all_filled (uses_in p name) (uses_good p.rules good.0 good.1 (prepared p name))
  where
    some_alternative : (u : Use) (more : List Use) → every good_use (u ∷ more) ≡ true → (0 < length u.alternatives) × (every good_use more ≡ true)
    some_alternative u more h = let b = and_true (good_use u) (every good_use more) h in ((between_true 1 8 (length u.alternatives) b.0).0, b.1)

    all_filled : (vs : List Use) → every good_use vs ≡ true → Filled vs
    all_filled [] h = tt
    all_filled (u ∷ more) h = let b = some_alternative u more h in (b.0, all_filled more b.1)

    go : (t : Bool) → accepted plate ≡ t → cond t (some (plate_in plate)) none ≡ some p → (every good_rule p.rules ≡ true) × (ordered p.rules ≡ true)
    go true a e =
        let q = some_inj (plate_in plate) p e in
        (subst (λ (x : Plate). every good_rule x.rules ≡ true) q (rules_good plate a), subst (λ (x : Plate). ordered x.rules ≡ true) q (rules_ordered plate a))
    go false a e = absurd (false≢true (ap is_some e))
      where
        is_some : Option Plate → Bool
        is_some (some x) = true
        is_some none = false

    good : (every good_rule p.rules ≡ true) × (ordered p.rules ≡ true)
    good = go (accepted plate) refl read

-- ---- what is given

module _ (plate name : List ℕ) where
  -- List answers 0 exactly by giving the codes of its uses.
  pub gives : (lent : List ℕ) → (list_answer plate name lent).number ≡ 0 → (p : Plate) × (cs : List (List ℕ)) × Given plate name lent p cs
  unfolding list_answer
  gives lent e =
      let a = by_uses listed (read_plate plate) name lent e in
      let us = uses_in a.0 name in
      let f = fits us lent (ap (λ (x : Coded). x.number) (sym (a.2 listed lent)) ∙ e) in
      (a.0, codes us, record { read = a.1; all = refl; written = a.2 listed lent ∙ listed_fits us lent f })

  -- Encode answers 0 exactly by giving the code of the first alternatives.
  pub encodes : (lent : List ℕ) → (encode_answer plate name lent).number ≡ 0
      → (p : Plate) × (read_plate plate ≡ some p) × (encode_answer plate name lent ≡ listing (yielded (uses_in p name) (firsts (uses_in p name)) ∷ []) lent)
  unfolding encode_answer
  encodes lent e =
      let a = by_uses encoded (read_plate plate) name lent e in
      let us = uses_in a.0 name in
      let h = not_12 (ltb (length lent) 6) (listing (codes (map first_only us)) lent) lent (ap (λ (x : Coded). x.number) (sym (a.2 encoded lent)) ∙ e) in
      (a.0, a.1, a.2 encoded lent ∙ encoded_alone us lent (filled plate name a.0 a.1) h)

  module _ (lent : List ℕ) (p : Plate) (cs : List (List ℕ)) (g : Given plate name lent p cs) where
    number_0 : (list_answer plate name lent).number ≡ 0
    number_0 = ap (λ (x : Coded). x.number) g.written

    abbrev us : List Use
    us = uses_in p name

    -- d) A list given once is given again in any longer buffer.
    pub longer : (lent' : List ℕ) → length lent ≤ length lent' → Given plate name lent' p cs
    unfolding list_answer
    longer lent' h =
        let a = by_uses listed (read_plate plate) name lent number_0 in
        let same = some_inj a.0 p (sym a.1 ∙ g.read) in
        let again : (call : List Use → List ℕ → Coded) (l : List ℕ) → plated call (read_plate plate) name l ≡ call us l =
        λ call l. a.2 call l ∙ ap (λ (q : Plate). call (uses_in q name) l) same in
        let f = fits us lent (ap (λ (x : Coded). x.number) (sym (again listed lent)) ∙ number_0) in
        record {
          read = g.read;
          all = g.all;
          written = again listed lent' ∙ listed_fits us lent' (more_room (room lent) (room lent') us start (room_grows lent lent' h) f) ∙ ap (λ (l : List (List ℕ)). listing l lent') (sym g.all);
        }

    -- b) What encode gives, alone, in any buffer of six bytes or more: the code of the first alternatives.
    pub encode_gives : (lent' : List ℕ) → 6 ≤ length lent' → encode_answer plate name lent' ≡ listing (yielded us (firsts us) ∷ []) lent'
    unfolding list_answer encode_answer
    encode_gives lent' h =
        let a = by_uses listed (read_plate plate) name lent number_0 in
        let same = some_inj a.0 p (sym a.1 ∙ g.read) in
        a.2 encoded lent' ∙ ap (λ (q : Plate). encoded (uses_in q name) lent') same ∙ encoded_alone us lent' (filled plate name p g.read) (le-ltb (length lent') 6 h)
