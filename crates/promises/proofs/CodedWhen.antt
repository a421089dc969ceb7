-- The numbers that encode's and list's definitions give meet the table's conditions (specs/When.antt). Assumes nothing.
use Prim.Native.Nat.{ℕ, ◌<◌, ◌≤◌}
use mathlib.Core.Path.{◌≡◌, refl, sym, ap, subst, ◌∙◌}
use mathlib.Core.Logic.{◌⊎◌, inl, inr}
use mathlib.Core.Bool.{Bool, true, false, cond, ◌&&◌, ◌||◌, false≢true}
use mathlib.Core.Option.{Option, none, some}
use mathlib.Core.List.{List, [], ◌∷◌, ◌++◌, map}
use native.Mathlib.Omega.{arith}
use borrow.Author.Tests.{ltb-true, ltb-false, le-ltb, leb-false}
use lib.Dec.{ltb, leb}
use lib.ListN.{length}
use Rattle.laws.specs.Lists.{In, every, between}
use Rattle.laws.proofs.Tests.{or_true, neither, below_between, above_between}
use Rattle.laws.proofs.Members.{in_every}
use Rattle.chars.specs.Utf8.{is_text, chars_of, bad_place, fail_place}
use Rattle.chars.specs.Letters.{white, latin_end, latin, cyrillic_first, cyrillic_last, cyrillic, tabled, allowed}
use Rattle.plate.specs.Plate.{Rule, Plate}
use Rattle.plate.specs.Read.{plate_in, accepted, read_plate}
use Rattle.plate.proofs.Packed.{Bytes}
use Rattle.plate.proofs.Round.{plate_reads, plate_exact}
use Rattle.branches.specs.Branches.{Branch, Use, start, step, run, over, codes}
use Rattle.branches.specs.Choice.{first_only}
use Rattle.coder.specs.Name.{most_name, prepared}
use Rattle.coder.specs.Walk.{uses}
use Rattle.coder.specs.Answer as code
use Rattle.coder.specs.Answer.{room, coded_by, plated, list_answer, encode_answer}
use Rattle.coder.specs.Given.{uses_in}
use Rattle.coder.proofs.Answers.{judged}
use Rattle.coder.proofs.Demands.{some_inj}
use Rattle.promises.specs.Said.{IsPlate}
use Rattle.promises.specs.When.{Check, NotAPlate, Foreign, Strange, Overfull, NameNumber}

-- ---- one that fails a test

pub every_false : {A : Type 0} (t : A → Bool) (l : List A) → every t l ≡ false → (x : A) × In x l × (t x ≡ false)
every_false t [] e = absurd (false≢true (sym e))
every_false t (x ∷ l) e = go (t x) refl e (λ h. every_false t l h)
  where
    go : (b : Bool) → t x ≡ b → b && every t l ≡ false → (every t l ≡ false → (y : _) × In y l × (t y ≡ false)) → (y : _) × In y (x ∷ l) × (t y ≡ false)
    go false f h below = (x, inl refl, f)
    go true f h below = let r = below h in (r.0, inr r.1, r.2)

-- ---- plates

pub plate_read : (bytes : List ℕ) (p : Plate) → IsPlate p bytes → read_plate bytes ≡ some p
plate_read bytes p w = subst (λ (s : List ℕ). read_plate s ≡ some p) (sym w.1) (plate_reads p w.0)

pub read_plate_lem : (bytes : List ℕ) (p : Plate) → Bytes bytes → read_plate bytes ≡ some p → IsPlate p bytes
read_plate_lem bytes p b e = let x = plate_exact bytes p b e in (x.1, x.0)

pub is_plate : (plate : List ℕ) → Bytes plate → accepted plate ≡ true → NotAPlate plate → ⊥
is_plate plate bytes a never = never (plate_in plate) (read_plate_lem plate (plate_in plate) bytes (ap (λ (t : Bool). cond t (some (plate_in plate)) none) a))

pub no_plate : (plate : List ℕ) → accepted plate ≡ false → NotAPlate plate
no_plate plate a p w = false≢true (ap is (sym (ap (λ (t : Bool). cond t (some (plate_in plate)) none) a) ∙ plate_read plate p w))
  where
    is : Option Plate → Bool
    is (some q) = true
    is none = false

-- ---- names

-- A number that does not pass `between` lies below or above.
outside : (low high n : ℕ) → between low high n ≡ false → (n < low) ⊎ (high < n)
outside low high n e = go (leb low n) (leb n high) refl refl e
  where
    go : (a b : Bool) → leb low n ≡ a → leb n high ≡ b → a && b ≡ false → (n < low) ⊎ (high < n)
    go false b f g h = inl (leb-false low n f)
    go true false f g h = inr (leb-false n high g)
    go true true f g h = absurd (false≢true (sym h))

-- A character that may not stand in a name is foreign, and a foreign one may not.
pub foreign : (c : ℕ) → allowed c ≡ false → Foreign c
foreign c e =
    let n = neither (white c) (tabled c) e in
    let m = neither (latin c) (cyrillic c) n.1 in record { inked = n.0; high = ltb-false c latin_end m.0; apart = outside cyrillic_first cyrillic_last c m.1 }

pub not_allowed : (c : ℕ) → Foreign c → allowed c ≡ false
not_allowed c f = ap (λ (t : Bool). t || tabled c) f.inked ∙ ap (λ (t : Bool). t || cyrillic c) (le-ltb c latin_end f.high) ∙ beyond f.apart
  where
    beyond : (c < cyrillic_first) ⊎ (cyrillic_last < c) → cyrillic c ≡ false
    beyond (inl h) = below_between cyrillic_first cyrillic_last c h
    beyond (inr h) = above_between cyrillic_first cyrillic_last c h

pub strange : (name : List ℕ) → every allowed (chars_of name) ≡ false → Strange name
strange name e =
    let x = every_false allowed (chars_of name) e in
    record { c = x.0; among = x.1; foreign = foreign x.0 x.2 }

pub not_strange : (name : List ℕ) → every allowed (chars_of name) ≡ true → Strange name → ⊥
not_strange name e s = false≢true (sym (not_allowed s.c s.foreign) ∙ in_every allowed (chars_of name) s.c e s.among)

-- The checks of a name in front of a call whose own number meets its own check.
named_number : (call : List Use → List ℕ → code.Coded) (rs : List Rule) (cs lent : List ℕ) (long text fine : Bool) (foreign broken : ℕ) (w₁ w₂ w₁₁ w₁₂ : Type 0)
    → (long ≡ true → w₁) → (long ≡ false → w₁ → ⊥) → (text ≡ false → w₂) → (text ≡ true → w₂ → ⊥) → (fine ≡ false → w₁₁) → (fine ≡ true → w₁₁ → ⊥)
    → Check (call (uses rs cs) lent).number 12 w₁₂ ((call (uses rs cs) lent).number ≡ 0)
    → (let n = (code.answered call rs (judged long text fine foreign broken cs) lent).number in Check n 1 w₁ (Check n 2 w₂ (Check n 11 w₁₁ (Check n 12 w₁₂ (n ≡ 0)))))
named_number call rs cs lent true text fine foreign broken w₁ w₂ w₁₁ w₁₂ a a' b b' c c' last = inl (a refl, refl)
named_number call rs cs lent false false fine foreign broken w₁ w₂ w₁₁ w₁₂ a a' b b' c c' last = inr (a' refl, inl (b refl, refl))
named_number call rs cs lent false true false foreign broken w₁ w₂ w₁₁ w₁₂ a a' b b' c c' last = inr (a' refl, inr (b' refl, inl (c refl, refl)))
named_number call rs cs lent false true true foreign broken w₁ w₂ w₁₁ w₁₂ a a' b b' c c' last = inr (a' refl, inr (b' refl, inr (c' refl, last)))

name_number : (call : List Use → List ℕ → code.Coded) (p : Plate) (name lent : List ℕ) (full : Type 0)
    → Check (call (uses_in p name) lent).number 12 full ((call (uses_in p name) lent).number ≡ 0) → NameNumber name full (coded_by call p name lent).number
name_number call p name lent full last =
    named_number call p.rules (prepared p name) lent (ltb most_name (length name)) (is_text name) (every allowed (chars_of name)) (fail_place allowed name)
    (bad_place name) (most_name < length name) (is_text name ≡ false) (Strange name) full
    (λ e. ltb-true most_name (length name) e) (λ e h. let k = ltb-false most_name (length name) e in omega arith)
    (λ e. e) (λ e h. false≢true (sym h ∙ e))
    (λ e. strange name e) (λ e h. not_strange name e h)
    last

-- ---- 12

-- Over at the start or after some step.
over_some : (most : ℕ) (us : List Use) (bs : List Branch) → over most us bs ≡ true → (done more : List Use) × (us ≡ done ++ more) × (most < length (run done bs))
unfolding over run
over_some most [] bs e = ([], [], refl, ltb-true most (length bs) e)
over_some most (u ∷ us) bs e = go (or_true (ltb most (length bs)) (over most us (step u bs)) e) (λ h. over_some most us (step u bs) h)
  where
    go : (ltb most (length bs) ≡ true) ⊎ (over most us (step u bs) ≡ true)
        → (over most us (step u bs) ≡ true → (done more : List Use) × (us ≡ done ++ more) × (most < length (run done (step u bs))))
        → (done more : List Use) × (u ∷ us ≡ done ++ more) × (most < length (run done bs))
    go (inl h) below = ([], u ∷ us, refl, ltb-true most (length bs) h)
    go (inr h) below = let r = below h in (u ∷ r.0, r.1, ap (λ (l : List Use). u ∷ l) r.2, r.3)

-- Not over, at no step.
over_none : (most : ℕ) (done more : List Use) (bs : List Branch) → over most (done ++ more) bs ≡ false → length (run done bs) ≤ most
unfolding over run
over_none most [] [] bs e = ltb-false most (length bs) e
over_none most [] (u ∷ us) bs e = let n = neither (ltb most (length bs)) (over most us (step u bs)) e in ltb-false most (length bs) n.0
over_none most (u ∷ done) more bs e = let n = neither (ltb most (length bs)) (over most (done ++ more) (step u bs)) e in over_none most done more (step u bs) n.1

tested_12 : (t : Bool) (cs : List (List ℕ)) (lent : List ℕ) (w : Type 0) → (t ≡ true → w) → (t ≡ false → w → ⊥)
    → (let n = (cond t (code.no_codes 12 lent) (code.listing cs lent)).number in Check n 12 w (n ≡ 0))
tested_12 true cs lent w a a' = inl (a refl, refl)
tested_12 false cs lent w a a' = inr (a' refl, refl)

overfull : (plate name lent : List ℕ) (p : Plate) → IsPlate p plate
    → (let n = (code.listed (uses_in p name) lent).number in Check n 12 (Overfull plate name lent) (n ≡ 0))
overfull plate name lent p w =
    tested_12 (over (room lent) (uses_in p name) start) (codes (uses_in p name)) lent (Overfull plate name lent)
    (λ e. let r = over_some (room lent) (uses_in p name) start e in record { p = p; is = w; done = r.0; more = r.1; cut = r.2; longer = r.3 })
    (λ e o.
    let same = some_inj o.p p (sym (plate_read plate o.p o.is) ∙ plate_read plate p w) in
    let cut = ap (λ (q : Plate). uses_in q name) (sym same) ∙ o.cut in
    let less = over_none (room lent) o.done o.more start (ap (λ (l : List Use). over (room lent) l start) (sym cut) ∙ e) in
    let more = o.longer in omega arith)

too_short : (us : List Use) (lent : List ℕ) → (let n = (code.encoded us lent).number in Check n 12 (length lent < 6) (n ≡ 0))
too_short us lent =
    tested_12 (ltb (length lent) 6) (codes (map first_only us)) lent (length lent < 6) (λ e. ltb-true (length lent) 6 e)
    (λ e h. let k = ltb-false (length lent) 6 e in omega arith)

-- ---- encode and list

module _ (plate name lent : List ℕ) (bytes : Bytes plate) where
  plated_number : (call : List Use → List ℕ → code.Coded) (full : Type 0)
      → ((p : Plate) → IsPlate p plate → (let n = (call (uses_in p name) lent).number in Check n 12 full (n ≡ 0)))
      → (let n = (plated call (read_plate plate) name lent).number in Check n 10 (NotAPlate plate) (NameNumber name full n))
  plated_number call full last = go (read_plate plate) refl
    where
      go : (o : Option Plate) → read_plate plate ≡ o → (let n = (plated call o name lent).number in Check n 10 (NotAPlate plate) (NameNumber name full n))
      go none e = inl ((λ p w. no (sym e ∙ plate_read plate p w)), refl)
        where
          no : {p : Plate} → ◌≡◌ {A = Option Plate} none (some p) → ⊥
          no h = false≢true (ap is h)
            where
              is : Option Plate → Bool
              is (some q) = true
              is none = false
      go (some p) e =
          let w = read_plate_lem plate p bytes e in
          inr ((λ never. never p w), name_number call p name lent full (last p w))

  pub list_checks : (let n = (list_answer plate name lent).number in Check n 10 (NotAPlate plate) (NameNumber name (Overfull plate name lent) n))
  unfolding list_answer
  list_checks = plated_number code.listed (Overfull plate name lent) (λ p w. overfull plate name lent p w)

  pub encode_checks : (let n = (encode_answer plate name lent).number in Check n 10 (NotAPlate plate) (NameNumber name (length lent < 6) n))
  unfolding encode_answer
  encode_checks = plated_number code.encoded (length lent < 6) (λ p w. too_short (uses_in p name) lent)
