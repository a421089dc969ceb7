-- Rules noted one by one: a rule behind the others leaves each other group as it is, and lengthens its own or begins it. Assumes nothing.
use Rattle.std.proofs.Common.{Option, Some, ◌≡◌, ℕ, zero, suc, ◌+◌, ◌*◌, ◌/◌, ◌%◌, ◌<◌, ◌≤◌, Bool, true, false, not, eqb, ltb, leb, ◌⊎◌, List, [], ◌∷◌, ◌++◌, length, get_or, take, drop, set, replicate, sym, refl, ap, ◌∙◌, subst, ⊎_elim, le_trans, add-one, arith, length-append, length-set, drop_of_length-le, take_all, get_or-set_other, get_or-set_same, ltb-true, eq-eqb, ne_eqb, eqb-true, le-leb, leb-true}
use mathlib.Core.Bool.{false≢true}
use lib.ListN.{length-replicate, get_or-replicate}
use lib.Seq.{take-append-le, drop-append-le, take-append_seam, drop-append_seam}
use Rattle.laws.specs.Lists.{every}
use Rattle.laws.proofs.Tests.{and_true, both_true, or_true}
use Rattle.laws.proofs.Bits.{by_order}
use Rattle.laws.proofs.Many.{every_append}
use Rattle.plate.specs.Most.{most_rules}
use Rattle.plate.specs.Plate.{Rule, Edition, first_code, good_rule}
use Rattle.plate.specs.Stands.{Here, Stands}
use Rattle.plate.specs.Read.{foldings_place, many, past, rule_at, rule_end, rule_count, folding_count, rules_place, accepted_in, edition_of, count_width, accepted, plate_in}
use Rattle.plate.specs.Answers.{in_order, rule_fits, seen_of, rule_seen}
use Rattle.plate.specs.Noted.{half, noted_characters, is_of, is_other, GroupIs, NotedFrom, NotedIn, NotedIf, AllPlaced}
use Rattle.plate.specs.declared.Seen.{Seen}
use Rattle.plate.proofs.Listed.{length_many, get_d_many, many_snoc, past_snoc}
use Rattle.plate.proofs.Facts.{rules_counted, all_stand}
use Rattle.plate.proofs.Fronts.{told}

-- ---- one rule more

module _ (rs : List Rule) (r : Rule) (c : ℕ) where
  abbrev more : List Rule
  more = rs ++ (r ∷ [])

  longer : length more ≡ length rs + 1
  longer = length-append rs (r ∷ [])

  -- It begins with another character.
  other_keeps : (first behind : ℕ) → GroupIs rs c first behind → (first_code r ≡ c → ⊥) → GroupIs more c first behind
  other_keeps first behind g d = record {
    rising = g.rising;
    within = omega (arith, g.within, longer);
    before = ap (every (is_other c)) (take-append-le first rs (r ∷ []) (le_trans g.rising g.within)) ∙ g.before;
    inside = ap (λ (l : List Rule). every (is_of c) (drop first l)) (take-append-le behind rs (r ∷ []) g.within) ∙ g.inside;
    after = ap (every (is_other c)) (drop-append-le behind rs (r ∷ []) g.within) ∙ every_append (is_other c) (drop behind rs) (r ∷ [])
        ∙ both_true g.after (both_true (ap not (ne_eqb (first_code r) c d)) refl);
  }

  module _ (n : ℕ) (e : length rs ≡ n) (f : first_code r ≡ c) where
    all_of : take (suc n) more ≡ more
    all_of = take_all (suc n) more (omega (arith, longer, e))

    none_after : every (is_other c) (drop (suc n) more) ≡ true
    none_after = ap (every (is_other c)) (drop_of_length-le more {i = suc n} (omega (arith, longer, e)))

    is_of_lem : every (is_of c) (r ∷ []) ≡ true
    is_of_lem = both_true (eq-eqb (first_code r) c f) refl

    -- It lengthens the group that the rules end with.
    same_grows : (first : ℕ) → GroupIs rs c first n → GroupIs more c first (suc n)
    same_grows first g =
        let low : first ≤ length rs = le_trans g.rising g.within in
        let all : take n rs ≡ rs = take_all n rs (omega (arith, e)) in record {
          rising = omega (arith, g.rising);
          within = omega (arith, longer, e);
          before = ap (every (is_other c)) (take-append-le first rs (r ∷ []) low) ∙ g.before;
          inside = ap (λ (l : List Rule). every (is_of c) (drop first l)) all_of ∙ ap (every (is_of c)) (drop-append-le first rs (r ∷ []) low)
              ∙ every_append (is_of c) (drop first rs) (r ∷ [])
              ∙ both_true (ap (λ (l : List Rule). every (is_of c) (drop first l)) (sym all) ∙ g.inside) is_of_lem;
          after = none_after;
        }

    -- It begins a group.
    new_begins : every (is_other c) rs ≡ true → GroupIs more c n (suc n)
    new_begins g = record {
      rising = omega arith;
      within = omega (arith, longer, e);
      before = ap (λ (k : ℕ). every (is_other c) (take k more)) (sym e) ∙ ap (every (is_other c)) (take-append_seam rs (r ∷ [])) ∙ g;
      inside = ap (λ (l : List Rule). every (is_of c) (drop n l)) all_of ∙ ap (λ (k : ℕ). every (is_of c) (drop k more)) (sym e)
          ∙ ap (every (is_of c)) (drop-append_seam rs (r ∷ [])) ∙ is_of_lem;
      after = none_after;
    }

-- ---- first code points up to one

abbrev up_to_code : ℕ → Rule → Bool
up_to_code code r = leb (first_code r) code

-- A higher one is none of them.
apart : (code c : ℕ) (rs : List Rule) → code < c → every (up_to_code code) rs ≡ true → every (is_other c) rs ≡ true
apart code c [] h g = refl
apart code c (r ∷ rs) h g =
    let b = and_true (up_to_code code r) (every (up_to_code code) rs) g in
    let k = leb-true (first_code r) code b.0 in
    both_true (ap not (ne_eqb (first_code r) c (λ e. omega arith))) (apart code c rs h b.1)

raised : (code c : ℕ) (rs : List Rule) → code ≤ c → every (up_to_code code) rs ≡ true → every (up_to_code c) rs ≡ true
raised code c [] h g = refl
raised code c (r ∷ rs) h g =
    let b = and_true (up_to_code code r) (every (up_to_code code) rs) g in
    let k = leb-true (first_code r) code b.0 in
    both_true (le-leb (first_code r) c (omega arith)) (raised code c rs h b.1)

-- ---- the loop: i rules from a place on are noted, the last group began at `begun`, the last first code point is `code`

pub record Going (s : List ℕ) (from i at begun code : ℕ) (places groups : List ℕ) : Type 0 where
  pub here : at ≡ past (rule_end s) i from
  pub noted : NotedFrom s from i places groups
  pub last : GroupIs (many (rule_at s) (rule_end s) i from) code begun i
  pub low : every (up_to_code code) (many (rule_at s) (rule_end s) i from) ≡ true

no_rules : (c : ℕ) → GroupIs [] c 0 0
no_rules c = record { rising = omega arith; within = omega arith; before = refl; inside = refl; after = refl }

pub going_start : (s : List ℕ) (from : ℕ) (places groups : List ℕ) → groups ≡ replicate noted_characters 0 → Going s from 0 from 0 0 places groups
going_start s from places groups e = record {
  here = refl;
  noted = (
    record { room = omega arith; at = λ i h. absurd (omega arith) },
    record {
      size = ap length e ∙ length-replicate {A = ℕ} noted_characters 0;
      of = λ c h. subst (λ (g : ℕ). GroupIs [] c (g / half) (g % half)) (sym (ap (λ (l : List ℕ). get_or l c 0) e ∙ get_or-replicate {A = ℕ} noted_characters c 0 0 h)) (no_rules c);
    },
  );
  last = no_rules 0;
  low = refl;
}

module _ (s : List ℕ) (from i at begun code : ℕ) (places groups : List ℕ) (g : Going s from i at begun code places groups) (n : ℕ)
    (r : Option Seen) (e : r ≡ rule_seen s at code n) (q : Seen) (f : r ≡ Some q)
    (b : ℕ) (o : ((q.code ≡ code) × (b ≡ begun)) ⊎ ((q.code ≡ code → ⊥) × (b ≡ i))) where
  abbrev c : ℕ
  c = q.code

  abbrev one : Rule
  one = rule_at s at

  abbrev rules : List Rule
  rules = many (rule_at s) (rule_end s) i from

  seen : (rule_fits one code n ≡ true) × (seen_of one (rule_end s at) ≡ q)
  seen = told (rule_fits one code n) (seen_of one (rule_end s at)) q e f

  is_first : first_code one ≡ c
  is_first = ap (λ (x : Seen). x.code) seen.1

  is_end : rule_end s at ≡ q.next
  is_end = ap (λ (x : Seen). x.next) seen.1

  -- Its first code point is not below the last.
  up : code ≤ c
  up =
      let t = (and_true (good_rule one) (in_order code n (first_code one) (length one.pattern)) seen.0).1 in
      let same = is_first in
      ⊎_elim
      (λ w. let l = ltb-true code (first_code one) w in omega arith)
      (λ w. let q = eqb-true code (first_code one) (and_true (eqb code (first_code one)) (leb (length one.pattern) n) w).0 in omega arith)
      (or_true (ltb code (first_code one)) _ t)

  long : length rules ≡ i
  long = length_many (rule_at s) (rule_end s) i from

  behind : many (rule_at s) (rule_end s) (suc i) from ≡ rules ++ (one ∷ [])
  behind = many_snoc (rule_at s) (rule_end s) i from ∙ ap (λ (p : ℕ). rules ++ (rule_at s p ∷ [])) (sym g.here)

  own : GroupIs (rules ++ (one ∷ [])) c b (suc i)
  own =
      ⊎_elim
      (λ w.
      subst (λ (x : ℕ). GroupIs (rules ++ (one ∷ [])) c x (suc i)) (sym w.1)
      (same_grows rules one c i long is_first begun (subst (λ (x : ℕ). GroupIs rules x begun i) (sym w.0) g.last)))
      (λ w.
      let ne = w.0 in
      let high : code < c = let u = up in omega arith in
      subst (λ (x : ℕ). GroupIs (rules ++ (one ∷ [])) c x (suc i)) (sym w.1)
      (new_begins rules one c i long is_first (apart code c rules high g.low)))
      o

  module _ (v : ℕ) (is : v ≡ b * half + suc i) (few : suc i ≤ most_rules) where
    abbrev stored : List ℕ
    stored = set groups c v

    group_of : (x : ℕ) → x < noted_characters → GroupIs (rules ++ (one ∷ [])) x (get_or stored x 0 / half) (get_or stored x 0 % half)
    group_of x h = go (eqb x c) refl
      where
        go : (t : Bool) → eqb x c ≡ t → GroupIs (rules ++ (one ∷ [])) x (get_or stored x 0 / half) (get_or stored x 0 % half)
        go true q =
            let same : x ≡ c = eqb-true x c q in
            let room = g.noted.1.size in
            let there : c < length groups = omega arith in
            let is-v : get_or stored x 0 ≡ v = ap (λ (y : ℕ). get_or stored y 0) same ∙ get_or-set_same groups c v 0 there in
            let from-b : get_or stored x 0 / half ≡ b = omega (arith, is-v, is) in
            let to-i : get_or stored x 0 % half ≡ suc i = omega (arith, is-v, is) in
            rw (from-b, to-i, same) own
        go false q =
            let differs : x ≡ c → ⊥ = λ y. false≢true (sym q ∙ eq-eqb x c y) in
            let kept : get_or stored x 0 ≡ get_or groups x 0 = get_or-set_other groups c x v 0 differs in
            rw kept (other_keeps rules one x (get_or groups x 0 / half) (get_or groups x 0 % half) (g.noted.1.of x h) (λ y. differs (sym y ∙ is_first)))

    place_of : i < length places → (j : ℕ) → j < suc i → get_or (set places i at) j 0 ≡ past (rule_end s) j from
    place_of room j h =
        by_order (get_or (set places i at) j 0 ≡ past (rule_end s) j from) j i
        (λ l. get_or-set_other places i j at 0 (λ q. omega arith) ∙ g.noted.0.at j l)
        (λ l.
        let same : j ≡ i = omega arith in
        ap (λ (y : ℕ). get_or (set places i at) y 0) same ∙ get_or-set_same places i at 0 room ∙ g.here ∙ ap (λ (y : ℕ). past (rule_end s) y from) (sym same))

    turn : i < length places → Going s from (suc i) q.next b c (set places i at) stored
    turn room = record {
      here = sym is_end ∙ ap (rule_end s) g.here ∙ sym (past_snoc (rule_end s) i from);
      noted = (
        record { room = omega (arith, length-set places i at); at = place_of room },
        record {
          size = length-set groups c v ∙ g.noted.1.size;
          of = λ x h. subst (λ (l : List Rule). GroupIs l x (get_or stored x 0 / half) (get_or stored x 0 % half)) (sym behind) (group_of x h);
        },
      );
      last = subst (λ (l : List Rule). GroupIs l c b (suc i)) (sym behind) own;
      low = ap (every (up_to_code c)) behind ∙ every_append (up_to_code c) rules (one ∷ [])
          ∙ both_true (raised code c rules up g.low) (both_true (le-leb (first_code one) c (let q = is_first in omega arith)) refl);
    }

  -- One rule more is noted.
  pub going_turn : i + 1 ≤ most_rules → i < length places → Going s from (i + 1) q.next b c (set places i at) (set groups c (b * half + (i + 1)))
  going_turn few room =
      subst (λ (m : ℕ). Going s from m q.next b c (set places i at) (set groups c (b * half + (i + 1)))) (sym (add-one i))
      (turn (b * half + (i + 1)) (omega arith) (omega arith) room)

-- ---- a group is noted when it is over: the rules are noted once the present one is

pub set_set : (l : List ℕ) (k x y : ℕ) → set (set l k x) k y ≡ set l k y
set_set [] k x y = refl
set_set (z ∷ l) zero x y = refl
set_set (z ∷ l) (suc k) x y = ap (λ (r : List ℕ). z ∷ r) (set_set l k x y)

-- Of all rules that the head counts, it is of the plate.
pub noted_all : (w : ℕ) (s places groups : List ℕ) (m n : ℕ) → m ≡ folding_count w s → n ≡ rule_count w s → NotedFrom s (foldings_place + 42 * m) n places groups → NotedIn w s places groups
noted_all w s places groups m n e f h =
    subst (λ (k : ℕ). NotedFrom s (foldings_place + 42 * k) (rule_count w s) places groups) e (subst (λ (k : ℕ). NotedFrom s (foldings_place + 42 * m) k places groups) f h)

pub noted_if : (t : Bool) (w : ℕ) (s places groups : List ℕ) → NotedIn w s places groups → NotedIf t w s places groups
noted_if true w s places groups n = n
noted_if false w s places groups n = tt

-- What is told of an edition is told of the bytes, where they tell that edition.
pub told_in : (s places groups : List ℕ) (e : Edition) → edition_of s ≡ e → (r : Bool) → (r ≡ accepted_in e s) × NotedIf r e.width s places groups
    → (r ≡ accepted s) × NotedIf r (count_width s) s places groups
told_in s places groups e h r t = subst (λ (x : Edition). (r ≡ accepted_in x s) × NotedIf r x.width s places groups) (sym h) t

-- ---- a rule by its number

-- A rule stands at each place.
stands_at : (s : List ℕ) (n at i : ℕ) → Stands s n at → i < n → Here s (past (rule_end s) i at)
stands_at s zero at i h l = absurd (omega arith)
stands_at s (suc n) at zero h l = h.0
stands_at s (suc n) at (suc i) h l = stands_at s n (rule_end s at) i h.1 (omega arith)

module _ (s places : List ℕ) (a : accepted s ≡ true) (p : AllPlaced s places) (i : ℕ) (l : i < length (plate_in s).rules) where
  counted : i < rule_count (count_width s) s
  counted = subst (λ (m : ℕ). i < m) (rules_counted s a) l

  pub placed_room : i < length places
  placed_room = omega (arith, p.room, counted)

  pub placed_here : Here s (get_or places i 0)
  placed_here =
      let n = rule_count (count_width s) s in
      subst (Here s) (sym (p.at i counted)) (stands_at s n (rules_place (count_width s) s) i (all_stand s a n refl) counted)

  pub placed_rule : (d : Rule) → get_or (plate_in s).rules i d ≡ rule_at s (get_or places i 0)
  placed_rule d =
      get_d_many (rule_at s) (rule_end s) (rule_count (count_width s) s) (rules_place (count_width s) s) i d counted ∙ ap (rule_at s) (sym (p.at i counted))
