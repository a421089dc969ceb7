-- What is noted stays what was noted before, with one rule or folding more among it. Assumes nothing.
use Prim.Native.Nat.{ℕ, ◌+◌, ◌<◌, ◌≤◌}
use mathlib.Core.Path.{◌≡◌, refl, sym, ◌∙◌, ap, subst}
use mathlib.Core.Bool.{Bool, true, false, cond}
use mathlib.Core.List.{List, [], ◌∷◌, ◌++◌, map}
use native.Mathlib.Omega.{arith}
use borrow.Author.Tests.{lt-ltb, le-ltb}
use lib.ListN.{length, take, drop, set, length-map, length-set, length-append, length-drop}
use lib.Seq.{length-take-le, take_at}
use Rattle.laws.specs.Lists.{some, cat}
use Rattle.plate.specs.Plate.{Folding, Rule, first_code, rising, of_pattern}
use Rattle.plate.specs.Written.{rule_bits}
use Rattle.plate.specs.Most.{rule_most}
use Rattle.book.specs.Book.{Book, folding_of, put_rule, put_folding, with_rule, with_folding, when, rule_fault, folding_fault}
use Rattle.laws.specs.Sort.{sorted}
use Rattle.book.specs.Sort.{put_pair, folding_in, AllSmall, PairsHeld, PutIs}
use Rattle.book.specs.Seen.{hash_of, slots, may_hold, marked}
use Rattle.book.specs.Note.{places, key, key_of, place_in, hash_in, rules_in, rules_of, Sure, AllSure, AllMarked, book_of, KeysHeld, Kept, InOrder}
use Rattle.std.specs.Prelude.{Some, Ok, Err}
use Rattle.book.specs.Field.{flaw_number}
use Rattle.book.specs.Note.{ruled, passed, RuleIs, RuleIn, DoubleNoted, FoldingNoted}
use Rattle.book.specs.declared.Flaw.{Flaw}
use Rattle.book.specs.declared.Tally.{Tally}
use Rattle.book.proofs.Faults.{clean}
use Rattle.book.proofs.Measures.{put_bits}
use Rattle.book.proofs.Sorted.{put_rising}
use Rattle.laws.proofs.Holds.{each_append}
use Rattle.laws.proofs.Sorting.{each_sorted, length_sorted, sorted_twice, sorted_snoc}
use Rattle.book.proofs.Hashes.{hash_small, still_long, met_new, all_still}
use Rattle.book.proofs.Keys.{key_place, key_hash, all_later, put_view, first_keys, put_small, put_folding_view, first_pairs, pairs_length}

-- ---- nothing is noted

-- ---- a folding among others

-- They stay foldings, their keys strictly rising.
pub put_held : (c target n m : ℕ) (a a' : List ℕ) → c < 2097152 → target < 2097152 → PairsHeld n a → PutIs c target n a a' (Some m) → PairsHeld m a'
put_held c target n m a a' i j k p =
    let L = put_pair c target (take n a) in
    let few = p.1 in
    let long = k.room in
    let first : take m a' ≡ L = first_pairs c target j a a' n m p.0 p.2 in
    record {
      few = p.1;
      room = pairs_length c target j a a' n m p.0 p.2 (omega arith) ∙ long;
      small = subst AllSmall (sym first) (put_small c target j (take n a) i k.small);
      sorted =
          ap (λ (l : List ℕ). rising (map folding_in l)) first
          ∙ ap rising (put_folding_view c target j (take n a))
          ∙ put_rising (folding_of c target) (map folding_in (take n a)) k.sorted;
    }

-- ---- one more

module _ (view : ℕ → Rule) (at : ℕ) (tally : Tally) (keys foldings : List ℕ) (k : Kept view at tally keys foldings) where
  abbrev book : Book
  book = book_of view tally keys foldings

  -- It stays noted behind a later place.
  pub kept_later : (at2 : ℕ) → at ≤ at2 → Kept view at2 tally keys foldings
  kept_later at2 h =
      record { rules = k.rules; pairs = k.pairs; sure = all_later view at at2 (take tally.rules keys) h k.sure; bits = k.bits }

  -- A rule that is left out.
  module _ (r : Rule) (t : Tally) (q : DoubleNoted r tally (Ok t)) where
    pub double_kept : Kept view at t keys foldings
    double_kept =
        let n = (clean r tally.read q.0).few in
        let few = k.rules.few in
        let held : KeysHeld (passed tally) keys =
        record { few = omega arith; few_read = omega arith; room = k.rules.room; few_bits = k.rules.few_bits } in
        subst (λ (t : Tally). Kept view at t keys foldings) (sym q.1) (record { rules = held; pairs = k.pairs; sure = k.sure; bits = k.bits })

    pub double_noted : some (of_pattern r.pattern) book.rules ≡ true → book_of view t keys foldings ≡ with_rule r book
    double_noted known =
        ap (λ (t : Tally). book_of view t keys foldings) q.1
        ∙ ap (λ (b : Bool). record { foldings = book.foldings; rules = cond b book.rules (put_rule r book.rules); read = tally.read + 1 }) (sym known)

  -- The rule at the place.
  module _ (r : Rule) (is : view at ≡ r) (h : at < places) (seen keys' seen' : List ℕ) (t : Tally) (q : RuleIn r at tally keys seen keys' seen' t) where
    abbrev K : ℕ
    K = key_of r at

    placed : place_in K ≡ at
    placed = key_place (first_code r) (length r.pattern) at (hash_of r.pattern) h (hash_small r.pattern)

    viewed : view (place_in K) ≡ r
    viewed = ap view placed ∙ is

    sure_key : Sure view (at + 1) K
    sure_key =
        record {
          is = sym (λ i. key_of (viewed i) (placed i));
          before = omega (arith, placed);
          fine = subst (λ (r : Rule). rule_fault r 0 ≡ 0) (sym viewed) (clean r tally.read q.fine).first;
        }

    fewer : tally.rules < length keys
    fewer = let n = (clean r tally.read q.fine).few in let few = k.rules.few in let m = k.rules.room in omega arith

    now : take (tally.rules + 1) keys' ≡ take tally.rules keys ++ (K ∷ [])
    now = ap (take (tally.rules + 1)) q.keyed ∙ first_keys keys tally.rules K fewer

    noted : rules_in view (sorted (take (tally.rules + 1) keys')) ≡ put_rule r (rules_of view tally keys)
    noted =
        let l = take tally.rules keys in
        ap (λ (m : List ℕ). rules_in view (sorted m)) now
        ∙ ap (rules_in view) (sorted_snoc l K)
        ∙ put_view view at K (sorted l) h placed sure_key (each_sorted (Sure view at) l k.sure)
        ∙ ap (λ (r : Rule). put_rule r (rules_of view tally keys)) viewed

    sums : tally.bits + length (rule_bits r) ≡ length (cat rule_bits (rules_in view (sorted (take (tally.rules + 1) keys'))))
    sums =
        ap (λ (n : ℕ). n + length (rule_bits r)) k.bits
        ∙ sym (ap (λ (l : List Rule). length (cat rule_bits l)) noted ∙ put_bits r (rules_of view tally keys))

    held : KeysHeld (ruled tally (length (rule_bits r))) keys'
    held =
        let n = (clean r tally.read q.fine).few in
        let less = k.rules.few in
        let m = k.rules.few_bits in
        let few = q.few in
        record {
          few = omega arith;
          few_read = omega arith;
          room = ap length q.keyed ∙ length-set keys tally.rules K ∙ k.rules.room;
          few_bits = omega arith;
        }

    all : AllSure view (at + 1) (take (tally.rules + 1) keys')
    all =
        let l = take tally.rules keys in
        subst (AllSure view (at + 1)) (sym now) (each_append (Sure view (at + 1)) l (K ∷ []) (all_later view at (at + 1) l (omega arith) k.sure) (sure_key, tt))

    pub rule_kept : Kept view (at + 1) t keys' foldings
    rule_kept =
        subst (λ (t : Tally). Kept view (at + 1) t keys' foldings) (sym q.told) (record { rules = held; pairs = k.pairs; sure = all; bits = sums })

    pub rule_noted : some (of_pattern r.pattern) book.rules ≡ false → book_of view t keys' foldings ≡ with_rule r book
    rule_noted new =
        ap (λ (t : Tally). book_of view t keys' foldings) q.told
        ∙ ap (λ (l : List Rule). record { foldings = book.foldings; rules = l; read = tally.read + 1 }) noted
        ∙ ap (λ (b : Bool). record { foldings = book.foldings; rules = cond b book.rules (put_rule r book.rules); read = tally.read + 1 }) (sym new)

    -- The hashes of all are met.
    pub rule_met : length seen ≡ slots → AllMarked seen (take tally.rules keys) → (length seen' ≡ slots) × AllMarked seen' (take t.rules keys')
    rule_met long a =
        let H = hash_of r.pattern in
        let l = take tally.rules keys in
        let held : hash_in K ≡ H = key_hash (first_code r) (length r.pattern) at H (hash_small r.pattern) in
        let one : may_hold (marked seen H) (hash_in K) ≡ true = ap (may_hold (marked seen H)) held ∙ met_new seen H long in
        let all : AllMarked (marked seen H) (take (tally.rules + 1) keys') =
        subst (AllMarked (marked seen H)) (sym now)
        (each_append (λ k. may_hold (marked seen H) (hash_in k) ≡ true) l (K ∷ []) (all_still seen H long l a) (one, tt)) in
        let as-told : AllMarked (marked seen H) (take t.rules keys') =
        subst (λ (t : Tally). AllMarked (marked seen H) (take t.rules keys')) (sym q.told) all in (
          ap length q.met ∙ still_long seen H long,
          subst (λ (s : List ℕ). AllMarked s (take t.rules keys')) (sym q.met) as-told,
        )

  -- The numbers of the rules put in order: what is noted stays.
  module _ (keys' : List ℕ) (e : keys' ≡ sorted (take tally.rules keys) ++ drop tally.rules keys) where
    abbrev M : List ℕ
    M = take tally.rules keys

    few_keys : tally.rules ≤ length keys
    few_keys = let a = k.rules.few in let b = k.rules.few_read in let c = k.rules.room in omega arith

    long : length (sorted M) ≡ tally.rules
    long = length_sorted M ∙ length-take-le tally.rules keys few_keys

    front : take tally.rules keys' ≡ sorted M
    front = ap (take tally.rules) e ∙ take_at (sorted M) (drop tally.rules keys) tally.rules long

    same_rules : sorted (take tally.rules keys') ≡ sorted M
    same_rules = ap sorted front ∙ sorted_twice M

    order_length : length keys' ≡ length keys
    order_length = ap length e ∙ length-append (sorted M) (drop tally.rules keys) ∙ omega (arith, long, few_keys, length-drop tally.rules keys)

    pub order_kept : Kept view at tally keys' foldings
    order_kept =
        record {
          rules = record { few = k.rules.few; few_read = k.rules.few_read; room = order_length ∙ k.rules.room; few_bits = k.rules.few_bits };
          pairs = k.pairs;
          sure = subst (AllSure view at) (sym front) (each_sorted (Sure view at) M k.sure);
          bits = k.bits ∙ sym (ap (λ (l : List ℕ). length (cat rule_bits (rules_in view l))) same_rules);
        }

    pub order_made : InOrder tally keys'
    order_made = same_rules ∙ sym front

    pub order_noted : book_of view tally keys' foldings ≡ book
    order_noted = ap (λ (l : List ℕ). record { foldings = book.foldings; rules = rules_in view l; read = tally.read }) same_rules

  -- A folding.
  module _ (c target : ℕ) (i : c < 2097152) (j : target < 2097152) where
    abbrev L : List ℕ
    L = put_pair c target (take tally.foldings foldings)

    put : map folding_in L ≡ put_folding (folding_of c target) book.foldings
    put = put_folding_view c target j (take tally.foldings foldings)

    longer : length (put_folding (folding_of c target) book.foldings) ≡ length L
    longer = ap length (sym put) ∙ length-map L folding_in

    -- Refusal 8, and none.
    pub folding_fault_lem : (w : Flaw) (a' : List ℕ) → FoldingNoted c target tally foldings a' (Err w)
        → folding_fault (folding_of c target) book.foldings ≡ flaw_number w
    folding_fault_lem w a' p = ap (λ (t : Bool). when t 8) (lt-ltb 128 _ (subst (λ (n : ℕ). 128 < n) (sym longer) p.0)) ∙ sym p.1

    module _ (a' : List ℕ) (t : Tally) (p : FoldingNoted c target tally foldings a' (Ok t)) where
      pub folding_fine : folding_fault (folding_of c target) book.foldings ≡ 0
      folding_fine = ap (λ (t : Bool). when t 8) (le-ltb 128 _ (subst (λ (n : ℕ). n ≤ 128) (sym longer) p.0))

      first : take (length L) a' ≡ L
      first = first_pairs c target j foldings a' tally.foldings (length L) refl p.1

      held_pairs : PairsHeld (length L) a'
      held_pairs = put_held c target tally.foldings (length L) foldings a' i j k.pairs (refl, p.0, p.1)

      pub folding_kept : Kept view at t keys a'
      folding_kept =
          subst (λ (t : Tally). Kept view at t keys a') (sym p.2)
          (record {
            rules = record { few = k.rules.few; few_read = k.rules.few_read; room = k.rules.room; few_bits = k.rules.few_bits };
            pairs = held_pairs;
            sure = k.sure;
            bits = k.bits;
          })

      pub folding_noted : book_of view t keys a' ≡ with_folding (folding_of c target) (book_of view tally keys foldings)
      folding_noted =
          ap (λ (t : Tally). book_of view t keys a') p.2
          ∙ ap (λ (l : List Folding). record { foldings = l; rules = book.rules; read = tally.read }) (ap (map folding_in) first ∙ put)

-- ---- as the calls tell it

pub entered : (r : Rule) (at : ℕ) (tally : Tally) (keys seen keys' seen' : List ℕ) (bits k hash : ℕ) → RuleIs r tally.read (Ok bits)
    → hash ≡ hash_of r.pattern → k ≡ key (first_code r) (length r.pattern) at hash → keys' ≡ set keys tally.rules k
    → seen' ≡ marked seen hash → RuleIn r at tally keys seen keys' seen' (ruled tally bits)
entered r at tally keys seen keys' seen' bits k hash j h e f m =
    record {
      fine = j.0;
      few = subst (λ (n : ℕ). n ≤ rule_most) j.1 j.2;
      keyed = f ∙ ap (set keys tally.rules) (e ∙ ap (key (first_code r) (length r.pattern) at) h);
      met = m ∙ ap (marked seen) h;
      told = ap (ruled tally) j.1;
    }
