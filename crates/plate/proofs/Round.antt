-- The round trips: what is written is read, and what is read was written. Each part of a plate (a digit, an alternative, a field, a rule, a folding, the
-- head, the fill) is read where it was written, and the bits where it was read are its bits; a whole plate is these one behind the other.
-- Over any edition whose number is a byte and whose rule count fits its width. Assumes nothing.
use Rattle.std.proofs.Common.{◌≡◌, ℕ, zero, suc, ◌+◌, ◌-◌, ◌*◌, ◌/◌, ◌%◌, ◌^◌, ◌<◌, ◌≤◌, Bool, true, false, cond, ◌&&◌, ◌||◌, eqb, ltb, leb, List, [], ◌∷◌, ◌++◌, length, drop, replicate, sym, refl, ap, ◌∙◌, subst, ap₂, append_assoc, append-nil, lt_of_le_of_lt, arith, lit<, length-append, length-drop, drop_of_length-le, pow_pos, eq-eqb, eqb-true, leb-false, leb-true}
use mathlib.Core.Bool.{false≢true}
use mathlib.Core.Option.{Option, none, some}
use lib.ListN.{length-replicate}
use borrow.Author.Tests.{eqb-false}
use Rattle.laws.specs.Lists.{every, between, cat}
use Rattle.laws.proofs.Tests.{and_true, both_true, between_true, is_between, by_test}
use Rattle.laws.proofs.Bits.{join_four, join_five}
use Rattle.chars.specs.Utf8.{scalar, is_text}
use Rattle.chars.proofs.Exact.{scalar_most}
use Rattle.chars.specs.Digits.{digit, is_alternative}
use Rattle.plate.specs.Bits.{bits_of, unpack, pack, number_at}
use Rattle.plate.specs.Plate.{Folding, Rule, Plate, Edition, edition1, edition2, edition_for, most_foldings, good_field, nonzero_byte, good_pattern, good_rule, nonzero_scalar, good_folding}
use Rattle.plate.specs.Plate.{rising, ordered, good_foldings, good_rules, good_in, good_plate}
use Rattle.plate.specs.Most.{most_rules}
use Rattle.plate.specs.Written.{with_count, digit_bits, alternative_bits, field_bits, rule_bits, folding_bits, flag_bit, head_in, head_of, head_bits, plate_bits, bytes_in, plate_bytes}
use Rattle.plate.specs.Read.{many, past, alternative_at, alternative_end, field_at, field_end, pattern_at, start_place, vowel_place, other_place, rule_at, rule_end, folding_at}
use Rattle.plate.specs.Read.{folding_end, rule_count, folding_count, flag_number, reserved, foldings_place, rules_place, plate_at, plate_end, zero_filled, accepted_in, read_in}
use Rattle.plate.specs.Read.{read_before, edition_of, accepted, read_plate}
use Rattle.plate.proofs.Packed.{Binary, Bytes, zero_bits, binary_append, binary_bits_of, binary_cat, unpack_pack, pack_unpack, pack_fill}
use Rattle.plate.proofs.Place.{number_lt, length_unpack, wrote, reads, At}
use Rattle.plate.proofs.Listed.{length_many, past_grows, past_add}
use Rattle.plate.proofs.Facts.{says_good, tells_1, tells_2, asks_1, asks_2}

-- ---- the flag

flag_small : (b : Bool) → flag_bit b < 2
flag_small true = omega arith
flag_small false = omega arith

flag_back : (b : Bool) → eqb (flag_bit b) 1 ≡ b
flag_back true = refl
flag_back false = refl

flag_is : (n : ℕ) → n < 2 → n ≡ flag_bit (eqb n 1)
flag_is n h = go (eqb n 1) refl
  where
    go : (b : Bool) → eqb n 1 ≡ b → n ≡ flag_bit b
    go true e = eqb-true n 1 e
    go false e = let other = eqb-false n 1 e in omega arith

module _ (s : List ℕ) where
  -- the last place, and the bits
  abbrev L : ℕ
  L = 8 * length s

  abbrev B : List ℕ
  B = unpack s

  -- A thing that was written at a place is read there, and the place behind it is known.
  abbrev Reads : {A : Type 0} → (A → Bool) → (ℕ → A) → (ℕ → ℕ) → (A → List ℕ) → Type 0
  Reads {A} good f e g = (a : A) (at : ℕ) (rest : List ℕ) → good a ≡ true → At s at (g a ++ rest) → (f at ≡ a) × At s (e at) rest

  -- What is read at a place was written there.
  abbrev Wrote : {A : Type 0} → (ℕ → A) → (ℕ → ℕ) → (A → List ℕ) → Type 0
  Wrote f e g = (at : ℕ) → e at ≤ L → drop at B ≡ g (f at) ++ drop (e at) B

  split : (at : ℕ) (x y rest : List ℕ) → At s at ((x ++ y) ++ rest) → At s at (x ++ (y ++ rest))
  split at x y rest h = (h.0, h.1 ∙ append_assoc x y rest)

  moved : (p q : ℕ) (l : List ℕ) → p ≡ q → At s p l → At s q l
  moved p q l e h = subst (λ (at : ℕ). At s at l) e h

  -- ---- lists

  module _ {A : Type 0} (f : ℕ → A) (e : ℕ → ℕ) (g : A → List ℕ) where
    many_reads : (good : A → Bool) → Reads good f e g → (xs : List A) (at : ℕ) (rest : List ℕ) → every good xs ≡ true → At s at (cat g xs ++ rest)
        → (many f e (length xs) at ≡ xs) × At s (past e (length xs) at) rest
    many_reads good R [] at rest h x = (refl, x)
    many_reads good R (a ∷ more) at rest h x =
        let b = and_true (good a) (every good more) h in
        let r = R a at (cat g more ++ rest) b.0 (split at (g a) (cat g more) rest x) in
        let q = many_reads good R more (e at) rest b.1 r.1 in
        (ap₂ ◌∷◌ r.0 q.0, q.1)

    many_wrote : ((p : ℕ) → p ≤ e p) → Wrote f e g → (n at : ℕ) → past e n at ≤ L → drop at B ≡ cat g (many f e n at) ++ drop (past e n at) B
    many_wrote grows W zero at h = refl
    many_wrote grows W (suc n) at h =
        W at (omega (arith, h, past_grows e grows n (e at)))
        ∙ ap (λ (l : List ℕ). g (f at) ++ l) (many_wrote grows W n (e at) h)
        ∙ sym (append_assoc (g (f at)) (cat g (many f e n (e at))) (drop (past e n (e at)) B))

    with_count_reads : (good : A → Bool) → Reads good f e g → (w : ℕ) (xs : List A) (at : ℕ) (rest : List ℕ) → length xs < 2 ^ w → every good xs ≡ true
        → At s at (with_count w g xs ++ rest)
        → (many f e (number_at s at w) (at + w) ≡ xs) × At s (past e (number_at s at w) (at + w)) rest
    with_count_reads good R w xs at rest k h x =
        let r = reads s w (length xs) at (cat g xs ++ rest) k (split at (bits_of w (length xs)) (cat g xs) rest x) in
        let q = many_reads good R xs (at + w) rest h r.1 in
        (ap (λ (n : ℕ). many f e n (at + w)) r.0 ∙ q.0, subst (λ (n : ℕ). At s (past e n (at + w)) rest) (sym r.0) q.1)

    with_count_wrote : ((p : ℕ) → p ≤ e p) → Wrote f e g → (w at : ℕ) → past e (number_at s at w) (at + w) ≤ L
        → drop at B ≡ with_count w g (many f e (number_at s at w) (at + w)) ++ drop (past e (number_at s at w) (at + w)) B
    with_count_wrote grows W w at h =
        let n = number_at s at w in
        let xs = many f e n (at + w) in
        wrote s w at (omega (arith, h, past_grows e grows n (at + w)))
        ∙ ap₂ (λ (k : ℕ) (l : List ℕ). bits_of w k ++ l) (sym (length_many f e n (at + w))) (many_wrote grows W n (at + w) h)
        ∙ sym (append_assoc (bits_of w (length xs)) (cat g xs) (drop (past e n (at + w)) B))

  -- things of one width end behind where they begin
  width_grows : (w p : ℕ) → p ≤ p + w
  width_grows w p = omega arith

  -- ---- alternatives

  digit_reads : Reads digit (λ p. 48 + number_at s p 4) (λ p. p + 4) digit_bits
  digit_reads d at rest h x =
      let b = between_true 48 57 d h in
      let k : d - 48 < 16 = omega arith in
      let r = reads s 4 (d - 48) at rest k x in
      (ap (λ (n : ℕ). 48 + n) r.0 ∙ omega arith, r.1)

  digit_wrote : Wrote (λ p. 48 + number_at s p 4) (λ p. p + 4) digit_bits
  digit_wrote at h = wrote s 4 at h ∙ ap (λ (n : ℕ). bits_of 4 n ++ drop (at + 4) B) (same (number_at s at 4))
    where
      same : (n : ℕ) → n ≡ 48 + n - 48
      same n = omega arith

  alternative_reads : Reads is_alternative (alternative_at s) (alternative_end s) alternative_bits
  alternative_reads a at rest h x =
      let b = and_true (leb (length a) 6) (every digit a) h in
      let k : length a < 8 = omega (arith, leb-true (length a) 6 b.0) in
      let r = with_count_reads (λ p. 48 + number_at s p 4) (λ p. p + 4) digit_bits digit digit_reads 3 a at rest k b.1 x in
      (r.0, moved _ _ rest (past_add 4 (number_at s at 3) (at + 3)) r.1)

  alternative_wrote : Wrote (alternative_at s) (alternative_end s) alternative_bits
  alternative_wrote at h =
      let e = past_add 4 (number_at s at 3) (at + 3) in
      with_count_wrote (λ p. 48 + number_at s p 4) (λ p. p + 4) digit_bits (width_grows 4) digit_wrote 3 at (subst (λ (p : ℕ). p ≤ L) (sym e) h)
      ∙ ap (λ (p : ℕ). alternative_bits (alternative_at s at) ++ drop p B) e

  alternative_grows : (p : ℕ) → p ≤ alternative_end s p
  alternative_grows p = omega arith

  -- ---- fields

  field_reads : Reads good_field (field_at s) (field_end s) field_bits
  field_reads f at rest h x =
      let b = and_true (between 1 8 (length f)) (every is_alternative f) h in
      let c = between_true 1 8 (length f) b.0 in
      let k : length f < 16 = omega arith in
      with_count_reads (alternative_at s) (alternative_end s) alternative_bits is_alternative alternative_reads 4 f at rest k b.1 x

  field_wrote : Wrote (field_at s) (field_end s) field_bits
  field_wrote at h = with_count_wrote (alternative_at s) (alternative_end s) alternative_bits alternative_grows alternative_wrote 4 at h

  field_grows : (p : ℕ) → p ≤ field_end s p
  field_grows p = omega (arith, past_grows (alternative_end s) alternative_grows (number_at s p 4) (p + 4))

  -- ---- rules

  byte_reads : Reads nonzero_byte (λ p. number_at s p 8) (λ p. p + 8) (bits_of 8)
  byte_reads b at rest h x =
      let c = between_true 1 255 b h in
      let k : b < 256 = omega arith in
      reads s 8 b at rest k x

  rule_reads : Reads good_rule (rule_at s) (rule_end s) rule_bits
  rule_reads r at rest h x =
      let p0 = r.pattern in
      let l1 = field_bits r.start in
      let l2 = field_bits r.vowel in
      let l3 = field_bits r.other in
      let b = and_true (good_pattern p0) (good_field r.start && (good_field r.vowel && good_field r.other)) h in
      let b1 = and_true (good_field r.start) (good_field r.vowel && good_field r.other) b.1 in
      let b2 = and_true (good_field r.vowel) (good_field r.other) b1.1 in
      let g = and_true (between 1 16 (length p0)) (every nonzero_byte p0 && is_text p0) b.0 in
      let c = between_true 1 16 (length p0) g.0 in
      let k : length p0 < 32 = omega arith in
      let q0 = with_count_reads (λ p. number_at s p 8) (λ p. p + 8) (bits_of 8) nonzero_byte byte_reads 5 p0 at ((l1 ++ (l2 ++ l3)) ++ rest) k
      (and_true (every nonzero_byte p0) (is_text p0) g.1).0 (split at (with_count 5 (bits_of 8) p0) (l1 ++ (l2 ++ l3)) rest x) in
      let x1 = moved _ (start_place s at) ((l1 ++ (l2 ++ l3)) ++ rest) (past_add 8 (number_at s at 5) (at + 5)) q0.1 in
      let q1 = field_reads r.start (start_place s at) ((l2 ++ l3) ++ rest) b1.0 (split (start_place s at) l1 (l2 ++ l3) rest x1) in
      let q2 = field_reads r.vowel (vowel_place s at) (l3 ++ rest) b2.0 (split (vowel_place s at) l2 l3 rest q1.1) in
      let q3 = field_reads r.other (other_place s at) rest b2.1 q2.1 in
      ((λ i. record { pattern = q0.0 i; start = q1.0 i; vowel = q2.0 i; other = q3.0 i }), q3.1)

  start_grows : (p : ℕ) → p ≤ start_place s p
  start_grows p = omega arith

  rule_grows : (p : ℕ) → p ≤ rule_end s p
  rule_grows p = omega (arith, start_grows p, field_grows (start_place s p), field_grows (vowel_place s p), field_grows (other_place s p))

  rule_wrote : Wrote (rule_at s) (rule_end s) rule_bits
  rule_wrote at h =
      let e = past_add 8 (number_at s at 5) (at + 5) in
      let l0 = with_count 5 (bits_of 8) (pattern_at s at) in
      let l1 = field_bits (field_at s (start_place s at)) in
      let l2 = field_bits (field_at s (vowel_place s at)) in
      let l3 = field_bits (field_at s (other_place s at)) in
      let g1 = field_grows (start_place s at) in
      let g2 = field_grows (vowel_place s at) in
      let g3 = field_grows (other_place s at) in
      let k : start_place s at ≤ L = omega (arith, g1, g2, g3, h) in
      with_count_wrote (λ p. number_at s p 8) (λ p. p + 8) (bits_of 8) (width_grows 8) (wrote s 8) 5 at (subst (λ (p : ℕ). p ≤ L) (sym e) k)
      ∙ ap (λ (p : ℕ). l0 ++ drop p B) e
      ∙ ap (λ (l : List ℕ). l0 ++ l)
      (field_wrote (start_place s at) (omega (arith, g2, g3, h)) ∙ ap (λ (l : List ℕ). l1 ++ l)
      (field_wrote (vowel_place s at) (omega (arith, g3, h)) ∙ ap (λ (l : List ℕ). l2 ++ l) (field_wrote (other_place s at) h)))
      ∙ sym (join_four l0 l1 l2 l3 (drop (rule_end s at) B))

  -- ---- foldings

  scalar_small : (c : ℕ) → nonzero_scalar c ≡ true → c < 2 ^ 21
  scalar_small c h = omega (arith, scalar_most c (and_true (ltb 0 c) (scalar c) h).1)

  folding_reads : Reads good_folding (folding_at s) folding_end folding_bits
  folding_reads f at rest h x =
      let b = and_true (nonzero_scalar f.key) (nonzero_scalar f.target) h in
      let l1 = bits_of 21 f.key in
      let l2 = bits_of 21 f.target in
      let r = reads s 21 f.key at (l2 ++ rest) (scalar_small f.key b.0) (split at l1 l2 rest x) in
      let q = reads s 21 f.target (at + 21) rest (scalar_small f.target b.1) r.1 in
      ((λ i. record { key = r.0 i; target = q.0 i }), moved (at + 21 + 21) (at + 42) rest (omega arith) q.1)

  folding_wrote : Wrote (folding_at s) folding_end folding_bits
  folding_wrote at h =
      let l1 = bits_of 21 (number_at s at 21) in
      let l2 = bits_of 21 (number_at s (at + 21) 21) in
      wrote s 21 at (omega (arith, h))
      ∙ ap (λ (l : List ℕ). l1 ++ l) (wrote s 21 (at + 21) (omega (arith, h)) ∙ ap (λ (p : ℕ). l2 ++ drop p B) {x = at + 21 + 21} {y = at + 42} (omega arith))
      ∙ sym (append_assoc l1 l2 (drop (at + 42) B))

  -- ---- the head, whose rule count is w bits wide

  -- what is read of a head, and where the rest stands
  record HeadIs (w e n m f : ℕ) (rest : List ℕ) : Type 0 where
    edition : number_at s 0 8 ≡ e
    rules : rule_count w s ≡ n
    foldings : folding_count w s ≡ m
    flag : flag_number w s ≡ f
    empty : reserved w s ≡ 0
    behind : At s foldings_place rest

  module _ (w : ℕ) (k : w ≤ 15) where
    head_reads : (e n m f : ℕ) (rest : List ℕ) → e < 256 → n < 2 ^ w → m < 256 → f < 2
        → At s 0 (bits_of 8 e ++ (bits_of w n ++ (bits_of 8 m ++ (bits_of 1 f ++ (bits_of (15 - w) 0 ++ rest)))))
        → HeadIs w e n m f rest
    head_reads e n m f rest k1 k2 k3 k4 x =
        let l4 = bits_of (15 - w) 0 ++ rest in
        let l3 = bits_of 1 f ++ l4 in
        let r1 = reads s 8 e 0 (bits_of w n ++ (bits_of 8 m ++ l3)) k1 x in
        let r2 = reads s w n 8 (bits_of 8 m ++ l3) k2 r1.1 in
        let r3 = reads s 8 m (8 + w) l3 k3 r2.1 in
        let r4 = reads s 1 f (16 + w) l4 k4 (moved (8 + w + 8) (16 + w) l3 (omega arith) r3.1) in
        let r5 = reads s (15 - w) 0 (17 + w) rest (pow_pos (15 - w)) (moved (16 + w + 1) (17 + w) l4 (omega arith) r4.1) in
        record {
          edition = r1.0;
          rules = r2.0;
          foldings = r3.0;
          flag = r4.0;
          empty = r5.0;
          behind = moved (17 + w + (15 - w)) foldings_place rest (omega arith) r5.1;
        }

    head_wrote : 32 ≤ L
        → B ≡ bits_of 8 (number_at s 0 8) ++ (bits_of w (rule_count w s) ++ (bits_of 8 (folding_count w s) ++ (bits_of 1 (flag_number w s) ++ (bits_of (15 - w) (reserved w s) ++ drop 32 B))))
    head_wrote h =
        let to : (p q : ℕ) → p ≡ q → drop p B ≡ drop q B = λ p q e. ap (λ (n : ℕ). drop n B) e in
        wrote s 8 0 (omega arith) ∙ ap (λ (l : List ℕ). bits_of 8 (number_at s 0 8) ++ l)
        (wrote s w 8 (omega arith) ∙ ap (λ (l : List ℕ). bits_of w (rule_count w s) ++ l)
        (wrote s 8 (8 + w) (omega arith) ∙ ap (λ (l : List ℕ). bits_of 8 (folding_count w s) ++ l)
        (to (8 + w + 8) (16 + w) (omega arith) ∙ wrote s 1 (16 + w) (omega arith) ∙ ap (λ (l : List ℕ). bits_of 1 (flag_number w s) ++ l)
        (to (16 + w + 1) (17 + w) (omega arith) ∙ wrote s (15 - w) (17 + w) (omega arith)
        ∙ ap (λ (l : List ℕ). bits_of (15 - w) (reserved w s) ++ l) (to (17 + w + (15 - w)) 32 (omega arith))))))

  -- ---- the fill

  filled_reads : (end k : ℕ) → k < 8 → At s end (replicate k 0) → zero_filled s end ≡ true
  filled_reads end k h x =
      let len : L - end ≡ k = sym (length-drop end B ∙ ap (λ (n : ℕ). n - end) (length_unpack s)) ∙ ap length x.1 ∙ length-replicate k 0 in
      let fill : 7 - (end + 7) % 8 ≡ k = omega (arith, x.0, len) in
      let r = reads s k 0 end [] (pow_pos k) (x.0, x.1 ∙ zero_bits k ∙ sym (append-nil (bits_of k 0))) in
      both_true (eq-eqb ((end + 7) / 8) (length s) (omega (arith, x.0, len))) (eq-eqb _ _ (ap (number_at s end) fill ∙ r.0))

  filled_wrote : (end : ℕ) → zero_filled s end ≡ true → (end ≤ L) × (drop end B ≡ replicate (L - end) 0) × (L - end < 8)
  filled_wrote end h =
      let fill = 7 - (end + 7) % 8 in
      let b = and_true (eqb ((end + 7) / 8) (length s)) (eqb (number_at s end fill) 0) h in
      let e = eqb-true ((end + 7) / 8) (length s) b.0 in
      let k : fill ≡ L - end = omega (arith, e) in
      let whole : end + fill ≡ L = omega (arith, e) in (
        omega (arith, e),
        wrote s fill end (omega (arith, whole))
            ∙ ap₂ (λ (n : ℕ) (l : List ℕ). bits_of fill n ++ l) (eqb-true (number_at s end fill) 0 b.1)
            (drop_of_length-le B {i = end + fill} (omega (arith, whole, length_unpack s)))
            ∙ append-nil (bits_of fill 0) ∙ sym (zero_bits fill) ∙ ap (λ (n : ℕ). replicate n 0) k,
        omega (arith, e),
      )

-- ---- what is written is bits

binary_with_count : {A : Type 0} (w : ℕ) (g : A → List ℕ) → ((a : A) → Binary (g a)) → (xs : List A) → Binary (with_count w g xs)
binary_with_count w g h xs = binary_append (bits_of w (length xs)) (cat g xs) (binary_bits_of w (length xs)) (binary_cat g h xs)

binary_field : (f : List (List ℕ)) → Binary (field_bits f)
binary_field = binary_with_count 4 alternative_bits (binary_with_count 3 digit_bits (λ d. binary_bits_of 4 (d - 48)))

binary_rule : (r : Rule) → Binary (rule_bits r)
binary_rule r =
    binary_append (with_count 5 (bits_of 8) r.pattern) (field_bits r.start ++ (field_bits r.vowel ++ field_bits r.other))
    (binary_with_count 5 (bits_of 8) (binary_bits_of 8) r.pattern)
    (binary_append (field_bits r.start) (field_bits r.vowel ++ field_bits r.other) (binary_field r.start)
    (binary_append (field_bits r.vowel) (field_bits r.other) (binary_field r.vowel) (binary_field r.other)))

binary_folding : (f : Folding) → Binary (folding_bits f)
binary_folding f = binary_append (bits_of 21 f.key) (bits_of 21 f.target) (binary_bits_of 21 f.key) (binary_bits_of 21 f.target)

module _ (e : Edition) (p : Plate) where
  abbrev l1 : List ℕ
  l1 = bits_of 8 e.number

  abbrev l2 : List ℕ
  l2 = bits_of e.width (length p.rules)

  abbrev l3 : List ℕ
  l3 = bits_of 8 (length p.foldings)

  abbrev l4 : List ℕ
  l4 = bits_of 1 (flag_bit p.flag)

  abbrev l5 : List ℕ
  l5 = bits_of (15 - e.width) 0

  abbrev fs : List ℕ
  fs = cat folding_bits p.foldings

  abbrev rs : List ℕ
  rs = cat rule_bits p.rules

  binary_plate : Binary (plate_bits e p)
  binary_plate =
      binary_append (head_bits e p) (fs ++ rs)
      (binary_append l1 (l2 ++ (l3 ++ (l4 ++ l5))) (binary_bits_of 8 e.number)
      (binary_append l2 (l3 ++ (l4 ++ l5)) (binary_bits_of e.width (length p.rules))
      (binary_append l3 (l4 ++ l5) (binary_bits_of 8 (length p.foldings))
      (binary_append l4 l5 (binary_bits_of 1 (flag_bit p.flag)) (binary_bits_of (15 - e.width) 0)))))
      (binary_append fs rs (binary_cat folding_bits binary_folding p.foldings) (binary_cat rule_bits binary_rule p.rules))

-- ---- whole plates

-- A good plate: its rules and foldings fit their counts, and each is good.
module _ (e : Edition) (p : Plate) (h : good_in e p ≡ true) where
  rules_fit : (e.least ≤ length p.rules) × (length p.rules ≤ e.most)
  rules_fit =
      between_true e.least e.most (length p.rules) (and_true (between e.least e.most (length p.rules)) (every good_rule p.rules && ordered p.rules)
      (and_true (good_rules e p.rules) (good_foldings p.foldings) h).0).0

  few_foldings : length p.foldings ≤ most_foldings
  few_foldings =
      leb-true (length p.foldings) most_foldings (and_true (leb (length p.foldings) most_foldings) (every good_folding p.foldings && rising p.foldings)
      (and_true (good_rules e p.rules) (good_foldings p.foldings) h).1).0

  all_rules : every good_rule p.rules ≡ true
  all_rules =
      (and_true (every good_rule p.rules) (ordered p.rules) (and_true (between e.least e.most (length p.rules)) (every good_rule p.rules && ordered p.rules)
      (and_true (good_rules e p.rules) (good_foldings p.foldings) h).0).1).0

  all_foldings : every good_folding p.foldings ≡ true
  all_foldings =
      (and_true (every good_folding p.foldings) (rising p.foldings) (and_true (leb (length p.foldings) most_foldings) (every good_folding p.foldings && rising p.foldings)
      (and_true (good_rules e p.rules) (good_foldings p.foldings) h).1).1).0

module _ (e : Edition) (number : e.number < 256) (width : e.width ≤ 15) (most : e.most < 2 ^ e.width) where
  abbrev w : ℕ
  w = e.width

  -- Bytes whose bits are a good plate's and the fill are accepted, and say that plate.
  module _ (s : List ℕ) (p : Plate) (h : good_in e p ≡ true) (k : ℕ) (small : k < 8) (x : unpack s ≡ plate_bits e p ++ replicate k 0) where
    read_back : (accepted_in e s ≡ true) × (plate_at w s ≡ p)
    read_back =
        let zeros : List ℕ = replicate k 0 in
        let rest = (fs e p ++ rs e p) ++ zeros in
        let few : length p.foldings < 256 = omega (arith, few_foldings e p h) in
        let x0 : At s 0 (head_bits e p ++ rest) = split s 0 (head_bits e p) (fs e p ++ rs e p) zeros (omega arith, x) in
        let hr = head_reads s w width e.number (length p.rules) (length p.foldings) (flag_bit p.flag) rest number
        (lt_of_le_of_lt (rules_fit e p h).1 most) few (flag_small p.flag)
        (x0.0, x0.1 ∙ join_five (l1 e p) (l2 e p) (l3 e p) (l4 e p) (l5 e p) rest) in
        let fr = many_reads s (folding_at s) folding_end folding_bits good_folding (folding_reads s) p.foldings foldings_place (rs e p ++ zeros) (all_foldings e p h)
        (split s foldings_place (fs e p) (rs e p) zeros hr.behind) in
        let x1 = moved s _ (rules_place w s) (rs e p ++ zeros) (past_add 42 (length p.foldings) 32 ∙ ap (λ (n : ℕ). 32 + 42 * n) (sym hr.foldings)) fr.1 in
        let rr = many_reads s (rule_at s) (rule_end s) rule_bits good_rule (rule_reads s) p.rules (rules_place w s) zeros (all_rules e p h) x1 in
        let same : plate_at w s ≡ p = λ i. record {
          flag = (ap (λ (n : ℕ). eqb n 1) hr.flag ∙ flag_back p.flag) i;
          foldings = (ap (λ (n : ℕ). many (folding_at s) folding_end n foldings_place) hr.foldings ∙ fr.0) i;
          rules = (ap (λ (n : ℕ). many (rule_at s) (rule_end s) n (rules_place w s)) hr.rules ∙ rr.0) i;
        } in
        let x2 : At s (plate_end w s) zeros = subst (λ (n : ℕ). At s (past (rule_end s) n (rules_place w s)) zeros) (sym hr.rules) rr.1 in (
          both_true (eq-eqb _ _ hr.edition) (both_true (eq-eqb _ _ hr.empty) (both_true (ap (good_in e) same ∙ h) (filled_reads s (plate_end w s) k small x2))),
          same,
        )

  -- The bits of an accepted plate are those of the plate that it says, and the fill.
  written_bits : (s : List ℕ) → accepted_in e s ≡ true
      → (unpack s ≡ plate_bits e (plate_at w s) ++ replicate (8 * length s - plate_end w s) 0) × (8 * length s - plate_end w s < 8)
  written_bits s h =
      let p = plate_at w s in
      let b = and_true (eqb (number_at s 0 8) e.number) (eqb (reserved w s) 0 && (good_in e p && zero_filled s (plate_end w s))) h in
      let b1 = and_true (eqb (reserved w s) 0) (good_in e p && zero_filled s (plate_end w s)) b.1 in
      let b2 = and_true (good_in e p) (zero_filled s (plate_end w s)) b1.1 in
      let c = filled_wrote s (plate_end w s) b2.1 in
      let g = past_grows (rule_end s) (rule_grows s) (rule_count w s) (rules_place w s) in
      let q = past_add 42 (folding_count w s) 32 in
      let zeros : List ℕ = replicate (8 * length s - plate_end w s) 0 in
      let inside : past folding_end (folding_count w s) 32 ≤ 8 * length s = omega (arith, c.0, g, q) in
      let body : drop 32 (unpack s) ≡ (fs e p ++ rs e p) ++ zeros =
      many_wrote s (folding_at s) folding_end folding_bits (width_grows s 42) (folding_wrote s) (folding_count w s) 32 inside
      ∙ ap (λ (l : List ℕ). fs e p ++ l) (ap (λ (n : ℕ). drop n (unpack s)) q
      ∙ many_wrote s (rule_at s) (rule_end s) rule_bits (rule_grows s) (rule_wrote s) (rule_count w s) (rules_place w s) c.0
      ∙ ap (λ (l : List ℕ). rs e p ++ l) c.1)
      ∙ sym (append_assoc (fs e p) (rs e p) zeros) in (
        head_wrote s w width (omega (arith, c.0, g))
            ∙ (λ i.
            bits_of 8 (eqb-true (number_at s 0 8) e.number b.0 i)
            ++ (bits_of w (sym (length_many (rule_at s) (rule_end s) (rule_count w s) (rules_place w s)) i)
            ++ (bits_of 8 (sym (length_many (folding_at s) folding_end (folding_count w s) 32) i)
            ++ (bits_of 1 (flag_is (flag_number w s) (number_lt s (16 + w) 1) i)
            ++ (bits_of (15 - w) (eqb-true (reserved w s) 0 b1.0 i) ++ body i)))))
            ∙ sym (join_five (l1 e p) (l2 e p) (l3 e p) (l4 e p) (l5 e p) ((fs e p ++ rs e p) ++ zeros))
            ∙ sym (append_assoc (head_bits e p) (fs e p ++ rs e p) zeros),
        c.2,
      )

  -- The bytes of a good plate are accepted.
  pub accepted_in_lem : (p : Plate) → good_in e p ≡ true → accepted_in e (bytes_in e p) ≡ true
  accepted_in_lem p h = let u = unpack_pack (plate_bits e p) (binary_plate e p) in (read_back (bytes_in e p) p h u.0 u.2 u.1).0

  -- What is written is read.
  pub reads_in : (p : Plate) → good_in e p ≡ true → read_in e (bytes_in e p) ≡ some p
  reads_in p h =
      let u = unpack_pack (plate_bits e p) (binary_plate e p) in
      let r = read_back (bytes_in e p) p h u.0 u.2 u.1 in
      ap₂ (λ (t : Bool) (q : Plate). cond t (some q) none) r.0 r.1

  accepted_exact : (s : List ℕ) → Bytes s → accepted_in e s ≡ true → s ≡ bytes_in e (plate_at w s)
  accepted_exact s b h =
      let r = written_bits s h in
      let l = plate_bits e (plate_at w s) in
      let k = 8 * length s - plate_end w s in
      sym (pack_unpack s b) ∙ ap pack r.0 ∙ pack_fill l k r.1
      (whole (length s) (length l + k) (sym (length_unpack s) ∙ ap length r.0 ∙ length-append l (replicate k 0) ∙ ap (λ (n : ℕ). length l + n) (length-replicate k 0)))
    where
      whole : (n m : ℕ) → 8 * n ≡ m → m % 8 ≡ 0
      whole n m e = omega arith

  -- What is read was written.
  pub exact_in : (s : List ℕ) (p : Plate) → Bytes s → read_in e s ≡ some p → (s ≡ bytes_in e p) × (good_in e p ≡ true)
  exact_in s p b h = go (accepted_in e s) refl h
    where
      said : Option Plate → Plate
      said (some q) = q
      said none = plate_at w s

      is_some : Option Plate → Bool
      is_some (some q) = true
      is_some none = false

      go : (t : Bool) → accepted_in e s ≡ t → cond t (some (plate_at w s)) none ≡ some p → (s ≡ bytes_in e p) × (good_in e p ≡ true)
      go true a r = (accepted_exact s b a ∙ ap (bytes_in e) (ap said r), ap (good_in e) (sym (ap said r)) ∙ says_good e s a)
      go false a r = absurd (false≢true (ap is_some r))

-- ---- the two editions

-- What holds of each: its number is a byte, its count has room for the most rules, a first byte tells it, and so does the number of rules.
record IsEdition (e : Edition) : Type 0 where
  number : e.number < 256
  width : e.width ≤ 15
  most : e.most < 2 ^ e.width
  of : (s : List ℕ) → number_at s 0 8 ≡ e.number → edition_of s ≡ e
  for : (n : ℕ) → e.least ≤ n → n ≤ e.most → edition_for n ≡ e

is_1 : IsEdition edition1
is_1 =
    record {
      number = lit< tt;
      width = omega arith;
      most = lit< tt;
      of = λ s h. tells_1 s (number_at s 0 8) refl (λ e. absurd (omega (arith, h, e)));
      for = λ n low high. asks_1 n high;
    }

is_2 : IsEdition edition2
is_2 =
    record {
      number = lit< tt;
      width = omega arith;
      most = lit< tt;
      of = λ s h. tells_2 s (number_at s 0 8) refl h;
      for = λ n low high. asks_2 n low;
    }

is_of_lem : (s : List ℕ) → IsEdition (edition_of s)
is_of_lem s = by_test IsEdition (eqb (number_at s 0 8) 2) edition2 edition1 (λ _. is_2) (λ _. is_1)

is_for : (n : ℕ) → IsEdition (edition_for n)
is_for n = by_test IsEdition (leb n 512) edition1 edition2 (λ _. is_1) (λ _. is_2)

-- Bytes that an edition accepts tell that edition.
tells : (e : Edition) → IsEdition e → (s : List ℕ) → accepted_in e s ≡ true → edition_of s ≡ e
tells e is s h =
    is.of s (eqb-true (number_at s 0 8) e.number (and_true (eqb (number_at s 0 8) e.number)
    (eqb (reserved e.width s) 0 && (good_in e (plate_at e.width s) && zero_filled s (plate_end e.width s))) h).0)

-- No bytes are plates of two editions, and bytes are a plate exactly if they are one of some edition.
pub one_edition : (s : List ℕ) → accepted_in edition1 s ≡ true → accepted_in edition2 s ≡ true → ⊥
one_edition s h k = let e = ap (λ (e : Edition). e.number) (sym (tells edition1 is_1 s h) ∙ tells edition2 is_2 s k) in absurd (omega arith)

pub some_edition : (s : List ℕ) → accepted s ≡ accepted_in edition1 s || accepted_in edition2 s
some_edition s = go (accepted_in edition1 s) (accepted_in edition2 s) refl refl
  where
    go : (a b : Bool) → accepted_in edition1 s ≡ a → accepted_in edition2 s ≡ b → accepted s ≡ a || b
    go true b h k = ap (λ (e : Edition). accepted_in e s) (tells edition1 is_1 s h) ∙ h
    go false true h k = ap (λ (e : Edition). accepted_in e s) (tells edition2 is_2 s k) ∙ k
    go false false h k = by_test (λ e. accepted_in e s ≡ false) (eqb (number_at s 0 8) 2) edition2 edition1 (λ _. k) (λ _. h)

-- A plate of before reads as before.
pub reads_before : (s : List ℕ) (p : Plate) → read_before s ≡ some p → read_plate s ≡ some p
reads_before s p h = go (accepted_in edition1 s) refl
  where
    is_some : Option Plate → Bool
    is_some (some q) = true
    is_some none = false

    go : (t : Bool) → accepted_in edition1 s ≡ t → read_plate s ≡ some p
    go true a = ap (λ (e : Edition). read_in e s) (tells edition1 is_1 s a) ∙ h
    go false a = absurd (false≢true (ap is_some (sym (ap (λ (t : Bool). cond t (some (plate_at 10 s)) none) a) ∙ h)))

-- ---- without an edition

-- The bytes of a good plate are accepted.
pub plate_accepted : (p : Plate) → good_plate p ≡ true → accepted (plate_bytes p) ≡ true
plate_accepted p h =
    let e = edition_for (length p.rules) in
    let is = is_for (length p.rules) in
    let a = accepted_in_lem e is.number is.width is.most p h in
    ap (λ (x : Edition). accepted_in x (bytes_in e p)) (tells e is (bytes_in e p) a) ∙ a

-- What is written is read.
pub plate_reads : (p : Plate) → good_plate p ≡ true → read_plate (plate_bytes p) ≡ some p
plate_reads p h =
    let e = edition_for (length p.rules) in
    let is = is_for (length p.rules) in
    let a = accepted_in_lem e is.number is.width is.most p h in
    ap (λ (x : Edition). read_in x (bytes_in e p)) (tells e is (bytes_in e p) a) ∙ reads_in e is.number is.width is.most p h

-- What is read was written.
pub plate_exact : (s : List ℕ) (p : Plate) → Bytes s → read_plate s ≡ some p → (s ≡ plate_bytes p) × (good_plate p ≡ true)
plate_exact s p b h =
    let e = edition_of s in
    let is = is_of_lem s in
    let x = exact_in e is.number is.width is.most s p b h in
    let f = rules_fit e p x.1 in
    let same = is.for (length p.rules) f.0 f.1 in
    (x.0 ∙ ap (λ (y : Edition). bytes_in y p) (sym same), ap (λ (y : Edition). good_in y p) same ∙ x.1)

-- A head takes 32 bits, whatever its edition.
pub head_length : (rules foldings : ℕ) (flag : Bool) → length (head_of rules foldings flag) ≡ 32
head_length rules foldings flag = by_test (λ e. length (head_in e rules foldings flag) ≡ 32) (leb rules 512) edition1 edition2 (λ _. refl) (λ _. refl)

-- What a good plate holds, whatever its edition.
pub record GoodIs (p : Plate) : Type 0 where
  pub few : length p.rules ≤ most_rules
  pub rules : every good_rule p.rules ≡ true
  pub order : ordered p.rules ≡ true
  pub foldings : good_foldings p.foldings ≡ true

pub good_is : (p : Plate) → good_plate p ≡ true → GoodIs p
good_is p h =
    let n = length p.rules in
    let e = edition_for n in
    let fit = (rules_fit e p h).1 in
    let most = by_test (λ e. e.most ≤ most_rules) (leb n 512) edition1 edition2 (λ _. omega arith) (λ _. omega arith) in
    let a = and_true (good_rules e p.rules) (good_foldings p.foldings) h in
    let b = and_true (every good_rule p.rules) (ordered p.rules) (and_true (between e.least e.most n) (every good_rule p.rules && ordered p.rules) a.0).1 in
    record { few = omega (arith, fit, most); rules = b.0; order = b.1; foldings = a.1 }

pub is_good : (p : Plate) → GoodIs p → good_plate p ≡ true
is_good p h =
    let n = length p.rules in
    let fits : between (edition_for n).least (edition_for n).most n ≡ true =
    by_test (λ e. between e.least e.most n ≡ true) (leb n 512) edition1 edition2
    (λ t. is_between 0 512 n (omega arith) (leb-true n 512 t)) (λ t. is_between 513 1500 n (leb-false n 512 t) h.few) in
    both_true (both_true fits (both_true h.rules h.order)) h.foldings
