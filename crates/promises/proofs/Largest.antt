-- The largest plate: no plate of n rules that obeys the table is longer than so many bytes, and one is as long: 128 foldings, every field full. Of 512 rules
-- it takes 51,428 bytes, of 1,500 it takes 149,364.
-- Assumes nothing.
use Prim.Native.Nat.{ℕ, zero, suc, ◌+◌, ◌-◌, ◌*◌, ◌/◌, ◌≤◌}
use mathlib.Core.Path.{◌≡◌, refl, sym, ap, subst, ◌∙◌}
use mathlib.Core.Bool.{Bool, true, ◌&&◌}
use mathlib.Core.List.{List, [], ◌∷◌, ◌++◌}
use native.Mathlib.Nat.{mul-suc, mul-le-mul_left}
use native.Mathlib.Omega.{arith}
use borrow.Author.Tests.{leb-true}
use lib.Dec.{leb}
use lib.ListN.{length, replicate, length-append, length-replicate}
use Rattle.laws.specs.Lists.{every, cat, between}
use Rattle.laws.proofs.Tests.{and_true, both_true, between_true}
use Rattle.chars.specs.Utf8.{is_text, text_from}
use Rattle.chars.specs.Digits.{digit, is_alternative}
use Rattle.plate.specs.Bits.{bits_of}
use Rattle.plate.specs.Plate.{Folding, Rule, Plate, most_foldings, nonzero_byte, good_pattern, good_field, good_rule, good_folding, good_plate, rising, may_precede, ordered}
use Rattle.plate.specs.Written.{with_count, digit_bits, alternative_bits, field_bits, rule_bits, folding_bits, head_of, plate_bytes}
use Rattle.plate.proofs.Packed.{length_bits_of}
use Rattle.plate.proofs.Round.{head_length, good_is, is_good}
use Rattle.book.proofs.Inks.{pack_length}
use Rattle.promises.specs.Demands.{LargestOf, Largest}

-- ---- how many bits

-- At most m each.
cat_most : {A : Type 0} (f : A → List ℕ) (t : A → Bool) (m : ℕ) → ((x : A) → t x ≡ true → length (f x) ≤ m) → (l : List A) → every t l ≡ true → length (cat f l) ≤ m * length l
cat_most f t m h [] e = omega arith
cat_most f t m h (x ∷ l) e =
    let b = and_true (t x) (every t l) e in
    let one = h x b.0 in
    let rest = cat_most f t m h l b.1 in
    let sum = length-append (f x) (cat f l) in
    let more = mul-suc m (length l) in omega arith

-- A list behind its count: the count's bits, and at most m for each of at most n.
with_count_most : {A : Type 0} (w : ℕ) (f : A → List ℕ) (t : A → Bool) (m n : ℕ) → ((x : A) → t x ≡ true → length (f x) ≤ m) → (l : List A) → every t l ≡ true → length l ≤ n
    → length (with_count w f l) ≤ w + m * n
with_count_most w f t m n h l e few =
    let sum = length-append (bits_of w (length l)) (cat f l) in
    let head = length_bits_of w (length l) in
    let rest = cat_most f t m h l e in
    let grown = mul-le-mul_left {m = length l} {n = n} m few in omega arith

every_any : {A : Type 0} (l : List A) → every (λ (x : A). true) l ≡ true
every_any [] = refl
every_any (x ∷ l) = every_any l

alternative_most_lem : (a : List ℕ) → is_alternative a ≡ true → length (alternative_bits a) ≤ 27
alternative_most_lem a h =
    let b = and_true (leb (length a) 6) (every digit a) h in
    with_count_most 3 digit_bits (λ d. true) 4 6 (λ d e. let n = length_bits_of 4 (d - 48) in omega arith) a (every_any a) (leb-true (length a) 6 b.0)

field_most_lem : (f : List (List ℕ)) → good_field f ≡ true → length (field_bits f) ≤ 220
field_most_lem f h =
    let b = and_true (between 1 8 (length f)) (every is_alternative f) h in
    let few = between_true 1 8 (length f) b.0 in
    with_count_most 4 alternative_bits is_alternative 27 8 alternative_most_lem f b.1 few.1

pattern_most : (p : List ℕ) → good_pattern p ≡ true → length (with_count 5 (bits_of 8) p) ≤ 133
pattern_most p h =
    let b = and_true (between 1 16 (length p)) (every nonzero_byte p && is_text p) h in
    let few = between_true 1 16 (length p) b.0 in
    with_count_most 5 (bits_of 8) (λ c. true) 8 16 (λ c e. let n = length_bits_of 8 c in omega arith) p (every_any p) few.1

rule_most : (r : Rule) → good_rule r ≡ true → length (rule_bits r) ≤ 793
rule_most r h =
    let a = and_true (good_pattern r.pattern) (good_field r.start && (good_field r.vowel && good_field r.other)) h in
    let b = and_true (good_field r.start) (good_field r.vowel && good_field r.other) a.1 in
    let c = and_true (good_field r.vowel) (good_field r.other) b.1 in
    let p = pattern_most r.pattern a.0 in
    let s = field_most_lem r.start b.0 in
    let v = field_most_lem r.vowel c.0 in
    let o = field_most_lem r.other c.1 in
    let one = length-append (with_count 5 (bits_of 8) r.pattern) (field_bits r.start ++ (field_bits r.vowel ++ field_bits r.other)) in
    let two = length-append (field_bits r.start) (field_bits r.vowel ++ field_bits r.other) in
    let three = length-append (field_bits r.vowel) (field_bits r.other) in omega arith

folding_bits_lem : (f : Folding) → length (folding_bits f) ≡ 42
folding_bits_lem f =
    let key = length_bits_of 21 f.key in
    let target = length_bits_of 21 f.target in length-append (bits_of 21 f.key) (bits_of 21 f.target) ∙ omega arith

-- the bits of a plate: its head takes 32
abbrev bits_of_lem : Plate → List ℕ
bits_of_lem p = head_of (length p.rules) (length p.foldings) p.flag ++ (cat folding_bits p.foldings ++ cat rule_bits p.rules)

plate_bits : (p : Plate) → length (bits_of_lem p) ≡ 32 + (length (cat folding_bits p.foldings) + length (cat rule_bits p.rules))
plate_bits p =
    let head = head_length (length p.rules) (length p.foldings) p.flag in
    let two = length-append (cat folding_bits p.foldings) (cat rule_bits p.rules) in
    length-append (head_of (length p.rules) (length p.foldings) p.flag) (cat folding_bits p.foldings ++ cat rule_bits p.rules) ∙ omega arith

-- n rules of 793 bits, 128 foldings of 42
plate_most : (p : Plate) (n : ℕ) → good_plate p ≡ true → length p.rules ≤ n → length (plate_bytes p) ≤ (32 + 42 * 128 + 793 * n + 7) / 8
plate_most p n h few_rules =
    let g = good_is p h in
    let d = and_true (leb (length p.foldings) most_foldings) (every good_folding p.foldings && rising p.foldings) g.foldings in
    let fewFoldings = leb-true (length p.foldings) 128 d.0 in
    let rules = cat_most rule_bits good_rule 793 rule_most p.rules g.rules in
    let foldings = cat_most folding_bits (λ f. true) 42 (λ f e. let n = folding_bits_lem f in omega arith) p.foldings (every_any p.foldings) in
    let bits = plate_bits p in
    let size = pack_length (bits_of_lem p) in omega arith

-- ---- one that is as long

-- a rule with all that it may have
abbrev full : Rule
full = let field : List (List ℕ) = replicate 8 (replicate 6 48) in record { pattern = replicate 16 97; start = field; vowel = field; other = field }

-- n foldings with rising keys from k on
abbrev risen : ℕ → ℕ → List Folding
risen zero k = []
risen (suc n) k = record { key = k; target = 97 } ∷ risen n (suc k)

abbrev whole : ℕ → Plate
whole n = record { flag = true; foldings = risen 128 1; rules = replicate n full }

many_bits : {A : Type 0} (f : A → List ℕ) (m n : ℕ) (x : A) → length (f x) ≡ m → length (cat f (replicate n x)) ≡ m * n
many_bits f m zero x e = omega arith
many_bits f m (suc n) x e =
    let rest = many_bits f m n x e in
    let more = mul-suc m n in length-append (f x) (cat f (replicate n x)) ∙ omega arith

risen_bits : (n k : ℕ) → length (cat folding_bits (risen n k)) ≡ 42 * n
risen_bits zero k = refl
risen_bits (suc n) k =
    let f : Folding = record { key = k; target = 97 } in
    let one = folding_bits_lem f in
    let rest = risen_bits n (suc k) in length-append (folding_bits f) (cat folding_bits (risen n (suc k))) ∙ omega arith

full_good : (good_rule full ≡ true) × (may_precede full full ≡ true)
unfolding text_from
full_good = (refl, refl)

all_full : (n : ℕ) → every good_rule (replicate n full) ≡ true
all_full zero = refl
all_full (suc n) = both_true full_good.0 (all_full n)

all_ordered : (n : ℕ) → ordered (replicate n full) ≡ true
all_ordered zero = refl
all_ordered (suc zero) = refl
all_ordered (suc (suc n)) = both_true full_good.1 (all_ordered (suc n))

whole_good : (n : ℕ) → n ≤ 1500 → good_plate (whole n) ≡ true
whole_good n h =
    let long = length-replicate n full in
    is_good (whole n) (record { few = omega arith; rules = all_full n; order = all_ordered n; foldings = refl })

whole_size : (n : ℕ) → length (plate_bytes (whole n)) ≡ (32 + 42 * 128 + 793 * n + 7) / 8
whole_size n =
    let rules = many_bits rule_bits 793 n full refl in
    let foldings = risen_bits 128 1 in
    let bits : length (bits_of_lem (whole n)) ≡ 32 + 42 * 128 + 793 * n = plate_bits (whole n) ∙ omega arith in
    pack_length (bits_of_lem (whole n)) ∙ ap (λ (m : ℕ). (m + 7) / 8) bits

largest_of : (n : ℕ) → n ≤ 1500 → LargestOf n ((32 + 42 * 128 + 793 * n + 7) / 8)
largest_of n h =
    record {
      none = λ bytes p w few. subst (λ (s : List ℕ). length s ≤ (32 + 42 * 128 + 793 * n + 7) / 8) (sym w.1) (plate_most p n w.0 few);
      one = record { plate = whole n; bytes = plate_bytes (whole n); is = (whole_good n h, refl); ruled = length-replicate n full; sized = whole_size n };
    }

pub largest : Largest
largest = (largest_of 512 (omega arith), largest_of 1500 (omega arith), λ bytes p w. (good_is p w.0).few)
