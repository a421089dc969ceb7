-- What is written, part behind part: a rule, the head, the whole plate. Assumes nothing.
use Prim.Native.Nat.{ℕ, ◌+◌, ◌-◌, ◌*◌, ◌/◌, ◌≤◌}
use mathlib.Core.Path.{◌≡◌, refl, sym, ◌∙◌, ap, ap₂}
use mathlib.Core.Bool.{Bool}
use mathlib.Core.List.{List, [], ◌∷◌, ◌++◌, map, append-nil}
use native.Mathlib.Omega.{arith}
use lib.ListN.{length, take, drop, length-append, length-map}
use lib.Seq.{length-take-le, drop-drop}
use Rattle.laws.specs.Lists.{cat}
use Rattle.plate.specs.Bits.{bits_of, unpack, pack}
use Rattle.plate.specs.Plate.{Rule}
use Rattle.plate.specs.Written.{with_count, flag_bit, field_bits, rule_bits, folding_bits, head_of}
use Rattle.plate.specs.Answers.{HeadIs}
use Rattle.plate.specs.declared.edition.Head.{Head}
use Rattle.plate.proofs.Round.{head_length}
use Rattle.book.specs.Pen.{Begins, bits_in, Ready, Wrote, Stored, Finished}
use Rattle.book.specs.Sort.{folding_in}
use Rattle.book.specs.Note.{place_in, rules_in, book_of, Kept, InOrder}
use Rattle.book.specs.Writing.{bytes_of}
use Rattle.book.specs.declared.pen.Sheet.{Sheet}
use Rattle.book.specs.declared.Tally.{Tally}
use Rattle.book.proofs.Inks.{wrote_then, ready_first, ready_then, ready_as, pack_length}
use Rattle.book.proofs.Measures.{cat_length, folding_length}

pub cat_map : {A B : Type 0} (g : B → List ℕ) (f : A → B) (l : List A) → cat g (map f l) ≡ cat (λ a. g (f a)) l
cat_map g f [] = refl
cat_map g f (x ∷ xs) = ap (λ (more : List ℕ). g (f x) ++ more) (cat_map g f xs)

-- ---- a rule: its pattern's length, the bytes, three fields

module _ (q : Rule) {sheet : Sheet} (r : Ready sheet (rule_bits q)) where
  abbrev N : List ℕ
  N = bits_of 5 (length q.pattern)

  abbrev B : List ℕ
  B = cat (bits_of 8) q.pattern

  abbrev S : List ℕ
  S = field_bits q.start

  abbrev W : List ℕ
  W = field_bits q.vowel

  abbrev O : List ℕ
  O = field_bits q.other

  pub ready_pattern : Ready sheet (with_count 5 (bits_of 8) q.pattern)
  ready_pattern = ready_first (N ++ B) (S ++ (W ++ O)) r

  module _ {sheet₁ : Sheet} (w₁ : Wrote sheet (with_count 5 (bits_of 8) q.pattern) sheet₁) where
    behind_pattern : Ready sheet₁ (S ++ (W ++ O))
    behind_pattern = ready_then (N ++ B) (S ++ (W ++ O)) r w₁

    pub ready_start : Ready sheet₁ (field_bits q.start)
    ready_start = ready_first S (W ++ O) behind_pattern

    module _ {sheet₂ : Sheet} (w₂ : Wrote sheet₁ (field_bits q.start) sheet₂) where
      behind_start : Ready sheet₂ (W ++ O)
      behind_start = ready_then S (W ++ O) behind_pattern w₂

      pub ready_vowel : Ready sheet₂ (field_bits q.vowel)
      ready_vowel = ready_first W O behind_start

      module _ {sheet₃ : Sheet} (w₃ : Wrote sheet₂ (field_bits q.vowel) sheet₃) where
        pub ready_other : Ready sheet₃ (field_bits q.other)
        ready_other = ready_then W O behind_start w₃

        pub wrote_rule : {sheet₄ : Sheet} → Wrote sheet₃ (field_bits q.other) sheet₄ → Wrote sheet (rule_bits q) sheet₄
        wrote_rule w₄ = wrote_then (N ++ B) (S ++ (W ++ O)) w₁ (wrote_then S (W ++ O) w₂ (wrote_then W O w₃ w₄))

-- ---- the head

-- the head of a plate, whose number and whose width of the rule count are told
abbrev pub head_with : ℕ → ℕ → ℕ → ℕ → Bool → List ℕ
head_with number width rules foldings flag = bits_of 8 number ++ (bits_of width rules ++ (bits_of 8 foldings ++ (bits_of 1 (flag_bit flag) ++ bits_of (15 - width) 0)))

-- The head that plate tells of so many rules is theirs.
pub told_head : (rules foldings : ℕ) (flag : Bool) (h : Head) → HeadIs rules h → head_with h.number h.width rules foldings flag ≡ head_of rules foldings flag
told_head rules foldings flag h t = ap₂ (λ (n w : ℕ). head_with n w rules foldings flag) t.number t.width

-- Its five numbers, one behind the other.
module _ (number width rules foldings : ℕ) (flag : Bool) where
  abbrev H1 : List ℕ
  H1 = bits_of 8 number

  abbrev H2 : List ℕ
  H2 = bits_of width rules

  abbrev H3 : List ℕ
  H3 = bits_of 8 foldings

  abbrev H4 : List ℕ
  H4 = bits_of 1 (flag_bit flag)

  abbrev H5 : List ℕ
  H5 = bits_of (15 - width) 0

  pub wrote_head : {sheet sheet₁ sheet₂ sheet₃ sheet₄ sheet₅ : Sheet} → Wrote sheet (bits_of 8 number) sheet₁ → Wrote sheet₁ (bits_of width rules) sheet₂ → Wrote sheet₂ (bits_of 8 foldings) sheet₃
      → Wrote sheet₃ (bits_of 1 (flag_bit flag)) sheet₄ → Wrote sheet₄ (bits_of (15 - width) 0) sheet₅ → Wrote sheet (head_with number width rules foldings flag) sheet₅
  wrote_head w₁ w₂ w₃ w₄ w₅ =
      wrote_then H1 (H2 ++ (H3 ++ (H4 ++ H5))) w₁ (wrote_then H2 (H3 ++ (H4 ++ H5)) w₂ (wrote_then H3 (H4 ++ H5) w₃ (wrote_then H4 H5 w₄ w₅)))

-- ---- the plate

module _ (view : ℕ → Rule) {at : ℕ} (tally : Tally) (keys foldings : List ℕ) (flag : Bool) (k : Kept view at tally keys foldings)
    (o : InOrder tally keys) where
  abbrev H : List ℕ
  H = head_of tally.rules tally.foldings flag

  abbrev F : List ℕ
  F = cat folding_bits (map folding_in (take tally.foldings foldings))

  abbrev R : List ℕ
  R = cat rule_bits (rules_in view (take tally.rules keys))

  rules_length : length (rules_in view (take tally.rules keys)) ≡ tally.rules
  rules_length =
      let few = k.rules.few in
      let n = k.rules.few_read in
      let m = k.rules.room in
      length-map (take tally.rules keys) (λ i. view (place_in i)) ∙ length-take-le tally.rules keys (omega arith)

  foldings_length : length (map folding_in (take tally.foldings foldings)) ≡ tally.foldings
  foldings_length =
      let n = k.pairs.few in
      let m = k.pairs.room in length-map (take tally.foldings foldings) folding_in ∙ length-take-le tally.foldings foldings (omega arith)

  bits_length : length (H ++ (F ++ R)) ≡ 32 + 42 * tally.foldings + tally.bits
  bits_length =
      length-append H (F ++ R)
      ∙ omega (
        arith,
        head_length tally.rules tally.foldings flag,
        length-append F R,
        k.bits ∙ ap (λ (l : List ℕ). length (cat rule_bits (rules_in view l))) o,
        cat_length folding_bits 42 folding_length (map folding_in (take
            tally.foldings foldings)),
        foldings_length,
      )

  plate_is : pack (H ++ (F ++ R)) ≡ bytes_of flag (book_of view tally keys foldings)
  plate_is =
      ap₂ (λ (m n : ℕ). pack (head_of m n flag ++ (F ++ R))) (sym rules_length) (sym foldings_length)
      ∙ ap (λ (l : List ℕ). bytes_of flag (record { foldings = map folding_in (take tally.foldings foldings); rules = rules_in view l; read = tally.read })) (sym o)

  -- The plate's length in bytes, as the first pass has added it up.
  pub plate_length : length (bytes_of flag (book_of view tally keys foldings)) ≡ (32 + 42 * tally.foldings + tally.bits + 7) / 8
  plate_length = ap length (sym plate_is) ∙ pack_length (H ++ (F ++ R)) ∙ ap (λ (n : ℕ). (n + 7) / 8) bits_length

  module _ {out : List ℕ} (room : 32 + 42 * tally.foldings + tally.bits ≤ 8 * length out) {sheet : Sheet} (b : Begins out sheet) where
    ready₀ : Ready sheet (H ++ (F ++ R))
    ready₀ =
        record { room = omega (arith, room, bits_length, b.bytes, b.count, ap length b.lent) }

    module _ {sheet₁ : Sheet} (w₁ : Wrote sheet (head_of tally.rules tally.foldings flag) sheet₁) where
      ready₁ : Ready sheet₁ (F ++ R)
      ready₁ = ready_then H (F ++ R) ready₀ w₁

      pub ready_pairs : Ready sheet₁ (cat folding_bits (map folding_in (take tally.foldings foldings)))
      ready_pairs = ready_first F R ready₁

      module _ {sheet₂ : Sheet} (w₂ : Wrote sheet₁ (cat folding_bits (map folding_in (take tally.foldings foldings))) sheet₂) where
        pub ready_keys : Ready sheet₂ (cat rule_bits (rules_in view (take tally.rules keys)))
        ready_keys = ready_then F R ready₁ w₂

        module _ {sheet₃ : Sheet} (w₃ : Wrote sheet₂ (cat rule_bits (rules_in view (take tally.rules keys))) sheet₃) where
          all : Wrote sheet (H ++ (F ++ R)) sheet₃
          all = wrote_then H (F ++ R) w₁ (wrote_then F R w₂ w₃)

          pub ready_end : Ready sheet₃ []
          ready_end = ready_then (H ++ (F ++ R)) [] (ready_as (sym (append-nil (H ++ (F ++ R)))) ready₀) all

          -- No bits stood before them.
          none : bits_in sheet ≡ []
          none = ap₂ (λ (n m : ℕ). unpack (take n sheet.out.now) ++ bits_of m sheet.pen.begun) b.bytes b.count

          -- The bytes are the plate's, and what stood behind them.
          pub wrote_plate : (sheet₄ : Sheet) (n : ℕ) → Finished sheet₃ sheet₄ n → Stored out (bytes_of flag (book_of view tally keys foldings)) sheet₄.out.now n
          wrote_plate sheet₄ n h =
              let is : pack (bits_in sheet₃) ≡ bytes_of flag (book_of view tally keys foldings) =
              ap pack (all.is ∙ ap (λ (l : List ℕ). l ++ (H ++ (F ++ R))) none) ∙ plate_is in
              let le = h.1 in
              let on : sheet₃.pen.bytes + (n - sheet₃.pen.bytes) ≡ n = omega arith in
              let kept : drop n sheet₃.out.now ≡ drop n out =
              ap (λ (m : ℕ). drop m sheet₃.out.now) (sym on) ∙ sym (drop-drop (n - sheet₃.pen.bytes) sheet₃.pen.bytes sheet₃.out.now)
              ∙ ap (drop (n - sheet₃.pen.bytes)) (all.kept ∙ ap (drop sheet₃.pen.bytes) b.lent)
              ∙ drop-drop (n - sheet₃.pen.bytes) sheet₃.pen.bytes out ∙ ap (λ (m : ℕ). drop m out) on
              in (h.0.0 ∙ ap₂ ◌++◌ is kept, h.0.1 ∙ ap length is)
