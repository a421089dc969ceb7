-- What build answers, by each way out: the length, the check of the whole text, the first fault, the room, and the plate. Assumes nothing.
use Prim.Native.Nat.{ℕ, zero, suc, ◌<◌, ◌≤◌}
use mathlib.Core.Path.{◌≡◌, refl, sym, ◌∙◌, ap}
use mathlib.Core.Bool.{Bool, true, false, cond, not, ◌&&◌, ◌||◌}
use mathlib.Core.List.{List, [], ◌∷◌, ◌++◌}
use native.Mathlib.Omega.{arith}
use borrow.Author.Tests.{lt-ltb, le-ltb, ne_eqb}
use lib.ListN.{length, drop}
use Rattle.std.specs.Prelude.{Result, Ok, Err}
use Rattle.laws.specs.Lists.{every, some}
use Rattle.laws.proofs.Tests.{and_left_false, and_right_false, both_true}
use Rattle.chars.specs.Utf8.{is_text}
use Rattle.chars.specs.Answers.{is_zero, checked}
use Rattle.chars.specs.declared.NotUtf8.{NotUtf8}
use Rattle.chars.proofs.Checks.{says}
use Rattle.rule_text.specs.Items.{items, line_of}
use Rattle.book.specs.Book.{Book, blank}
use Rattle.book.specs.Pen.{Stored}
use Rattle.book.specs.Writing.{bytes_of}
use Rattle.builder.specs.Build as Build
use Rattle.builder.specs.Build.{verdict, refusal, delivered, answered, nonzero, build_answer}
use Rattle.builder.specs.Build.Verdict.{Faulty, Fine}

-- Each byte is nonzero where none is zero.
none_zero : (l : List ℕ) → every nonzero l ≡ not (some is_zero l)
none_zero [] = refl
none_zero (zero ∷ xs) = refl
none_zero (suc n ∷ xs) = ap (λ (t : Bool). t && every nonzero xs) (lt-ltb 0 (suc n) (omega arith)) ∙ none_zero xs ∙ ap (λ (t : Bool). not (t || some is_zero xs))
    (sym (ne_eqb (suc n) 0 (λ e. omega arith)))

module _ (text : List ℕ) (flag : Bool) (lent : List ℕ) where
  pub too_long : 65536 < length text → refusal 1 0 lent ≡ build_answer text flag lent
  unfolding build_answer
  too_long h =
      sym (ap
      (λ (t : Bool).
      cond t (refusal 1 0 lent) (cond (is_text text && every nonzero text) (answered text flag lent (verdict blank (items text))) (refusal 2 0 lent)))
      (lt-ltb 65536 (length text) h))

  module _ (h : length text ≤ 65536) where
    fits : build_answer text flag lent ≡ cond (is_text text && every nonzero text) (answered text flag lent (verdict blank (items text))) (refusal 2 0 lent)
    unfolding build_answer
    fits =
        ap
        (λ (t : Bool).
        cond t (refusal 1 0 lent) (cond (is_text text && every nonzero text) (answered text flag lent (verdict blank (items text))) (refusal 2 0 lent)))
        (le-ltb 65536 (length text) h)

    two : is_text text && every nonzero text ≡ false → refusal 2 0 lent ≡ build_answer text flag lent
    two e = sym (fits ∙ ap (λ (t : Bool). cond t (answered text flag lent (verdict blank (items text))) (refusal 2 0 lent)) e)

    pub not_text : (y : NotUtf8) {r : Result Bool NotUtf8} → r ≡ checked text → r ≡ Err y → refusal 2 0 lent ≡ build_answer text flag lent
    not_text y e f = two (and_left_false (is_text text) (every nonzero text) (says text (Err y) (sym f ∙ e)).0)

    module _ (holds : Bool) {r : Result Bool NotUtf8} (e : r ≡ checked text) (f : r ≡ Ok holds) where
      told : (is_text text ≡ true) × (every nonzero text ≡ not holds)
      told = let s = says text (Ok holds) (sym f ∙ e) in (s.0, none_zero text ∙ ap not (sym s.1))

      pub holds_zero : holds ≡ true → refusal 2 0 lent ≡ build_answer text flag lent
      holds_zero z = two (and_right_false (is_text text) (every nonzero text) (told.1 ∙ ap not z))

      pub read : holds ≡ false → build_answer text flag lent ≡ answered text flag lent (verdict blank (items text))
      read z =
          fits
          ∙ ap (λ (t : Bool). cond t (answered text flag lent (verdict blank (items text))) (refusal 2 0 lent)) (both_true told.0 (told.1 ∙ ap not z))

  -- The items decide.
  module _ (r : build_answer text flag lent ≡ answered text flag lent (verdict blank (items text))) where
    -- The line is that of the faulty item's place.
    pub faulty : (number place : ℕ) {line : ℕ} → line ≡ line_of text place → verdict blank (items text) ≡ Faulty number place
        → refusal number line lent ≡ build_answer text flag lent
    faulty number place l v = ap (λ (n : ℕ). refusal number n lent) l ∙ sym (r ∙ ap (answered text flag lent) v)

    -- The text has no fault, and says a book.
    module _ (b : Book) (v : verdict blank (items text) ≡ Fine b) where
      fine : build_answer text flag lent ≡ delivered (bytes_of flag b) lent
      fine = r ∙ ap (answered text flag lent) v

      pub no_room : length lent < length (bytes_of flag b) → refusal 9 0 lent ≡ build_answer text flag lent
      no_room l =
          sym (fine
          ∙ ap
          (λ (t : Bool).
          cond t (refusal 9 0 lent)
          (record { number = 0; line = 0; length = length (bytes_of flag b); buffer = bytes_of flag b ++ drop (length (bytes_of flag b)) lent }))
          (lt-ltb (length lent) (length (bytes_of flag b)) l))

      pub plate_built : (n : ℕ) (out : List ℕ) → n ≤ length lent → Stored lent (bytes_of flag b) out n
          → ◌≡◌ {A = Build.Built} (record { number = 0; line = 0; length = n; buffer = out }) (build_answer text flag lent)
      plate_built n out l w =
          let plate = bytes_of flag b in
          let enough : length plate ≤ length lent = omega (arith, w.1) in
          (λ i. record { number = 0; line = 0; length = w.1 i; buffer = (w.0 ∙ ap (λ (m : ℕ). plate ++ drop m lent) w.1) i })
          ∙ sym (fine
          ∙ ap
          (λ (t : Bool).
          cond t (refusal 9 0 lent) (record { number = 0; line = 0; length = length plate; buffer = plate ++ drop (length plate) lent }))
          (le-ltb (length lent) (length plate) enough))
