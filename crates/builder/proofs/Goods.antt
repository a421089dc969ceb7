-- What build writes is accepted, and says what the text says. The items of a text are clean, an item that is clean and without fault keeps a good book good,
-- and the blank book is good: so the plate of the last book is good, and the bytes of a good plate are accepted and read back. Assumes nothing.
use Prim.Native.Nat.{ℕ, zero, suc}
use mathlib.Core.Path.{◌≡◌, refl, ap, subst, ◌∙◌}
use mathlib.Core.Bool.{Bool, true, ◌&&◌}
use mathlib.Core.Option.{some}
use mathlib.Core.List.{List, [], ◌∷◌}
use native.Mathlib.Omega.{arith}
use borrow.Author.Tests.{ltb-true, lt-ltb}
use lib.Dec.{ltb}
use lib.ListN.{length, take, drop}
use lib.Seq.{take-append_seam}
use Rattle.laws.specs.Lists.{every}
use Rattle.laws.proofs.Tests.{and_true, both_true, by_test, is_between}
use Rattle.chars.specs.Utf8.{is_text}
use Rattle.rule_text.specs.Items.{Saying, Item, items}
use Rattle.rule_text.specs.Items.Saying.{RuleItem, FoldingItem, LineEndItem, CommentItem, UnknownItem}
use Rattle.rule_text.specs.Fields.{bar}
use Rattle.rule_text.proofs.Clean.{Clean, AllClean, items_clean}
use Rattle.plate.specs.Plate.{nonzero_byte, good_plate}
use Rattle.plate.specs.Written.{plate_bytes}
use Rattle.plate.specs.Read.{accepted, read_plate}
use Rattle.plate.proofs.Packed.{Bytes}
use Rattle.plate.proofs.Round.{plate_reads, plate_accepted}
use Rattle.book.specs.Book.{Book, blank, folding_of, plate_of}
use Rattle.book.proofs.Goods.{Good, blank_good, plate_good, with_rule_good, with_folding_good}
use Rattle.builder.specs.Build.{longest_text, enter, fault, Verdict, unless, verdict, Built, refusal, answered, nonzero, build_answer}
use Rattle.builder.specs.Build.Verdict.{Faulty, Fine}

-- ---- an item that is clean and without fault keeps a good book good

enter_good : (s : Saying) (b : Book) → Clean nonzero_byte s → fault s b ≡ 0 → Good b → Good (enter s b)
enter_good (RuleItem p s v o) b c e g = with_rule_good bar p s v o b c e g
enter_good (FoldingItem key target) b c e g =
    with_folding_good (folding_of key target) b (both_true (both_true (lt-ltb 0 key c.1) c.0) (both_true (lt-ltb 0 target c.3) c.2)) e g
enter_good LineEndItem b c e g = g
enter_good CommentItem b c e g = g
enter_good UnknownItem b c e g = absurd (omega arith)

-- A verdict is a good book, or a fault with its number.
abbrev Fair : Verdict → Type 0
Fair (Faulty number place) = number ≡ 0 → ⊥
Fair (Fine b) = Good b

verdict_fair : (b : Book) (is : List Item) → AllClean nonzero_byte is → Good b → Fair (verdict b is)
unfolding verdict
verdict_fair b [] c g = g
verdict_fair b (i ∷ more) c g = go (fault i.saying b) (λ e. verdict_fair (enter i.saying b) more c.1 (enter_good i.saying b c.0 e g))
  where
    go : (n : ℕ) → (n ≡ 0 → Fair (verdict (enter i.saying b) more)) → Fair (unless n i.place (verdict (enter i.saying b) more))
    go zero f = f refl
    go (suc n) f = λ e. omega arith

bytes_nonzero : (l : List ℕ) → Bytes l → every nonzero l ≡ true → every nonzero_byte l ≡ true
bytes_nonzero [] b h = refl
bytes_nonzero (x ∷ xs) b h =
    let a = and_true (nonzero x) (every nonzero xs) h in
    let above = ltb-true 0 x a.0 in
    let below = b.0 in both_true (is_between 1 255 x (omega arith) (omega arith)) (bytes_nonzero xs b.1 a.1)

text_fair : (text : List ℕ) → Bytes text → is_text text && every nonzero text ≡ true → Fair (verdict blank (items text))
text_fair text bytes h =
    let a = and_true (is_text text) (every nonzero text) h in
    verdict_fair blank (items text) (items_clean nonzero_byte refl text a.0 (bytes_nonzero text bytes a.1)) blank_good

-- ---- the plate that a text says

-- A text without fault says a good plate.
pub build_good : (text : List ℕ) → Bytes text → is_text text && every nonzero text ≡ true → (b : Book) → verdict blank (items text) ≡ Fine b
    → (flag : Bool) → good_plate (plate_of flag b) ≡ true
build_good text bytes h b e flag = plate_good flag b (subst Fair e (text_fair text bytes h))

-- What an answer of build says: with number 0 the text has no fault, and the bytes written are accepted and read back as the plate that the text says.
abbrev pub Accepted : List ℕ → Bool → Built → Type 0
Accepted text flag a =
    a.number ≡ 0
    → (b : Book)
    × (verdict blank (items text) ≡ Fine b)
    × (accepted (take a.length a.buffer) ≡ true)
    × (read_plate (take a.length a.buffer) ≡ some (plate_of flag b))

-- What build writes is accepted, and reads back as what the text says.
pub build_accepted : (text : List ℕ) (flag : Bool) (lent : List ℕ) → Bytes text → Accepted text flag (build_answer text flag lent)
unfolding build_answer
build_accepted text flag lent bytes =
    by_test (Accepted text flag) (ltb longest_text (length text)) (refusal 1 0 lent) _ (λ e n. absurd (omega arith)) λ e.
    by_test (Accepted text flag) (is_text text && every nonzero text) _ (refusal 2 0 lent)
    (λ h. go (verdict blank (items text)) refl (text_fair text bytes h)) (λ h n. absurd (omega arith))
  where
    go : (v : Verdict) → verdict blank (items text) ≡ v → Fair v → Accepted text flag (answered text flag lent v)
    go (Faulty number place) e f = λ n. absurd (f n)
    go (Fine b) e f =
        let p = plate_of flag b in
        let s = plate_bytes p in
        let good : good_plate p ≡ true = plate_good flag b f in
        let same = take-append_seam s (drop (length s) lent) in
        by_test (Accepted text flag) (ltb (length lent) (length s)) (refusal 9 0 lent) _ (λ h n. absurd (omega arith))
        (λ h n. (b, e, ap accepted same ∙ plate_accepted p good, ap read_plate same ∙ plate_reads p good))
