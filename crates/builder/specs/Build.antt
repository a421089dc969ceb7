-- What build answers. 01, "Numbers that come back": "Build checks 1, then 2 (whole text), then items front to back, the first fault in the text deciding.
-- Inside a rule: 4, 5, then the three fields left to right (6 before 7 in each field), then 8. Last 9." Assumes nothing.
use Rattle.std.specs.Prelude.{ℕ, zero, suc, Bool, cond, ◌&&◌, List, [], ◌∷◌, ◌++◌, ltb, length, drop}
use Rattle.laws.specs.Lists.{every}
use Rattle.chars.specs.Utf8.{is_text}
use Rattle.rule_text.specs.Items.{Saying, Item, items, line_of}
use Rattle.rule_text.specs.Items.Saying.{RuleItem, FoldingItem, LineEndItem, CommentItem, UnknownItem}
use Rattle.rule_text.specs.Fields.{bar}
use Rattle.plate.specs.Written.{plate_bytes}
use Rattle.book.specs.Book.{Book, blank, with_rule, with_folding, rule_of, folding_of, rule_fault, folding_fault, plate_of}

-- ---- the book: what the items so far have said, in the plate's order

abbrev pub enter : Saying → Book → Book
enter (RuleItem p s v o) b = with_rule (rule_of bar p s v o) b
enter (FoldingItem key target) b = with_folding (folding_of key target) b
enter LineEndItem b = b
enter CommentItem b = b
enter UnknownItem b = b

-- the fault of an item behind those in the book, 0 for none; 3: "an item of rule text is not recognised"; 8: "rule 1,501 or, as before, the 129th key";
-- 02, M-107: "The limit of refusal 8 still counts" a rule that is left out
abbrev pub fault : Saying → Book → ℕ
fault (RuleItem p s v o) b = rule_fault (rule_of bar p s v o) b.read
fault (FoldingItem key target) b = folding_fault (folding_of key target) b.foldings
fault LineEndItem b = 0
fault CommentItem b = 0
fault UnknownItem b = 3

-- ---- "items front to back, the first fault in the text deciding"

-- the number and the place of the item at fault, or what the items have said
pub data Verdict : Type 0 where
  Faulty : ℕ → ℕ → Verdict
  Fine : Book → Verdict

abbrev pub unless : ℕ → ℕ → Verdict → Verdict
unless zero place v = v
unless (suc n) place v = Faulty (suc n) place

unfoldable pub verdict : Book → List Item → Verdict
verdict b [] = Fine b
verdict b (i ∷ more) = unless (fault i.saying b) i.place (verdict (enter i.saying b) more)

-- ---- "Build answers number, line and plate length; line is 0 except with 3 to 8, length is 0 on refusal. [..] After success the bytes behind the
-- result are as lent; after refusal all are."

pub record Built : Type 0 where
  pub number : ℕ
  pub line : ℕ
  pub length : ℕ
  pub buffer : List ℕ

abbrev pub refusal : ℕ → ℕ → List ℕ → Built
refusal number line lent = record { number = number; line = line; length = 0; buffer = lent }

-- 9: "lent buffer shorter than the plate"
abbrev pub delivered : List ℕ → List ℕ → Built
delivered plate lent =
    cond (ltb (length lent) (length plate)) (refusal 9 0 lent) (record { number = 0; line = 0; length = length plate; buffer = plate ++ drop (length plate) lent })

-- 02, M-102: "The line is from now on 1 plus the newlines before the faulty item's first byte."
abbrev pub answered : List ℕ → Bool → List ℕ → Verdict → Built
answered text flag lent (Faulty number place) = refusal number (line_of text place) lent
answered text flag lent (Fine b) = delivered (plate_bytes (plate_of flag b)) lent

abbrev pub nonzero : ℕ → Bool
nonzero b = ltb 0 b

abbrev pub longest_text : ℕ
longest_text = 65536

-- 1: "rule text over 65,536 bytes"; 2: "not UTF-8, or rule text holds a zero byte"
unfoldable pub build_answer : List ℕ → Bool → List ℕ → Built
build_answer text flag lent =
    cond (ltb longest_text (length text)) (refusal 1 0 lent)
    (cond (is_text text && every nonzero text) (answered text flag lent (verdict blank (items text))) (refusal 2 0 lent))
