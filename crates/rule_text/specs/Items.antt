-- The items of a whole text: the place and the length of each, and what it says; and the line of a place. 01, "Rule text, item by item", and 02, M-102.
-- Assumes nothing.
use Rattle.std.specs.Prelude.{ℕ, zero, suc, ◌+◌, ◌-◌, cond, List, [], ◌∷◌, eqb, take, drop}
use Rattle.laws.specs.Lists.{count_of}
use Rattle.rule_text.specs.Forms.{newline, inside, entry}
use Rattle.rule_text.specs.declared.Entry.{Entry}
use Rattle.rule_text.specs.declared.Entry.TheVariants as E

-- What an item says. A rule is its four parts as they stand between the quotes: pattern, start, before vowel, default.
pub data Saying : Type 0 where
  RuleItem : List ℕ → List ℕ → List ℕ → List ℕ → Saying
  FoldingItem : ℕ → ℕ → Saying
  LineEndItem : Saying
  CommentItem : Saying
  UnknownItem : Saying

-- An item: how many bytes of the text stand before its first, how many it has, and what it says.
pub record Item : Type 0 where
  pub place : ℕ
  pub length : ℕ
  pub saying : Saying

-- what an item says whose forms were found at places of l
abbrev pub said : List ℕ → Entry → Saying
said l (E.Rule four) = RuleItem (inside l four.pattern) (inside l four.start) (inside l four.vowel) (inside l four.other)
said l (E.Folding key target next) = FoldingItem key target
said l (E.LineEnd next) = LineEndItem
said l (E.Comment next) = CommentItem
said l E.Unknown = UnknownItem

-- 02, M-111: "an unrecognised item through its next newline, or to the end of text"
unfoldable pub through_newline : List ℕ → ℕ
through_newline [] = 0
through_newline (x ∷ xs) = cond (eqb x newline) 1 (suc (through_newline xs))

-- how many bytes an item takes
abbrev pub taken : List ℕ → Entry → ℕ
taken l (E.Rule four) = four.next
taken l (E.Folding key target next) = next
taken l (E.LineEnd next) = next
taken l (E.Comment next) = next
taken l E.Unknown = through_newline l

-- the item at a place, l the bytes from there on
abbrev pub item_of : ℕ → List ℕ → Entry → Item
item_of place l e = record { place = place; length = taken l e; saying = said l e }

-- An item that is not recognised ends the reading.
abbrev pub followed : Entry → List Item → List Item
followed (E.Rule four) is = is
followed (E.Folding key target next) is = is
followed (E.LineEnd next) is = is
followed (E.Comment next) is = is
followed E.Unknown is = []

-- The items front to back, sought while bytes remain; so many bytes stand before these, and k bytes of the item before are still to pass.
unfoldable pub items_from : ℕ → ℕ → List ℕ → List Item
items_from place k [] = []
items_from place (suc k) (x ∷ xs) = items_from (suc place) k xs
items_from place zero (x ∷ xs) =
    let e = entry (x ∷ xs) in item_of place (x ∷ xs) e ∷ followed e (items_from (suc place) (taken (x ∷ xs) e - 1) xs)

-- the items from a place of a text on
abbrev pub items_at : List ℕ → ℕ → List Item
items_at text place = items_from place 0 (drop place text)

abbrev pub items : List ℕ → List Item
items text = items_at text 0

-- 02, M-102: "The line is from now on 1 plus the newlines before the faulty item's first byte."
abbrev pub line_of : List ℕ → ℕ → ℕ
line_of text place = 1 + count_of newline (take place text)
