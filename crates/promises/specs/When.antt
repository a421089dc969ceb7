-- When each number comes back. 01, "Numbers that come back": the table's conditions in its words, in the order in which they are checked. Every call's number
-- meets them (Demands.antt), and no other does (`Exclusive`): so a number is given exactly when its own condition holds and none before it. Assumes nothing.
use Rattle.std.specs.Prelude.{ℕ, ◌<◌, ◌≤◌, ◌≡◌, ◌⊎◌, Bool, true, false, cond, List, [], ◌∷◌, ◌++◌, eqb, length, take, drop}
use Rattle.laws.specs.Lists.{In, some}
use Rattle.chars.specs.Utf8.{char_of, is_text, chars_of}
use Rattle.chars.specs.declared.Char.TheVariants.{One, Bad}
use Rattle.chars.specs.Letters.{white, latin_end, cyrillic_first, cyrillic_last}
use Rattle.rule_text.specs.Items.{Saying, Item, items, line_of}
use Rattle.rule_text.specs.Items.Saying.{RuleItem, FoldingItem, LineEndItem, CommentItem, UnknownItem}
use Rattle.rule_text.specs.Fields.{alternatives}
use Rattle.chars.specs.Digits.{is_alternative}
use Rattle.plate.specs.Plate.{Folding, Plate}
use Rattle.plate.specs.Written.{plate_bytes}
use Rattle.branches.specs.Branches.{Use, start, run}
use Rattle.coder.specs.Name.{most_name}
use Rattle.coder.specs.Answer.{room}
use Rattle.coder.specs.Given.{uses_in}
use Rattle.promises.specs.Said.{rules_of, foldings_of, plate_said, IsPlate}

-- A check: where this holds the number is m, and only where it does not the rest decides.
abbrev pub Check : ℕ → ℕ → Type 0 → Type 0 → Type 0
Check n m when else = (when × (n ≡ m)) ⊎ ((when → ⊥) × else)

-- ---- encode and list: "check 10, 1, 2, 11, 12"

-- 10: "bytes that are not a plate"
abbrev pub NotAPlate : List ℕ → Type 0
NotAPlate bytes = (p : Plate) → IsPlate p bytes → ⊥

-- 11: "a character neither White_Space nor below U+0180"; 02, M-113: "refusal 11 now excludes that range too", U+0400 to U+045F
pub record Foreign (c : ℕ) : Type 0 where
  pub inked : white c ≡ false
  pub high : latin_end ≤ c
  pub apart : (c < cyrillic_first) ⊎ (cyrillic_last < c)

-- "name holds" one
pub record Strange (name : List ℕ) : Type 0 where
  pub c : ℕ
  pub among : In c (chars_of name)
  pub foreign : Foreign c

-- 02, M-101, with 2: "the first byte of the earliest sequence that is not UTF-8". What stands before it is UTF-8, and at it stands no character.
abbrev pub BadAt : List ℕ → ℕ → Type 0
BadAt name place = (is_text (take place name) ≡ true) × (char_of (drop place name) ≡ Bad)

-- With 11, the first byte of the first such character: what stands before it holds none, and at it stands one.
pub record StrangeAt (name : List ℕ) (place : ℕ) : Type 0 where
  pub c : ℕ
  pub width : ℕ
  pub text : is_text (take place name) ≡ true
  pub none : Strange (take place name) → ⊥
  pub stands : char_of (drop place name) ≡ One c width
  pub foreign : Foreign c

-- "refusals 2 and 11 of encode and list return that place, all other answers return 0."
pub record Placed (name : List ℕ) (n place : ℕ) : Type 0 where
  pub bad : n ≡ 2 → BadAt name place
  pub strange : n ≡ 11 → StrangeAt name place
  pub other : (n ≡ 2 → ⊥) → (n ≡ 11 → ⊥) → place ≡ 0

-- 12, for list: "the branch list, at the start or after some step, is longer than room"
pub record Overfull (plate name lent : List ℕ) : Type 0 where
  pub p : Plate
  pub is : IsPlate p plate
  pub done : List Use
  pub more : List Use
  pub cut : uses_in p name ≡ done ++ more
  pub longer : room lent < length (run done start)

-- The name's checks. 1: "name over 256 bytes"; `full` is the call's own condition for 12.
abbrev pub NameNumber : List ℕ → Type 0 → ℕ → Type 0
NameNumber name full n = Check n 1 (most_name < length name) (Check n 2 (is_text name ≡ false) (Check n 11 (Strange name) (Check n 12 full (n ≡ 0))))

-- number and place
abbrev pub ListNumber : List ℕ → List ℕ → List ℕ → ℕ → ℕ → Type 0
ListNumber plate name lent n place = Check n 10 (NotAPlate plate) (NameNumber name (Overfull plate name lent) n) × Placed name n place

-- 12: "For encode: the buffer is under 6 bytes."
abbrev pub EncodeNumber : List ℕ → List ℕ → List ℕ → ℕ → ℕ → Type 0
EncodeNumber plate name lent n place = Check n 10 (NotAPlate plate) (NameNumber name (length lent < 6) n) × Placed name n place

-- ---- build: "1, then 2 (whole text), then items front to back, the first fault in the text deciding. [..] Last 9."

-- 2: "not UTF-8, or rule text holds a zero byte"
abbrev pub NotClean : List ℕ → Type 0
NotClean text = (is_text text ≡ false) ⊎ In 0 text

-- 6: "a field with over 8 alternatives"; 7: "an alternative that is not 0 to 6 ASCII digits"; "6 before 7 in each field"
abbrev pub FieldNumber : List ℕ → ℕ → Type 0 → Type 0
FieldNumber f n else =
    Check n 6 (8 < length (alternatives f)) (Check n 7 ((a : List ℕ) × In a (alternatives f) × (is_alternative a ≡ false)) else)

-- the distinct keys of foldings, behind those in a list
abbrev pub keys : List ℕ → List Folding → List ℕ
keys known [] = known
keys known (f ∷ more) = keys (cond (some (eqb f.key) known) known (known ++ (f.key ∷ []))) more

-- What an item says, behind what others said, 0 for no fault. 3: "an item of rule text is not recognised"; 4: "empty pattern"; 5: "pattern over 16 bytes"; 8: "rule 1,501 or,
-- as before, the 129th key" (02, M-106). "Inside a rule: 4, 5, then the three fields left to right, then 8."
abbrev pub ItemNumber : List Saying → Saying → ℕ → Type 0
ItemNumber before (RuleItem p s v o) n =
    Check n 4 (p ≡ [])
    (Check n 5 (16 < length p)
    (FieldNumber s n
    (FieldNumber v n
    (FieldNumber o n
    (Check n 8 (1500 ≤ length (rules_of before)) (n ≡ 0))))))
ItemNumber before (FoldingItem key target) n =
    let known = keys [] (foldings_of before) in
    Check n 8 ((128 ≤ length known) × (In key known → ⊥)) (n ≡ 0)
ItemNumber before LineEndItem n = n ≡ 0
ItemNumber before CommentItem n = n ≡ 0
ItemNumber before UnknownItem n = n ≡ 3

-- The items of a text front to back, behind what others said: the first with a fault gives its number and its line; where none has one the rest decides.
-- 02, M-102: the line is "1 plus the newlines before the faulty item's first byte".
abbrev pub ItemsNumber : List ℕ → List Saying → List Item → ℕ → ℕ → Type 0 → Type 0
ItemsNumber text before [] n line else = else
ItemsNumber text before (i ∷ more) n line else =
    (ItemNumber before i.saying n × (n ≡ 0 → ⊥) × (line ≡ line_of text i.place))
    ⊎ (ItemNumber before i.saying 0 × ItemsNumber text (before ++ (i.saying ∷ [])) more n line else)

-- number and line; "line is 0 except with 3 to 8"
abbrev pub BuildNumber : List ℕ → Bool → List ℕ → ℕ → ℕ → Type 0
BuildNumber text flag lent n line =
    Check n 1 (65536 < length text)
    (Check n 2 (NotClean text)
    (ItemsNumber text [] (items text) n line
    (Check n 9 (length lent < length (plate_bytes (plate_said flag text))) (n ≡ 0))))
    × (((3 ≤ n) × (n ≤ 8) → ⊥) → line ≡ 0)

-- ---- no two numbers, no two places and no two lines meet the conditions for one input

abbrev pub Exclusive : Type 0
Exclusive =
    ((plate name lent : List ℕ) (n place n' place' : ℕ) → ListNumber plate name lent n place → ListNumber plate name lent n' place' → (n ≡ n') × (place ≡ place'))
    × ((plate name lent : List ℕ) (n place n' place' : ℕ) → EncodeNumber plate name lent n place → EncodeNumber plate name lent n' place' → (n ≡ n') × (place ≡ place'))
    × ((text : List ℕ) (flag : Bool) (lent : List ℕ) (n line n' line' : ℕ) → BuildNumber text flag lent n line → BuildNumber text flag lent n' line' → (n ≡ n') × (line ≡ line'))
