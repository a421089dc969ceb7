-- The mission's three demands, as what a call leaves, or two. `Built` is what build leaves, `Coded` what encode or list leaves: the numbers that come back and
-- the lent buffer afterwards. The functions of src/lib.rt only make the library's calls, and promise these statements of them. Assumes nothing.
use Rattle.std.specs.Prelude.{ℕ, ◌+◌, ◌-◌, ◌*◌, ◌<◌, ◌≤◌, ◌≡◌, Bool, true, List, [], ◌∷◌, ◌++◌, length, take, drop, get_or}
use Rattle.laws.specs.Lists.{In}
use Rattle.plate.specs.Plate.{Plate, good_plate}
use Rattle.plate.specs.Written.{plate_bytes}
use Rattle.builder.specs.Build.{Built}
use Rattle.branches.specs.Branches.{Use, codes}
use Rattle.branches.specs.Choice.{Chosen, yielded, firsts}
use Rattle.coder.specs.Answer.{Coded}
use Rattle.coder.specs.Given.{uses_in}
use Rattle.coder.specs.Wider.{WiderRules}
use Rattle.ward.specs.Codes.{SixDigits}
use Rattle.promises.specs.Said.{said_by, rules_of, foldings_of, plate_said, IsPlate}
use Rattle.promises.specs.When.{BuildNumber, ListNumber, EncodeNumber}

-- ---- demand 1: "Any bytes as rule text, plate or name bring an answer or one numbered refusal, given exactly when document 01 says. A refused call changes
-- no byte of the buffer it was lent." When each number is given, and with which place in the name, stands in When.antt.

-- the numbers of the table that build, and that encode and list, can bring
abbrev pub build_numbers : List ℕ
build_numbers = 0 ∷ 1 ∷ 2 ∷ 3 ∷ 4 ∷ 5 ∷ 6 ∷ 7 ∷ 8 ∷ 9 ∷ []

abbrev pub code_numbers : List ℕ
code_numbers = 0 ∷ 1 ∷ 2 ∷ 10 ∷ 11 ∷ 12 ∷ []

-- where the number is not 0 nothing is given and every byte is as lent
abbrev pub Keeps : ℕ → ℕ → List ℕ → List ℕ → Type 0
Keeps number given lent buffer = (number ≡ 0 → ⊥) → (given ≡ 0) × (buffer ≡ lent)

abbrev pub BuildRefuses : List ℕ → Bool → List ℕ → Built → Type 0
BuildRefuses text flag lent a = BuildNumber text flag lent a.number a.line × In a.number build_numbers × Keeps a.number a.length lent a.buffer

abbrev pub ListRefuses : List ℕ → List ℕ → List ℕ → Coded → Type 0
ListRefuses plate name lent a = ListNumber plate name lent a.number a.place × In a.number code_numbers × Keeps a.number a.count lent a.buffer

abbrev pub EncodeRefuses : List ℕ → List ℕ → List ℕ → Coded → Type 0
EncodeRefuses plate name lent a = EncodeNumber plate name lent a.number a.place × In a.number code_numbers × Keeps a.number a.count lent a.buffer

-- ---- demand 2: "Plates and codes equal the definitions written from the crate's rules and description." (The comparison with the Rust is run, not proved.)

-- This plate is written, one that obeys the table, and nothing else: the bytes behind it are as lent.
pub record WritesPlate (p : Plate) (lent : List ℕ) (a : Built) : Type 0 where
  pub good : good_plate p ≡ true
  pub long : a.length ≡ length (plate_bytes p)
  pub fits : a.length ≤ length lent
  pub written : a.buffer ≡ plate_bytes p ++ drop (length (plate_bytes p)) lent

-- What is built is the plate that the text says.
abbrev pub BuildGives : List ℕ → Bool → List ℕ → Built → Type 0
BuildGives text flag lent a = a.number ≡ 0 → WritesPlate (plate_said flag text) lent a

-- "code number k, from 0, is lent the buffer from byte 7k on"
abbrev pub code_at : Coded → ℕ → List ℕ
code_at a k = take 6 (drop (7 * k) a.buffer)

-- These codes are written, and nothing else: each at its place, six ASCII digits; a bar between two; the bytes behind them as lent.
pub record Writes (cs : List (List ℕ)) (lent : List ℕ) (a : Coded) : Type 0 where
  pub counted : a.count ≡ length cs
  pub long : length a.buffer ≡ length lent
  pub placed : (k : ℕ) → k < a.count → code_at a k ≡ get_or cs k []
  pub digits : (k : ℕ) → k < a.count → SixDigits (code_at a k)
  pub bars : (k : ℕ) → k + 1 < a.count → get_or a.buffer (7 * k + 6) 0 ≡ 124
  pub behind : drop (7 * a.count - 1) a.buffer ≡ drop (7 * a.count - 1) lent

-- List writes the codes of the branches, encode the one of the first alternatives, of the plate whose bytes were lent.
abbrev pub ListGives : List ℕ → List ℕ → List ℕ → Coded → Type 0
ListGives plate name lent a = a.number ≡ 0 → (p : Plate) × IsPlate p plate × Writes (codes (uses_in p name)) lent a

abbrev pub EncodeGives : List ℕ → List ℕ → List ℕ → Coded → Type 0
EncodeGives plate name lent a = a.number ≡ 0 → (p : Plate) × IsPlate p plate × Writes (yielded (uses_in p name) (firsts (uses_in p name)) ∷ []) lent a

-- Bytes are those of one plate at most.
abbrev pub OnePlate : Type 0
OnePlate = (bytes : List ℕ) (p q : Plate) → IsPlate p bytes → IsPlate q bytes → p ≡ q

-- A plate of so many rules, and of so many bytes.
pub record PlateOf (rules long : ℕ) : Type 0 where
  pub plate : Plate
  pub bytes : List ℕ
  pub is : IsPlate plate bytes
  pub ruled : length plate.rules ≡ rules
  pub sized : length bytes ≡ long

-- No plate of so many rules at most is longer than so many bytes, and one is as long.
pub record LargestOf (rules most : ℕ) : Type 0 where
  pub none : (bytes : List ℕ) (p : Plate) → IsPlate p bytes → length p.rules ≤ rules → length bytes ≤ most
  pub one : PlateOf rules most

-- 01: "The largest is 4 + 672 + 50,752 = 51,428 bytes." 02, M-106: "The largest becomes 149,364 bytes"; and every plate is one of 1,500 rules at most.
abbrev pub Largest : Type 0
Largest = LargestOf 512 51428 × LargestOf 1500 149364 × ((bytes : List ℕ) (p : Plate) → IsPlate p bytes → length p.rules ≤ 1500)

-- ---- demand 3: "More never loses a match."

-- a) "The codes listed are exactly those that some choice of one alternative at each use of a rule yields"
pub record ChoicesOf (us : List Use) (a : Coded) : Type 0 where
  pub only : (k : ℕ) → k < a.count → (choice : List (List ℕ)) × Chosen us choice × (code_at a k ≡ yielded us choice)
  pub every : (choice : List (List ℕ)) → Chosen us choice → (k : ℕ) × (k < a.count) × (code_at a k ≡ yielded us choice)

abbrev pub ListsChoices : List ℕ → List ℕ → Coded → Type 0
ListsChoices plate name a = a.number ≡ 0 → (p : Plate) × IsPlate p plate × ChoicesOf (uses_in p name) a

-- b) "the unbranched one first": where list answers, encode answers in any buffer that holds a code, and gives the first of the list
abbrev pub EncodesFirst : Coded → List ℕ → Coded → Type 0
EncodesFirst a other e = a.number ≡ 0 → 6 ≤ length other → (e.number ≡ 0) × (e.count ≡ 1) × (code_at e 0 ≡ code_at a 0)

-- c) "Further alternatives behind a rule's keep every earlier code and the first."
pub record KeepsCodes (a b : Coded) : Type 0 where
  pub each : (k : ℕ) → k < a.count → (j : ℕ) × (j < b.count) × (code_at b j ≡ code_at a k)
  pub first : code_at b 0 ≡ code_at a 0

-- The second plate differs from the first only by further alternatives behind.
abbrev pub WiderPlate : Plate → Plate → Type 0
WiderPlate p q = (q.flag ≡ p.flag) × (q.foldings ≡ p.foldings) × WiderRules p.rules q.rules

-- Of two lists by such plates, built or not.
abbrev pub PlatesKeep : List ℕ → List ℕ → Coded → Coded → Type 0
PlatesKeep plate wide a b = (p q : Plate) → IsPlate p plate → IsPlate q wide → WiderPlate p q → a.number ≡ 0 → b.number ≡ 0 → KeepsCodes a b

-- The rules and the foldings of the second text, each in text order, differ from those of the first only so, whatever the comments, lines and blanks.
abbrev pub WiderText : List ℕ → List ℕ → Type 0
WiderText text wide = (foldings_of (said_by wide) ≡ foldings_of (said_by text)) × WiderRules (rules_of (said_by text)) (rules_of (said_by wide))

-- Of two lists by the plates that build wrote of such texts.
abbrev pub TextsKeep : List ℕ → List ℕ → Coded → Coded → Type 0
TextsKeep text wide a b = WiderText text wide → a.number ≡ 0 → b.number ≡ 0 → KeepsCodes a b

-- d) "A list given once is given again, byte for byte, in any longer buffer."
pub record GivesAgain (longer : List ℕ) (a b : Coded) : Type 0 where
  pub answers : b.number ≡ 0
  pub counted : b.count ≡ a.count
  pub same : take (7 * a.count - 1) b.buffer ≡ take (7 * a.count - 1) a.buffer
  pub behind : drop (7 * a.count - 1) b.buffer ≡ drop (7 * a.count - 1) longer

abbrev pub GivenAgain : List ℕ → List ℕ → Coded → Coded → Type 0
GivenAgain lent longer a b = a.number ≡ 0 → length lent ≤ length longer → GivesAgain longer a b
