-- A call and what it must answer: the form of the examples, from rule text to codes. A list of cases stands beside one of wrong cases, none of which may
-- hold: so a test that is always true proves no list. Assumes nothing.
use Rattle.std.specs.Prelude.{ℕ, zero, suc, ◌-◌, Bool, true, false, not, ◌&&◌, List, [], ◌++◌, eqb, length, take, replicate}
use Rattle.std.proofs.Math.Option.{Option, none, some}
use Rattle.laws.specs.Lists as lists
use Rattle.laws.specs.Lists.{same, every}
use Rattle.chars.specs.Quoted.{bytes}
use Rattle.rule_text.specs.Fields.{alternatives}
use Rattle.plate.specs.Plate.{Plate}
use Rattle.plate.specs.Read.{read_plate}
use Rattle.builder.specs.Build.{Built, build_answer}
use Rattle.coder.specs.Answer.{Coded, list_answer, encode_answer}

-- Texts, names, plates and codes are bytes; a flag is the folding flag; `lent` is how many bytes are lent to the call.
pub data Case : Type 0 where
  -- text, flag, name, lent, codes: list gives these codes, and encode the first of them
  Codes : List ℕ → Bool → List ℕ → ℕ → List ℕ → Case
  -- text, flag, name, lent, number: list refuses the name, at place 0
  BadName : List ℕ → Bool → List ℕ → ℕ → ℕ → Case
  -- text, flag, name, lent, code: encode gives this code
  OneCode : List ℕ → Bool → List ℕ → ℕ → List ℕ → Case
  -- text, flag, name, lent, number: encode refuses the name, at place 0
  NoCode : List ℕ → Bool → List ℕ → ℕ → ℕ → Case
  -- text, flag, name, lent, number, place: list and encode refuse the name at that byte
  BadPlace : List ℕ → Bool → List ℕ → ℕ → ℕ → ℕ → Case
  -- text, rules, foldings: build answers, and the plate holds so many of each
  GoodText : List ℕ → ℕ → ℕ → Case
  -- text, number, line: build refuses the text
  BadText : List ℕ → ℕ → ℕ → Case
  -- text, flag, plate: build writes these bytes
  Written : List ℕ → Bool → List ℕ → Case
  -- plate, number: what list answers of a plate, built or not, for the empty name
  Taken : List ℕ → ℕ → Case

-- a buffer that no answer looks like
abbrev pub lend : ℕ → List ℕ
lend n = replicate n 7

-- the plate that a text builds
abbrev pub built_of : List ℕ → Bool → List ℕ
built_of text flag = let b = build_answer text flag (lend 700) in take b.length b.buffer

-- number, count, place and the whole buffer
abbrev pub coded_is : Coded → ℕ → ℕ → ℕ → List ℕ → Bool
coded_is a number count place buffer = eqb a.number number && (eqb a.count count && (eqb a.place place && same a.buffer buffer))

-- the codes in front, and the bytes behind them as lent
abbrev pub gives : Coded → ℕ → List ℕ → Bool
gives a lent codes = coded_is a 0 (length (alternatives codes)) 0 (codes ++ lend (lent - length codes))

-- nothing given, and every byte as lent
abbrev pub refuses_at : Coded → ℕ → ℕ → ℕ → Bool
refuses_at a lent number place = coded_is a number 0 place (lend lent)

abbrev pub refuses : Coded → ℕ → ℕ → Bool
refuses a lent number = refuses_at a lent number 0

abbrev pub built_is : Built → ℕ → ℕ → ℕ → List ℕ → Bool
built_is b number line length buffer = eqb b.number number && (eqb b.line line && (eqb b.length length && same b.buffer buffer))

abbrev pub holding : Option Plate → ℕ → ℕ → Bool
holding none rules foldings = false
holding (some p) rules foldings = eqb (length p.rules) rules && eqb (length p.foldings) foldings

-- the answer for the empty name into 6 bytes
abbrev pub taking : Coded → ℕ → Bool
taking a zero = gives a 6 (bytes "000000")
taking a (suc n) = refuses a 6 (suc n)

abbrev pub holds : Case → Bool
holds (Codes text flag name lent codes) =
    let plate = built_of text flag in
    gives (list_answer plate name (lend lent)) lent codes && gives (encode_answer plate name (lend 8)) 8 (take 6 codes)
holds (BadName text flag name lent number) = refuses (list_answer (built_of text flag) name (lend lent)) lent number
holds (OneCode text flag name lent code) = gives (encode_answer (built_of text flag) name (lend lent)) lent code
holds (NoCode text flag name lent number) = refuses (encode_answer (built_of text flag) name (lend lent)) lent number
holds (BadPlace text flag name lent number place) =
    let plate = built_of text flag in
    refuses_at (list_answer plate name (lend lent)) lent number place && refuses_at (encode_answer plate name (lend lent)) lent number place
holds (GoodText text rules foldings) = holding (read_plate (built_of text true)) rules foldings
holds (BadText text number line) = built_is (build_answer text true (lend 700)) number line 0 (lend 700)
holds (Written text flag plate) = built_is (build_answer text flag (lend 700)) 0 0 (length plate) (plate ++ lend (700 - length plate))
holds (Taken plate number) = taking (list_answer plate [] (lend 6)) number

-- Each case holds, and none of the wrong ones.
abbrev pub apart : List Case → List Case → Bool
apart right wrong = every holds right && not (lists.some holds wrong)
