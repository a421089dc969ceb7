-- What encode and list answer. 01, "Numbers that come back": "Encode and list check 10, 1, 2, 11, 12. [..] Encode and list answer number and count of
-- codes, 0 on refusal. [..] After success the bytes behind the result are as lent; after refusal all are." 02, M-101: "refusals 2 and 11 of encode and list
-- return that place, all other answers return 0." Assumes nothing.
use Rattle.std.specs.Prelude.{ℕ, ◌+◌, ◌/◌, cond, List, [], ◌∷◌, ◌++◌, map, ltb, leb, length, drop}
use Rattle.std.proofs.Math.Option.{Option, none, some}
use Rattle.plate.specs.Plate.{Rule, Plate}
use Rattle.plate.specs.Read.{read_plate}
use Rattle.branches.specs.Branches.{Use, start, over, codes}
use Rattle.branches.specs.Choice.{first_only}
use Rattle.coder.specs.Name.{Named, named}
use Rattle.coder.specs.Name.Named.{Refused, Chars}
use Rattle.coder.specs.Walk.{uses}

pub record Coded : Type 0 where
  pub number : ℕ
  pub count : ℕ
  pub place : ℕ
  pub buffer : List ℕ

-- a refusal by its number and the place of the fault in the name
abbrev pub no_codes_at : ℕ → ℕ → List ℕ → Coded
no_codes_at number place lent = record { number = number; count = 0; place = place; buffer = lent }

-- a refusal that has no place
abbrev pub no_codes : ℕ → List ℕ → Coded
no_codes number lent = no_codes_at number 0 lent

-- "Codes are joined by `|`"
unfoldable pub joined : List (List ℕ) → List ℕ
joined [] = []
joined (c ∷ []) = c
joined (c ∷ d ∷ more) = c ++ (124 ∷ joined (d ∷ more))

abbrev pub listing : List (List ℕ) → List ℕ → Coded
listing cs lent = record { number = 0; count = length cs; place = 0; buffer = joined cs ++ drop (length (joined cs)) lent }

-- "Room is the smaller of 64 and (buffer length + 1) divided by 7, rounded down."
abbrev pub smaller : ℕ → ℕ → ℕ
smaller a b = cond (leb a b) a b

unfoldable pub room : List ℕ → ℕ
room lent = smaller 64 ((length lent + 1) / 7)

-- "Refusal 12 for list: the branch list, at the start or after some step, is longer than room."
abbrev pub listed : List Use → List ℕ → Coded
listed us lent = cond (over (room lent) us start) (no_codes 12 lent) (listing (codes us) lent)

-- "Encode takes the first alternative only." 12: "For encode: the buffer is under 6 bytes."
abbrev pub encoded : List Use → List ℕ → Coded
encoded us lent = cond (ltb (length lent) 6) (no_codes 12 lent) (listing (codes (map first_only us)) lent)

-- a name that is refused, or the call for the uses along its characters
abbrev pub answered : (List Use → List ℕ → Coded) → List Rule → Named → List ℕ → Coded
answered call rs (Refused number place) lent = no_codes_at number place lent
answered call rs (Chars cs) lent = call (uses rs cs) lent

-- by a plate
abbrev pub coded_by : (List Use → List ℕ → Coded) → Plate → List ℕ → List ℕ → Coded
coded_by call p name lent = answered call p.rules (named p name) lent

-- 10: "bytes that are not a plate", first of all
abbrev pub plated : (List Use → List ℕ → Coded) → Option Plate → List ℕ → List ℕ → Coded
plated call none name lent = no_codes 10 lent
plated call (some p) name lent = coded_by call p name lent

unfoldable pub list_answer : List ℕ → List ℕ → List ℕ → Coded
list_answer plate name lent = plated listed (read_plate plate) name lent

unfoldable pub encode_answer : List ℕ → List ℕ → List ℕ → Coded
encode_answer plate name lent = plated encoded (read_plate plate) name lent
