-- A whole ward list in one call. 02, M-103: "Take up to 256 names in one buffer, each closed by a newline; a last one without newline counts if not empty. Write
-- one line a name: its list, or `!` and the refusal in two digits." Assumes nothing.
use Rattle.std.specs.Prelude.{ℕ, ◌+◌, ◌-◌, ◌*◌, ◌/◌, ◌%◌, cond, List, [], ◌∷◌, ◌++◌, eqb, ltb, length, take, drop, replicate}
use Rattle.laws.specs.Lists.{split_at, cat}
use Rattle.plate.specs.Read.{accepted}
use Rattle.coder.specs.Answer.{Coded, list_answer}

-- ---- the names of a buffer, split as bytes

abbrev pub newline : ℕ
newline = 10

-- what stands behind the last newline is a name only if it is not empty
abbrev pub counted : List (List ℕ) → List (List ℕ)
counted [] = []
counted ([] ∷ []) = []
counted ([] ∷ n ∷ more) = [] ∷ counted (n ∷ more)
counted ((b ∷ bs) ∷ more) = (b ∷ bs) ∷ counted more

unfoldable pub names : List ℕ → List (List ℕ)
names bytes = counted (split_at newline bytes)

-- ---- the line of a name

-- what list is lent for a name: room for 64 codes
abbrev pub list_bytes : ℕ
list_bytes = 447

-- "`!` and the refusal in two digits"
abbrev pub refused_line : ℕ → List ℕ
refused_line number = 33 ∷ (48 + number / 10) ∷ (48 + number % 10) ∷ []

-- "its list, or" that
abbrev pub line_of : Coded → List ℕ
line_of a = cond (eqb a.number 0) (take (7 * a.count - 1) a.buffer) (refused_line a.number)

-- "Each line equals what a single list call with 447 bytes gives"; which bytes are lent does not matter (proofs/Lines.antt)
unfoldable pub given : List ℕ → List ℕ → List ℕ
given plate name = line_of (list_answer plate name (replicate list_bytes 0))

-- a newline closes it
abbrev pub line : List ℕ → List ℕ → List ℕ
line plate name = given plate name ++ (newline ∷ [])

-- ---- the call: "The call answers number and bytes written; no names write 0 bytes."

pub record Written : Type 0 where
  pub number : ℕ
  pub length : ℕ
  pub buffer : List ℕ

abbrev pub unwritten : ℕ → List ℕ → Written
unwritten number lent = record { number = number; length = 0; buffer = lent }

abbrev pub written : List ℕ → List ℕ → Written
written bytes lent = record { number = 0; length = length bytes; buffer = bytes ++ drop (length bytes) lent }

abbrev pub most_names : ℕ
most_names = 256

-- a line's bytes and its newline
abbrev pub line_bytes : ℕ
line_bytes = 448

-- "Refusal 10 first. Over 256 names: 1. An output buffer under 448 bytes a name: 12. Each of these covers the whole call and writes nothing."
unfoldable pub ward_answer : List ℕ → List ℕ → List ℕ → Written
ward_answer plate bytes lent =
    let ns = names bytes in
    cond (accepted plate)
    (cond (ltb most_names (length ns)) (unwritten 1 lent)
    (cond (ltb (length lent) (line_bytes * length ns)) (unwritten 12 lent) (written (cat (line plate) ns) lent)))
    (unwritten 10 lent)
