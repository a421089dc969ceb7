-- What M-107 asks to be shown: "Show that no name, flag or buffer ever reaches it". Nothing is defined here but names. Assumes nothing.
use Rattle.std.specs.Prelude.{ℕ, ◌≡◌, List, ◌∷◌, ◌++◌}
use Rattle.std.proofs.Math.Option.{some}
use Rattle.laws.specs.Once.{once}
use Rattle.plate.specs.Plate.{Rule, Plate, same_pattern}
use Rattle.plate.specs.Written.{plate_bytes}
use Rattle.plate.specs.Read.{read_plate}
use Rattle.coder.specs.Walk.{uses}
use Rattle.coder.specs.Answer.{list_answer, encode_answer}
use Rattle.order.specs.Once.{once_plate}

-- "A later rule with a pattern already seen is [..] never used": whatever stands before, between and behind the two, and whatever their fields, the uses along
-- any characters are those without the later one.
abbrev pub LaterUnused : Type 0
LaterUnused =
    (xs ys zs : List Rule) (earlier later : Rule) → later.pattern ≡ earlier.pattern → (cs : List ℕ)
    → uses (xs ++ (earlier ∷ (ys ++ (later ∷ zs)))) cs ≡ uses (xs ++ (earlier ∷ (ys ++ zs))) cs

-- all of them at once, of any rules
abbrev pub OnceUsed : Type 0
OnceUsed = (rs : List Rule) (cs : List ℕ) → uses (once same_pattern rs) cs ≡ uses rs cs

-- Encode and list answer equally on the bytes s and t, for every name and buffer.
abbrev pub SameAnswers : List ℕ → List ℕ → Type 0
SameAnswers s t = (name lent : List ℕ) → (encode_answer s name lent ≡ encode_answer t name lent) × (list_answer s name lent ≡ list_answer t name lent)

-- "Plates already in the field that hold such a pair remain accepted and code the same names the same way": as the plate without the unused rules
abbrev pub OnceAnswers : Type 0
OnceAnswers = (s : List ℕ) (p : Plate) → read_plate s ≡ some p → SameAnswers s (plate_bytes (once_plate p))
