-- M-107, "The second of two equal patterns": plates that hold such rules, as list and encode answer by them. (That no name reaches one is said of the rules
-- alone: order, Claims.) Assumes nothing.
use Rattle.std.specs.Prelude.{ℕ, ◌≡◌, Bool, true, not, ◌&&◌, List, [], ◌∷◌, T}
use Rattle.laws.specs.Lists.{same, split_at}
use Rattle.chars.specs.Utf8.{text_from, chars_from}
use Rattle.chars.specs.Letters.{white, capital, even_capital, odd_capital, lower_of, vowel}
use Rattle.chars.specs.Quoted.{bytes}
use Rattle.plate.specs.Bits.{bit, number_at}
use Rattle.plate.specs.Plate.{Plate}
use Rattle.plate.specs.Written.{plate_bytes}
use Rattle.plate.specs.Read.{fold_by}
use Rattle.branches.specs.Branches.{ends_with, extend, met, step, run, over}
use Rattle.coder.specs.Walk.{walk}
use Rattle.coder.specs.Answer.{Coded, joined, room, list_answer}
use Rattle.order.specs.Once.{once_plate}
use Rattle.order.specs.Worked.{rule}
use Rattle.promises.specs.Said.{IsPlate}
use Rattle.promises.specs.Case.{lend, gives}

-- Two calls that are lent equal buffers leave the same: number, count, place and every byte.
abbrev pub SameLeft : List ℕ → List ℕ → Coded → Coded → Type 0
SameLeft lent lent' a b = lent ≡ lent' → a ≡ b

-- The second bytes are the first plate without its rules whose patterns earlier ones have.
abbrev pub Without : List ℕ → List ℕ → Type 0
Without plate less = (p : Plate) × IsPlate p plate × (less ≡ plate_bytes (once_plate p))

-- "Plates already in the field that hold such a pair remain accepted and code the same names the same way": what list, or encode, leaves by both
abbrev pub UnusedAlike : List ℕ → List ℕ → List ℕ → List ℕ → Coded → Coded → Type 0
UnusedAlike plate less lent lent' a b = Without plate less → SameLeft lent lent' a b

-- What is left is a plate.
abbrev pub LeftIsPlate : Type 0
LeftIsPlate = (plate less : List ℕ) (w : Without plate less) → IsPlate (once_plate w.0) less

-- ---- a plate made by hand: `ab` 1, `ac` 2, `ab` 3

abbrev pair : Plate
pair = record { flag = true; foldings = []; rules = rule (bytes "ab") (bytes "1") ∷ rule (bytes "ac") (bytes "2") ∷ rule (bytes "ab") (bytes "3") ∷ [] }

abbrev lists_by : Plate → List ℕ → List ℕ → Bool
lists_by p name codes = gives (list_answer (plate_bytes p) name (lend 20)) 20 codes

-- It is another plate without the last rule, and both list the same; neither lists the code of the last rule.
pub pair_codes : T (
    not (same (plate_bytes pair) (plate_bytes (once_plate pair)))
    && (lists_by pair (bytes "abac") (bytes "120000")
    && (lists_by (once_plate pair) (bytes "abac") (bytes "120000") && not (lists_by pair (bytes "abac") (bytes "320000"))))
    )
unfolding text_from chars_from white capital even_capital odd_capital lower_of vowel split_at bit number_at ends_with extend met step run over fold_by walk joined room list_answer
pair_codes = tt
