-- The book: rules and foldings in the plate's order, what is wrong with one more, and the plate of a book. It knows no form of text. 01, "The plate, bits most
-- significant first" and, of "Numbers that come back", 4 to 8: "Inside a rule: 4, 5, then the three fields left to right (6 before 7 in each field), then 8."
-- Assumes nothing.
use Rattle.std.specs.Prelude.{ℕ, zero, suc, ◌+◌, Bool, cond, List, [], ◌∷◌, ltb, leb, eqb, length}
use Rattle.laws.specs.Lists.{every, some, split_at}
use Rattle.chars.specs.Digits.{is_alternative}
use Rattle.plate.specs.Plate.{Folding, Rule, of_pattern, Plate, most_bytes, most_alternatives, most_foldings, may_precede}
use Rattle.plate.specs.Most.{most_rules}

-- what was read so far: foldings and rules kept, and how many rules were read, kept or not
pub record Book : Type 0 where
  pub foldings : List Folding
  pub rules : List Rule
  pub read : ℕ

abbrev pub blank : Book
blank = record { foldings = []; rules = []; read = 0 }

-- "Rules stand by first code point rising, then byte length falling, then text order": a rule goes behind all earlier ones that may precede it
abbrev pub put_rule : Rule → List Rule → List Rule
put_rule r [] = r ∷ []
put_rule r (q ∷ more) = cond (may_precede q r) (q ∷ put_rule r more) (r ∷ q ∷ more)

-- "A later folding of a key replaces the earlier"; "keys strictly rising"
abbrev pub put_folding : Folding → List Folding → List Folding
put_folding f [] = f ∷ []
put_folding f (g ∷ more) = cond (ltb g.key f.key) (g ∷ put_folding f more) (cond (eqb g.key f.key) (f ∷ more) (f ∷ g ∷ more))

-- 02, M-107: "A later rule with a pattern already seen is [..] never used. [..] leave it out of what build writes."
abbrev pub keep_rule : Rule → List Rule → List Rule
keep_rule r rs = cond (some (of_pattern r.pattern) rs) rs (put_rule r rs)

-- the book with one rule more, and with one folding more
abbrev pub with_rule : Rule → Book → Book
with_rule r b = record { foldings = b.foldings; rules = keep_rule r b.rules; read = b.read + 1 }

abbrev pub with_folding : Folding → Book → Book
with_folding f b = record { foldings = put_folding f b.foldings; rules = b.rules; read = b.read }

-- a rule of four parts, its fields split at a byte: "an empty field is one empty alternative"
abbrev pub rule_of : ℕ → List ℕ → List ℕ → List ℕ → List ℕ → Rule
rule_of sep p s v o = record { pattern = p; start = split_at sep s; vowel = split_at sep v; other = split_at sep o }

abbrev pub folding_of : ℕ → ℕ → Folding
folding_of key target = record { key = key; target = target }

-- ---- what is wrong, 0 for nothing

-- the number, if so
abbrev pub when : Bool → ℕ → ℕ
when b n = cond b n 0

-- the first that is not 0
abbrev pub first_fault : List ℕ → ℕ
first_fault [] = 0
first_fault (zero ∷ more) = first_fault more
first_fault (suc n ∷ more) = suc n

-- 6: "a field with over 8 alternatives"; 7: "an alternative that is not 0 to 6 ASCII digits"; "6 before 7 in each field"
abbrev pub field_fault : List (List ℕ) → ℕ
field_fault f = cond (leb (length f) most_alternatives) (cond (every is_alternative f) 0 7) 6

-- a rule behind so many others: "4, 5, then the three fields left to right (6 before 7 in each field), then 8"; 02, M-106: "Refusal 8 now means rule 1,501"
abbrev pub rule_fault : Rule → ℕ → ℕ
rule_fault r rules =
    first_fault (when (eqb (length r.pattern) 0) 4 ∷ when (ltb most_bytes (length r.pattern)) 5 ∷ field_fault r.start ∷ field_fault r.vowel ∷ field_fault r.other
    ∷ when (leb most_rules rules) 8 ∷ [])

-- a folding behind others, 8: "the 129th distinct folding key"
abbrev pub folding_fault : Folding → List Folding → ℕ
folding_fault f fs = when (ltb most_foldings (length (put_folding f fs))) 8

-- ---- the plate of a book, with a folding flag

abbrev pub plate_of : Bool → Book → Plate
plate_of flag b = record { flag = flag; foldings = b.foldings; rules = b.rules }
