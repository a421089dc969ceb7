-- From a name's characters to the uses of rules. 01, "From name to codes", "At a character: [..]". Assumes nothing.
use Rattle.std.specs.Prelude.{ℕ, zero, suc, ◌-◌, Bool, false, cond, ◌&&◌, ◌||◌, List, [], ◌∷◌, ◌++◌, eqb, ltb, length, drop}
use Rattle.std.proofs.Math.Option.{Option, none, some}
use Rattle.laws.specs.Lists.{keep, begins}
use Rattle.chars.specs.Utf8.{chars_of}
use Rattle.chars.specs.Letters.{vowel}
use Rattle.plate.specs.Plate.{Rule}
use Rattle.branches.specs.Branches.{Use}

-- a rule's pattern, in characters
abbrev pub letters : Rule → List ℕ
letters r = chars_of r.pattern

-- "its group is the rules whose pattern begins with it"
abbrev pub starts_with : ℕ → List ℕ → Bool
starts_with c [] = false
starts_with c (p ∷ more) = eqb p c

abbrev pub group : List Rule → ℕ → List Rule
group rs c = keep (λ r. starts_with c (letters r)) rs

-- "take the longest pattern that begins here; of equal patterns the first"
abbrev pub longer : Rule → Option Rule → Option Rule
longer r none = some r
longer r (some q) = cond (ltb (length (letters r)) (length (letters q))) (some q) (some r)

abbrev pub longest : List Rule → Option Rule
longest [] = none
longest (r ∷ more) = longer r (longest more)

abbrev pub match : List Rule → List ℕ → Option Rule
match rs cs = longest (keep (λ r. begins (letters r) cs) rs)

-- "a, e, i, o or u follows"; at the end of the name nothing does
abbrev pub vowel_follows : List ℕ → Bool
vowel_follows [] = false
vowel_follows (c ∷ cs) = vowel c

-- "Field: start, if no character with a group came before; else before vowel, if a, e, i, o or u follows the pattern; else default."
abbrev pub field : Option ℕ → List ℕ → Rule → List (List ℕ)
field none behind r = r.start
field (some before) behind r = cond (vowel_follows behind) r.vowel r.other

-- "between the group characters `m` then `n`, or `n` then `m`"
abbrev pub forced : Option ℕ → ℕ → Bool
forced none c = false
forced (some before) c = (eqb before 109 && eqb c 110) || (eqb before 110 && eqb c 109)

-- What one character brings: the use of a rule or none, the character before for the next group, and how many characters pass with it.
pub record Passed : Type 0 where
  pub uses : List Use
  pub before : Option ℕ
  pub skip : ℕ

-- "Go on behind the pattern, in characters. If the group has no match, one character passes. In both cases this first character is the "character before"
-- for the next group."
abbrev pub matched : Option ℕ → ℕ → List ℕ → Option Rule → Passed
matched before c cs none = record { uses = []; before = some c; skip = 0 }
matched before c cs (some r) = record {
  uses = record { alternatives = field before (drop (length (letters r)) (c ∷ cs)) r; anyway = forced before c } ∷ [];
  before = some c;
  skip = length (letters r) - 1;
}

-- "No group: go on, nothing changes."
abbrev pub passed : Option ℕ → ℕ → List ℕ → List Rule → Passed
passed before c cs [] = record { uses = []; before = before; skip = 0 }
passed before c cs (r ∷ more) = matched before c cs (match (r ∷ more) (c ∷ cs))

-- The uses along a name; k characters of a pattern are still to pass.
unfoldable pub walk : List Rule → Option ℕ → ℕ → List ℕ → List Use
walk rs before k [] = []
walk rs before (suc k) (c ∷ cs) = walk rs before k cs
walk rs before zero (c ∷ cs) = let p = passed before c cs (group rs c) in p.uses ++ walk rs p.before p.skip cs

abbrev pub uses : List Rule → List ℕ → List Use
uses rs cs = walk rs none 0 cs
