-- Branches. 01, "From name to codes". Digits are ASCII. Assumes nothing.
use Rattle.std.specs.Prelude.{ℕ, ◌-◌, Bool, cond, not, ◌&&◌, ◌||◌, List, [], ◌∷◌, ◌++◌, map, ltb, leb, length, take, drop, replicate}
use Rattle.laws.specs.Lists.{same}
use Rattle.laws.specs.Once.{once}

-- "A branch is its digits so far, at most six, and its last replacement." No last replacement yet is the empty one: with it only the empty alternative is
-- an end of the last replacement, and appending nothing changes nothing; and the one branch at the start stands alone, so that merging cannot tell the
-- two either.
pub record Branch : Type 0 where
  pub digits : List ℕ
  pub last : List ℕ

-- "One empty branch stands at the start"
abbrev pub start : List Branch
start = record { digits = []; last = [] } ∷ []

-- A use of a rule: the alternatives of the field taken, and whether each is appended anyway.
pub record Use : Type 0 where
  pub alternatives : List (List ℕ)
  pub anyway : Bool

-- "six digits"
abbrev pub code_digits : ℕ
code_digits = 6

-- the first list ends with the second
unfoldable pub ends_with : List ℕ → List ℕ → Bool
ends_with l a = leb (length a) (length l) && same (drop (length l - length a) l) a

-- "It is appended and cut at six digits, unless the last replacement ends with it; between the group characters `m` then `n`, or `n` then `m`, it is
-- appended anyway. It becomes the last replacement either way."
unfoldable pub extend : Bool → List ℕ → Branch → Branch
extend anyway a b = record { digits = cond (anyway || not (ends_with b.last a)) (take code_digits (b.digits ++ a)) b.digits; last = a }

-- "Each branch, in order, meets each alternative, in order."
unfoldable pub met : Use → List Branch → List Branch
met u [] = []
met u (b ∷ more) = map (λ a. extend u.anyway a b) u.alternatives ++ met u more

-- "A branch equal in digits and last replacement to an earlier one of this step is dropped."
abbrev pub same_branch : Branch → Branch → Bool
same_branch b c = same b.digits c.digits && same b.last c.last

-- One step of all branches.
unfoldable pub step : Use → List Branch → List Branch
step u bs = once same_branch (met u bs)

-- The branches behind all uses.
unfoldable pub run : List Use → List Branch → List Branch
run [] bs = bs
run (u ∷ more) bs = run more (step u bs)

-- "the branch list, at the start or after some step, is longer than room"
unfoldable pub over : ℕ → List Use → List Branch → Bool
over room [] bs = ltb room (length bs)
over room (u ∷ more) bs = ltb room (length bs) || over room more (step u bs)

-- "At the end zeros fill each code to six digits."
abbrev pub code : Branch → List ℕ
code b = b.digits ++ replicate (code_digits - length b.digits) 48

-- 02, M-105: "Drop a code equal to an earlier one when writing; the first place stays."
abbrev pub codes : List Use → List (List ℕ)
codes us = once same (map code (run us start))
