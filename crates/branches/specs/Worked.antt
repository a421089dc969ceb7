-- Branches over written uses, by computation. Each case shuts out a wrong reading of 01; the codes are those of its examples where it has one. Assumes nothing.
use Rattle.std.specs.Prelude.{ℕ, Bool, true, false, ◌&&◌, not, List, [], ◌∷◌, T}
use Prim.Native.String.{String}
use Rattle.laws.specs.Lists.{every, some, same, split_at}
use Rattle.chars.specs.Quoted.{bytes}
use Rattle.branches.specs.Branches.{Use, ends_with, extend, met, step, run, over, start, codes}

-- uses, and the codes that they give
pub record Case : Type 0 where
  pub uses : List Use
  pub listed : List (List ℕ)

-- alternatives, a bar between two of them
abbrev written : List ℕ → List (List ℕ)
written l = split_at 124 l

abbrev takes : String → Use
takes a = record { alternatives = written (bytes a); anyway = false }

abbrev forced : String → Use
forced a = record { alternatives = written (bytes a); anyway = true }

abbrev case : List Use → String → Case
case us listed = record { uses = us; listed = written (bytes listed) }

abbrev same_lists : List (List ℕ) → List (List ℕ) → Bool
same_lists [] [] = true
same_lists [] (y ∷ ys) = false
same_lists (x ∷ xs) [] = false
same_lists (x ∷ xs) (y ∷ ys) = same x y && same_lists xs ys

abbrev holds : Case → Bool
holds c = same_lists (codes c.uses) c.listed

abbrev cases : List Case
cases =
    -- "after `43`, `3` is not appended; after `3`, `43` is": ends-with, and not equality
    case (takes "43" ∷ takes "3" ∷ []) "430000"
    ∷ case (takes "3" ∷ takes "43" ∷ []) "343000"
    -- m then n
    ∷ case (takes "6" ∷ takes "6" ∷ []) "600000"
    ∷ case (takes "6" ∷ forced "6" ∷ []) "660000"
    -- `mon`: the empty alternative becomes the last replacement
    ∷ case (takes "6" ∷ takes "" ∷ takes "6" ∷ []) "660000"
    -- `rwrwrwc`: two branches, and the one code of both is listed once
    ∷ case (takes "9" ∷ takes "7" ∷ takes "9" ∷ takes "7" ∷ takes "9" ∷ takes "7" ∷ takes "4|5" ∷ []) "979797"
    -- `xzx`, with `x` `1|2` and `z` 123456: four branches, two codes; each stays where it stood first
    ∷ case (takes "1|2" ∷ takes "123456" ∷ takes "1|2" ∷ []) "112345|212345"
    ∷ case (takes "4|5" ∷ takes "1|2" ∷ takes "123456" ∷ takes "4|5" ∷ []) "411234|421234|511234|521234"
    -- `z` with `4|4`: equal in both is dropped
    ∷ case (takes "4|4" ∷ []) "400000"
    -- `cc`: each branch, in order, meets each alternative, in order
    ∷ case (takes "4|5" ∷ takes "4|5" ∷ []) "400000|450000|540000|500000"
    -- `sjs` of the standard rules: merged on digits alone, 400000 would be lost
    ∷ case (takes "4" ∷ takes "|4" ∷ takes "4" ∷ []) "440000|400000"
    -- cut at six; the whole alternative is the last replacement
    ∷ case (takes "12345" ∷ takes "67" ∷ []) "123456"
    ∷ []

-- another code, a code less, a code more, another order: none may hold
abbrev wrong : List Case
wrong =
    case (takes "43" ∷ takes "3" ∷ []) "433000"
    ∷ case (takes "4|5" ∷ takes "4|5" ∷ []) "400000|450000|540000"
    ∷ case (takes "4|4" ∷ []) "400000|400000"
    ∷ case (takes "4" ∷ takes "|4" ∷ takes "4" ∷ []) "400000|440000"
    ∷ []

pub worked : T (every holds cases && not (some holds wrong))
unfolding split_at ends_with extend met step run
worked = tt

-- "the branch list, at the start or after some step, is longer than room": room for one does not hold the two of the middle, nor none the start
-- `rwrwrwc` has one code and two branches: merging asks for the last replacement too, which is set although the code is full
abbrev full : List Use
full = takes "9" ∷ takes "7" ∷ takes "9" ∷ takes "7" ∷ takes "9" ∷ takes "7" ∷ takes "4|5" ∷ []

pub room : T (
    over 1 (takes "123456" ∷ takes "4|5" ∷ takes "123456" ∷ []) start
    && (not (over 2 (takes "123456" ∷ takes "4|5" ∷ takes "123456" ∷ []) start)
    && (over 0 [] start && (over 1 full start && not (over 2 full start))))
    )
unfolding split_at ends_with extend met step over
room = tt
