-- Codes of six bytes, joined by bars, in front of other bytes: the first, and the others behind its bar. Assumes nothing.
use Prim.Native.Nat.{ℕ}
use mathlib.Core.Path.{◌≡◌, ap, sym, ◌∙◌}
use mathlib.Core.List.{List, [], ◌∷◌, ◌++◌, append_assoc}
use native.Mathlib.Omega.{arith}
use lib.ListN.{length, take, drop, length-append}
use lib.Seq.{take_at, drop_at}
use Rattle.coder.specs.Answer.{joined}

pub front : (c : List ℕ) (cs : List (List ℕ)) (rest : List ℕ) → length c ≡ 6 → take 6 (joined (c ∷ cs) ++ rest) ≡ c
unfolding joined
front c [] rest e = take_at c rest 6 e
front c (d ∷ cs) rest e = ap (take 6) (append_assoc c (124 ∷ joined (d ∷ cs)) rest) ∙ take_at c (124 ∷ (joined (d ∷ cs) ++ rest)) 6 e

-- Behind the first code and its bar stand the others.
pub others : (c d : List ℕ) (cs : List (List ℕ)) (rest : List ℕ) → length c ≡ 6 → drop 7 (joined (c ∷ d ∷ cs) ++ rest) ≡ joined (d ∷ cs) ++ rest
unfolding joined
others c d cs rest e =
    let seven : length (c ++ (124 ∷ [])) ≡ 7 = length-append c (124 ∷ []) ∙ omega arith in
    ap (drop 7) (append_assoc c (124 ∷ joined (d ∷ cs)) rest ∙ sym (append_assoc c (124 ∷ []) (joined (d ∷ cs) ++ rest)))
    ∙ drop_at (c ++ (124 ∷ [])) (joined (d ∷ cs) ++ rest) 7 seven
