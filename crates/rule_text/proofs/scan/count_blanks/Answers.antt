-- `scan::count_blanks` meets its contract: `take_while` stops at the first byte that is no blank, and `count` counts those before it. Assumes nothing.
use mathlib.Core.Path.{sym, ◌∙◌}
use Rattle.std.proofs.Common.{◌≡◌, ℕ, suc, ◌+◌, Bool, List, [], ◌∷◌, ◌||◌, cond, eqb, refl, ap, arith, rules, tests}
use Rattle.std.specs.List.{prefix_len}
use Rattle.std.proofs.lemmas.Iterator.{YieldsList-from_slice}
use Rattle.std.proofs.lemmas.Iterator.Consumers.{count_from_yields_List}
use Rattle.std.proofs.lemmas.Iterator.Search.{YieldsList-from_take_while}
use Rattle.std.proofs.lemmas.List.Folds.{length-prefix_len}
use Rattle.std.proofs.lemmas.List.Sums.{prefix_len-le-length}
use Rattle.rule_text.specs.Forms.{space, tab, blanks}
use Rattle.rule_text.proofs.scan.count_blanks.Goals as goal

is_blank : ℕ → Bool
is_blank x = eqb x space || eqb x tab

blanks_is : (l : List ℕ) → blanks l ≡ prefix_len is_blank l
unfolding blanks is_blank
blanks_is [] = refl
blanks_is (x ∷ xs) = ap (λ n. cond (eqb x space || eqb x tab) n 0) (ap suc (blanks_is xs) ∙ one (prefix_len is_blank xs))
  where
    one : (n : ℕ) → suc n ≡ 1 + n
    one n = omega arith

pub returns : goal.returns
unfolding is_blank
returns c =
    let l = c.args.rest.now in
    let e = count_from_yields_List c.take_while.result c.count.result c.count.ensures.ran (YieldsList-from_take_while _ is_blank (YieldsList-from_slice l cc) c.take_while.ensures.closure c.take_while.ensures.done (λ x b q k. search (rules, tests))) ∙ length-prefix_len is_blank l in
    (e ∙ sym (blanks_is l), omega (arith, prefix_len-le-length is_blank l))
