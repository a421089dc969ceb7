-- `scan::count_until` meets its contract: `position` answers the first place that passes (Counted.until_is). Assumes nothing.
use Rattle.std.proofs.Common.{◌≡◌, ℕ, ◌≤◌, length, eqb, ltb, cond, not, Some, None, unwrap_or, ap, sym, ◌∙◌, arith, rules, tests}
use Rattle.std.specs.List.{position_or_len}
use Rattle.std.proofs.lemmas.Bool.Decides.{nat_tests}
use Rattle.std.proofs.lemmas.Iterator.{YieldsList-from_slice}
use Rattle.std.proofs.lemmas.Iterator.Search.{position_from_yields_List}
use Rattle.std.proofs.lemmas.List.Sums.{prefix_len-le-length}
use Rattle.chars.proofs.Counted.{until_is}
use Rattle.chars.proofs.scan.count_until.Goals as goal

first_or_all : (p n : ℕ) → p ≤ n → unwrap_or (cond (ltb p n) (Some p) None) n ≡ p
first_or_all p n h = grind (arith, nat_tests)

pub returns : goal.returns
returns c =
    let l = c.args.rest.now in
    let b = c.args.b in
    let e = position_from_yields_List (λ x. eqb x b) _ _ c.position.result c.position.ensures.ran (YieldsList-from_slice l cc) (λ x t q k. search (rules, tests)) in
    let f = until_is b l in
    let n = prefix_len-le-length (λ x. not (eqb x b)) l in
    let g : c.unwrap_or.result ≡ position_or_len (λ x. eqb x b) l = c.unwrap_or.ensures ∙ ap (λ o. unwrap_or o (length l)) e ∙ first_or_all _ _ n in
    (g ∙ sym f, omega arith)
