-- `field::parse_branch` meets its contract. One alternative stands more than separators (Fields), and the two tests are the definition's, in its order. Assumes nothing.
use mathlib.Core.Path.{refl, sym, ◌∙◌}
use Rattle.std.proofs.Common.{rules}
use Rattle.std.proofs.lemmas.Iterator.Search.{all_from_yields_List}
use Rattle.laws.specs.Lists.{split_at}
use Rattle.laws.proofs.Library.{every_so}
use Rattle.chars.specs.Digits.{is_alternative}
use Rattle.book.proofs.Alternatives.{gives_parts}
use Rattle.book.proofs.Fields.{too_many, many, not_digits}
use Rattle.book.proofs.field.parse_branch.Goals as goal

pub returns-then-seps-ge-MOST_ALTERNATIVES : goal.returns-then-seps-ge-MOST_ALTERNATIVES
returns-then-seps-ge-MOST_ALTERNATIVES c =
    let a = c.args in
    let n = c.count_of-seps in
    too_many a.sep a.field.now n.result n.ensures.0 c.if-seps-ge-MOST_ALTERNATIVES.true

pub returns-then-not-all : goal.returns-then-not-all
returns-then-not-all c =
    let n = c.count_of-seps in
    let a = c.args in
    let each =
    all_from_yields_List is_alternative _ _ _ c.all.ensures.ran (gives_parts {s = c.split.result} _ a.sep {f = c.split.result.pred} a.field.now (cc) (cc) refl (λ x b q k. search rules)) (λ x b q k. search rules)
    ∙ every_so is_alternative (split_at a.sep a.field.now)
    in not_digits a.sep a.field.now n.result n.ensures.0 c.if-seps-ge-MOST_ALTERNATIVES.false (sym each ∙ c.if-not-all.true)

pub returns : goal.returns
returns c =
    let n = c.count_of-seps in
    let a = c.args in
    let each =
    all_from_yields_List is_alternative _ _ _ c.all.ensures.ran (gives_parts {s = c.split.result} _ a.sep {f = c.split.result.pred} a.field.now (cc) (cc) refl (λ x b q k. search rules)) (λ x b q k. search rules)
    ∙ every_so is_alternative (split_at a.sep a.field.now)
    in many a.sep a.field.now n.result n.ensures.0 c.if-seps-ge-MOST_ALTERNATIVES.false (sym each ∙ c.if-not-all.false)
