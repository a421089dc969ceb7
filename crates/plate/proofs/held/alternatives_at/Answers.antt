-- `plate::held::alternatives_at` meets its contract: the alternatives stored are the first k; each turn stores one more (Filled.alternatives_store). Assumes
-- nothing.
use Rattle.std.proofs.Common.{◌≡◌, ℕ, ◌+◌, ◌-◌, ◌<◌, [], length, take, drop, replicate, min, sym, ap, subst, ◌∙◌, arith}
use Rattle.plate.specs.Plate.{most_alternatives}
use Rattle.std.proofs.Math.Nat.{min-le_right}
use lib.ListN.{length-set}
use Rattle.plate.specs.Read.{many, alternative_at, alternative_end}
use Rattle.plate.proofs.Filled.{few_digits, field_eight, alternative_good, place_more, cleared, alternatives_store, field_held}
use Rattle.plate.proofs.held.alternatives_at.Goals as goal

pub alternative_at-alternative-requires : goal.alternative_at-alternative-requires
alternative_at-alternative-requires c =
    let a = c.args in
    let l = c.loop-k in
    let i = min-le_right a.most c.size.result in
    let eight = field_eight a.plate.now a.from c.requires.1 c.size.result c.size.ensures.0 in
    let h : l.k < c.size.result = omega (arith, c.loop-k-test.true, c.min-n.ensures) in (
      omega (arith, l.invariant.near, c.requires.0),
      alternative_good a.plate.now a.from c.requires.1 c.size.result c.size.ensures.0 l.k h l.place l.invariant.behind,
    )

pub listed : goal.listed
listed c =
    let a = c.args in
    let i = min-le_right a.most c.size.result in
    let eight = field_eight a.plate.now a.from c.requires.1 c.size.result c.size.ensures.0 in
    omega (arith, c.loop-k-test.true, c.min-n.ensures, c.loop-k.invariant.long)

pub bounds-alternatives-k : goal.bounds-alternatives-k
bounds-alternatives-k c =
    let a = c.args in
    let i = min-le_right a.most c.size.result in
    let eight = field_eight a.plate.now a.from c.requires.1 c.size.result c.size.ensures.0 in
    omega (arith, c.loop-k-test.true, c.min-n.ensures)

pub loop-k-preserved : goal.loop-k-preserved
loop-k-preserved c =
    let a = c.args in
    let l = c.loop-k in
    let i = min-le_right a.most c.size.result in
    let eight = field_eight a.plate.now a.from c.requires.1 c.size.result c.size.ensures.0 in
    let h : l.k < length l.alternatives = omega (arith, c.loop-k-test.true, c.min-n.ensures, l.invariant.long) in
    let is = ap length (c.as_slice.ensures ∙ c.alternative_at-alternative.ensures) in
    record {
      long = length-set l.alternatives l.k c.alternative_at-alternative.result ∙ l.invariant.long;
      clear = cleared l.alternatives l.k c.alternative_at-alternative.result h l.invariant.clear;
      near = omega (arith, l.invariant.near, few_digits a.plate.now l.place (length c.as_slice.result.now) is);
      behind = place_more a.plate.now a.from c.requires.1 c.size.result c.size.ensures.0 l.k l.place l.invariant.behind (length c.as_slice.result.now) is;
      held = alternatives_store a.plate.now a.from c.requires.1 c.size.result c.size.ensures.0 l.k l.alternatives h l.invariant.held l.place l.invariant.behind
          c.alternative_at-alternative.result c.alternative_at-alternative.ensures;
    }

pub invariant_of-result : goal.invariant_of-result
invariant_of-result c =
    let a = c.args in
    let i = min-le_right a.most c.size.result in
    let l = c.loop-k in
    let eight = field_eight a.plate.now a.from c.requires.1 c.size.result c.size.ensures.0 in
    let all : l.k ≡ c.min-n.result = omega (arith, c.min-n.ensures, c.loop-k-test.false) in
    record {
      small = omega (arith, c.min-n.ensures);
      long = l.invariant.long;
      clear = subst (λ (k : ℕ). drop k l.alternatives ≡ replicate (most_alternatives - k) []) all l.invariant.clear;
    }

pub returns : goal.returns
returns c =
    let a = c.args in
    let l = c.loop-k in
    let all : l.k ≡ min a.most c.size.result = omega (arith, c.min-n.ensures, c.loop-k-test.false) in
    ap (λ (k : ℕ). take k l.alternatives) (c.min-n.ensures ∙ sym all)
    ∙ l.invariant.held
    ∙ ap (λ (k : ℕ). many (alternative_at a.plate.now) (alternative_end a.plate.now) k (a.from + 4)) all
    ∙ field_held a.plate.now a.from c.requires.1 c.size.result c.size.ensures.0 a.most
