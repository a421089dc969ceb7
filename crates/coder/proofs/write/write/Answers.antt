-- `write::write` meets its contract. The loop keeps: the first k codes stand, joined, and behind them what was lent. A turn is Joined.bar or Joined.no_bar,
-- then Joined.put_on; the end is Joined.all_joined. Assumes nothing.
use Rattle.std.proofs.Common.{ℕ, ◌+◌, ◌-◌, ◌*◌, ◌<◌, ◌≤◌, ◌≡◌, List, [], ◌++◌, map, length, take, drop, get_or, refl, sym, ap, ◌∙◌, arith, length-drop, drop-drop, length-take}
use Rattle.std.proofs.lemmas.List.{length-map, get_or-map}
use Rattle.branches.specs.Branches.{Branch, code}
use Rattle.coder.specs.Answer.{joined}
use Rattle.coder.proofs.Joined.{barred, six_more, no_bar, bar, put_on, as_long, all_joined}
use Rattle.coder.proofs.write.write.Goals.{then-at-gt0, else-at-gt0}
use Rattle.coder.proofs.write.write.Goals as goal

pub loop-k-init : goal.loop-k-init
unfolding joined
loop-k-init c = (tt, refl, refl)

pub loop-k-preserved : goal.loop-k-preserved
loop-k-preserved c =
    let o = c.args.out.now in
    let bs = c.args.bs.now in
    let l = c.loop-k in
    let k = l.k in
    let cs = map code bs in
    let all = c.as_slice-b-items in
    let p = c.requires in
    let n = length-map bs code in
    let below : k < length cs = omega (arith, n, c.loop-k-test.true, ap length all.ensures) in
    let upto : k ≤ length cs = omega arith in
    let lent = c.if-at-gt0.out in
    let before : lent ≡ barred (take k cs) ++ drop (7 * k) o = elim c.if-at-gt0.branch [
      | then-at-gt0 w ↦ w.out-is ∙ bar cs k l.invariant.0 o l.out (omega (arith, w.if-at-gt0.true)) upto (omega (arith, n, p, below, w.if-at-gt0.true)) l.invariant.2
      | else-at-gt0 w ↦ w.out-is ∙ no_bar cs k l.invariant.0 o l.out (omega (arith, w.if-at-gt0.false)) l.invariant.2
    ] in
    let long = c.if-at-gt0.auto.out ∙ l.invariant.1 in
    let item : get_or bs k c.b-item.result ≡ c.b-item.result = ap (λ (x : List Branch). get_or x k c.b-item.result) (sym all.ensures) ∙ sym c.b-item.is in
    let here : c.code.result ≡ get_or cs k [] =
    c.code.ensures ∙ ap code (sym item) ∙ sym (get_or-map code bs k c.b-item.result [] (omega (arith, below, n))) in
    let copied = c.copy_from_slice.ensures in
    let six : length (get_or cs k []) ≡ 6 =
    omega (arith, ap length here, ap length copied.after, copied.len, length-take (7 * k + 6 - 7 * k) (drop (7 * k) lent), length-drop (7 * k) lent, long, p, n, below) in
    let is = put_on cs k l.invariant.0 o lent c.copy_from_slice.new.self _ below before (copied.after ∙ here)
    (drop-drop (7 * k + 6 - 7 * k) (7 * k) lent ∙ ap (λ (m : ℕ). drop m lent) (omega arith)) in
    (six_more cs k l.invariant.0 below six, as_long cs (k + 1) (six_more cs k l.invariant.0 below six) o _ (omega (arith, below)) (omega (arith, p, n, below)) is, is)

pub returns : goal.returns
returns c =
    let bs = c.args.bs.now in
    let l = c.loop-k in
    let whole : l.k ≡ length (map code bs) = omega (arith, length-map bs code, ap length c.as_slice-b-items.ensures, c.loop-k-test.false) in
    all_joined (map code bs) l.k l.invariant.0 c.args.out.now l.out whole l.invariant.2
