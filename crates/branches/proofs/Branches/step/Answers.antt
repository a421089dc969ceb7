-- `branches::Branches::step` meets its contract. The loops over the branches and the alternatives keep: what the step still makes from here on, merged behind
-- what it has made, is what it makes from the start. A turn is Steps.dropped or Steps.kept, the way out over room Steps.too_many, where nothing is
-- changed; one branch that meets one alternative is Steps.extended. Assumes nothing.
use Rattle.std.proofs.Common.{ℕ, zero-le, ◌≡◌, ◌+◌, ◌<◌, List, [], ◌∷◌, length, take, drop, set, leb, refl, sym, ap, ◌∙◌, arith, le-leb}
use lib.Seq.{length-take-le}
use Rattle.branches.specs.Branches.{Branch, extend, step}
use Rattle.branches.specs.Held.{use_of}
use Rattle.branches.proofs.Steps.{among_told, begins, opens, done, dropped, kept, too_many, only, front, stored, extended}
use Rattle.branches.proofs.Branches.step.Goals as goal

-- One branch meets one alternative.
pub returns : goal.returns
returns c =
    let a = c.args in
    let u = use_of a.field.now a.anyway in
    let s = c.self.inside in
    let alone = c.if-self-eq1.true in
    let long = c.self.invariant.long in
    let some : 0 < length s.items = omega arith in
    let item = c.index-self-0 in
    let alternative = c.alternative-item in
    let here = c.as_slice.ensures in
    let given : a.field.now ≡ alternative.result ∷ [] = sym here ∙ only c.as_slice.result.now alternative.result (omega (arith, c.in-len1.len_at_least, c.in-len1.len_below)) alternative.is in
    let held : a.self.now ≡ item.result ∷ [] = sym c.self.view_is ∙ ap (λ (k : ℕ). take k s.items) alone ∙ front s.items item.result some item.is in
    let made = ap (λ (b : Branch). extend a.anyway alternative.result b) (sym item.is) in
    let whole : c.extend.result ∷ [] ≡ step u a.self.now =
    ap (λ (b : Branch). b ∷ []) (c.extend.ensures ∙ made) ∙ extended u a.self.now item.result alternative.result held given in
    let is : take s.count (set s.items 0 c.extend.result) ≡ step u a.self.now =
    ap (λ (k : ℕ). take k (set s.items 0 c.extend.result)) alone ∙ stored s.items c.extend.result some ∙ whole in
    (sym (ap (λ (bs : List Branch). leb (length bs) a.room) (sym whole) ∙ le-leb 1 a.room c.if-room-gt0.true), is)

pub loop-b-init : goal.loop-b-init
loop-b-init c =
    (zero-le, zero-le, begins (use_of c.args.field.now c.args.anyway) c.args.self.now c.as_slice-b-items.result.now c.as_slice-b-items.ensures)

pub loop-alternative-init : goal.loop-alternative-init
loop-alternative-init c =
    let l = c.loop-b in (
      l.invariant.0,
      l.invariant.1,
      opens (use_of c.args.field.now c.args.anyway) (take l.n l.made) (step (use_of c.args.field.now c.args.anyway) c.args.self.now) c.as_slice-b-items.result.now l.b-index
          c.b-item.result c.b-item.is c.loop-b-test.true l.invariant.2 c.as_slice-alternative-items.result.now c.as_slice-alternative-items.ensures,
    )

pub loop-alternative-preserved-then-contains : goal.loop-alternative-preserved-then-contains
loop-alternative-preserved-then-contains c =
    let l = c.loop-alternative in
    let so = take l.n l.made in
    let among = among_told c.extend-new.result so _ c.contains.result (ap (take l.n) c.as_slice-in-loop-alternative.ensures) c.contains.ensures.value in (
      l.invariant.0,
      l.invariant.1,
      dropped (use_of c.args.field.now c.args.anyway) so (step (use_of c.args.field.now c.args.anyway) c.args.self.now) c.b-item.result
          c.as_slice-alternative-items.result.now l.alternative-index (drop (c.loop-b.b-index + 1) c.as_slice-b-items.result.now) l.invariant.2 c.alternative-item-in-loop-alternative.result
          c.alternative-item-in-loop-alternative.is c.loop-alternative-test.true c.extend-new.result c.extend-new.ensures (among ∙ c.if-contains.true),
    )

pub returns-then-room-n : goal.returns-then-room-n
returns-then-room-n c =
    let l = c.loop-alternative in
    let so = take l.n l.made in
    let among = among_told c.extend-new.result so _ c.contains.result (ap (take l.n) c.as_slice-in-loop-alternative.ensures) c.contains.ensures.value in (
      too_many (use_of c.args.field.now c.args.anyway) so (step (use_of c.args.field.now c.args.anyway) c.args.self.now) c.b-item.result
          c.as_slice-alternative-items.result.now l.alternative-index (drop (c.loop-b.b-index + 1) c.as_slice-b-items.result.now) l.invariant.2 c.alternative-item-in-loop-alternative.result
          c.alternative-item-in-loop-alternative.is c.loop-alternative-test.true c.extend-new.result c.extend-new.ensures c.args.room (among ∙ c.if-contains.false)
          (omega (arith, length-take-le l.n l.made l.invariant.0, c.if-room-n.true)),
      refl,
    )

pub loop-alternative-preserved : goal.loop-alternative-preserved
loop-alternative-preserved c =
    let l = c.loop-alternative in
    let so = take l.n l.made in
    let among = among_told c.extend-new.result so _ c.contains.result (ap (take l.n) c.as_slice-in-loop-alternative.ensures) c.contains.ensures.value in (
      omega (arith, c.put.ensures.long),
      omega (arith, c.if-room-n.false),
      kept (use_of c.args.field.now c.args.anyway) so (step (use_of c.args.field.now c.args.anyway) c.args.self.now) c.b-item.result
          c.as_slice-alternative-items.result.now l.alternative-index (drop (c.loop-b.b-index + 1) c.as_slice-b-items.result.now) l.invariant.2 c.alternative-item-in-loop-alternative.result
          c.alternative-item-in-loop-alternative.is c.loop-alternative-test.true c.extend-new.result c.extend-new.ensures (among ∙ c.if-contains.false)
          (take (l.n + 1) c.put.new.self) c.put.ensures.front,
    )

pub returns-2 : goal.returns-2
returns-2 c =
    let l = c.loop-b in
    let so = take l.n l.made in
    let is = done (use_of c.args.field.now c.args.anyway) so (step (use_of c.args.field.now c.args.anyway) c.args.self.now) c.as_slice-b-items.result.now l.b-index
    c.loop-b-test.false l.invariant.2 in
    (sym (ap (λ (bs : List Branch). leb (length bs) c.args.room) (sym is) ∙ le-leb (length so) c.args.room (omega (arith, length-take-le l.n l.made l.invariant.0, l.invariant.1))), c.self-2.view_is ∙ c.truncate.ensures ∙ is)
