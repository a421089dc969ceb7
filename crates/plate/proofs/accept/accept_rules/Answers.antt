-- `plate::accept::accept_rules` meets its contract: the rules left are good and in order exactly if all are, and those passed are noted (Noting.Going).
-- Assumes nothing.
use Rattle.std.proofs.Common.{◌≡◌, ℕ, ◌+◌, ◌-◌, ◌*◌, ◌<◌, ◌≤◌, true, false, ◌⊎◌, inl, inr, List, length, set, Option, Some, None, sym, refl, ap, ◌∙◌, subst, arith, length-set, le-ltb, lt-ltb, le-leb}
use native.Mathlib.Nat.{sub-zero}
use lib.ListN.{length-replicate}
use borrow.Author.Tests.{lt-leb}
use Rattle.plate.specs.Most.{most_rules}
use Rattle.plate.specs.Answers.{in_order, rule_made, rules_step}
use Rattle.plate.specs.Noted.{half, noted_characters, NotedFrom}
use Rattle.plate.specs.declared.Seen.{Seen}
use Rattle.plate.proofs.Accepted.{order_same, order_apart, made_wrong, order_wrong, order_good, rules_stop, rules_turn, rules_end}
use Rattle.plate.proofs.Noting.{Going, going_start, going_turn, set_set}
use Rattle.plate.proofs.accept.accept_rules.Invariants.{Kept}
use Rattle.plate.proofs.accept.accept_rules.Goals.{then-rule-code+else-length-rule, else-rule-code+else-rule-code-2}
use Rattle.plate.proofs.accept.accept_rules.Goals as goal

module _ (s : List ℕ) (from n : ℕ) (lent places groups : List ℕ) (at i begun code len : ℕ) (kept : Kept s from n lent places groups at i begun code len)
    (r : Option Seen) (e : r ≡ rule_made s at) (q : Seen) (is : r ≡ Some q) (going : i < n) where
  more : 0 < n - i
  more = omega (arith, going)

  -- Out of order behind the rule before it, all are refused.
  refused : in_order code len q.code q.length ≡ false → None ≡ rules_step s from n 0 0
  refused out = rules_stop s at (n - i) code len more None (order_wrong s at code len r e q is out) refl ∙ kept.left

  -- In order, its group begun at b, it is passed.
  passed : in_order code len q.code q.length ≡ true → n ≤ most_rules → n ≤ length lent → (b : ℕ) → ((q.code ≡ code) × (b ≡ begun)) ⊎ ((q.code ≡ code → ⊥) × (b ≡ i))
      → (g : List ℕ) → length g ≡ noted_characters → set (set groups code (begun * half + i)) q.code (b * half + (i + 1)) ≡ set g q.code (b * half + (i + 1))
      → Kept s from n lent (set places i at) g q.next (i + 1) b q.code q.length
  passed ordered few room b group g size same =
      let fits = order_good s at code len r e q is ordered in
      let long = kept.long in record {
        long = length-set places i at ∙ long;
        left = ap (λ (m : ℕ). rules_step s q.next m q.code q.length) {x = n - (i + 1)} {y = n - i - 1} (omega arith)
            ∙ rules_turn s at (n - i) code len more (Some q) fits q refl ∙ kept.left;
        size = size;
        going = subst (λ (x : List ℕ). Going s from (i + 1) q.next b q.code (set places i at) x) same
            (going_turn s from i at begun code places (set groups code (begun * half + i)) kept.going len (Some q) fits q refl b group (omega (arith, going, few))
            (omega (arith, going, room, long)));
      }

pub loop-i-init : goal.loop-i-init
loop-i-init c =
    let a = c.args in (
      omega arith,
      record {
        long = refl;
        left = ap (λ (k : ℕ). rules_step a.plate.now a.from k 0 0) (sub-zero a.n);
        size = ap length c.requires.2.clear ∙ length-replicate {A = ℕ} noted_characters 0;
        going = going_start a.plate.now a.from a.places.now (set a.groups.now 0 0) (ap (λ (l : List ℕ). set l 0 0) c.requires.2.clear);
      },
    )

pub returns-in_err-rule : goal.returns-in_err-rule
returns-in_err-rule c =
    let s = c.args.plate.now in
    let l = c.loop-i in
    rw c.from_residual.ensures (
      rules_stop s l.at (c.args.n - l.i) l.code l.length (omega arith) None
          (made_wrong s l.at l.code l.length c.accept_rule.result c.accept_rule.ensures.0 c.in_err-rule.was) refl
          ∙ l.invariant.1.left,
      tt,
      tt,
    )

pub returns-then-length-rule : goal.returns-then-length-rule
returns-then-length-rule c =
    let l = c.loop-i in
    let q = c.in_ok-rule.rule in (
      refused c.args.plate.now c.args.from c.args.n _ _ _ l.at l.i l.begun l.code l.length l.invariant.1 c.accept_rule.result c.accept_rule.ensures.0 q
          c.in_ok-rule.was c.loop-i-test.true
          (sym (order_same l.code l.length q.code q.length (sym c.if-rule-code.true)) ∙ lt-leb q.length l.length c.if-length-rule.true),
      tt,
      tt,
    )

pub returns-then-rule-code-2 : goal.returns-then-rule-code-2
returns-then-rule-code-2 c =
    let l = c.loop-i in
    let q = c.in_ok-rule.rule in
    let other = c.if-rule-code.false in
    let low : q.code ≤ l.code = omega (arith, c.if-rule-code-2.true) in (
      refused c.args.plate.now c.args.from c.args.n _ _ _ l.at l.i l.begun l.code l.length l.invariant.1 c.accept_rule.result c.accept_rule.ensures.0 q
          c.in_ok-rule.was c.loop-i-test.true
          (sym (order_apart l.code l.length q.code q.length (λ e. other (sym e))) ∙ le-ltb l.code q.code low),
      tt,
      tt,
    )

pub loop-i-preserved : goal.loop-i-preserved
loop-i-preserved c =
    let s = c.args.plate.now in
    let l = c.loop-i in
    let q = c.in_ok-rule.rule in
    let near = c.in_ok-rule.ensures.1 in
    let few = c.requires.1 in
    let room = c.requires.2.room in
    let kept = l.invariant.1 in (
      omega (arith, l.invariant.0, near),
      elim c.if-rule-code.branch [
        | then-rule-code+else-length-rule t ↦
            let same = t.if-rule-code.true in
            let ordered = sym (order_same l.code l.length q.code q.length (sym same)) ∙ le-leb q.length l.length t.if-length-rule.false in
            let all = passed s c.args.from c.args.n _ _ _ l.at l.i l.begun l.code l.length kept c.accept_rule.result c.accept_rule.ensures.0 q
            c.in_ok-rule.was c.loop-i-test.true ordered few room l.begun (inl (same, refl)) l.groups kept.size
            (ap (λ (x : ℕ). set (set l.groups l.code (l.begun * half + l.i)) x (l.begun * half + (l.i + 1))) same
            ∙ set_set l.groups l.code (l.begun * half + l.i) (l.begun * half + (l.i + 1))
            ∙ ap (λ (x : ℕ). set l.groups x (l.begun * half + (l.i + 1))) (sym same)) in
            rw (t.groups-is, t.begun-is, t.code-is, ← same) all
        | else-rule-code+else-rule-code-2 t ↦
            let other = t.if-rule-code.false in
            let above : l.code < q.code = omega (arith, other, t.if-rule-code-2.false) in
            let ordered = sym (order_apart l.code l.length q.code q.length (λ e. other (sym e))) ∙ lt-ltb l.code q.code above in
            let told = t.note_group.ensures in
            let all = passed s c.args.from c.args.n _ _ _ l.at l.i l.begun l.code l.length kept c.accept_rule.result c.accept_rule.ensures.0 q
            c.in_ok-rule.was c.loop-i-test.true ordered few room l.i (inr (other, refl)) _
            (ap length told ∙ length-set l.groups l.code (l.begun * half + l.i) ∙ kept.size)
            (ap (λ (x : List ℕ). set x q.code (l.i * half + (l.i + 1))) (sym told)) in
            rw (t.groups-is, t.begun-is, t.code-is) all
      ],
    )

pub returns : goal.returns
returns c =
    let a = c.args in
    let l = c.loop-i in
    let all : l.i ≡ a.n = omega arith in (
      sym (rules_end a.plate.now l.at (a.n - l.i) l.code l.length (omega arith)) ∙ l.invariant.1.left,
      omega (arith, l.invariant.0),
      subst (λ (x : List ℕ). NotedFrom a.plate.now a.from a.n l.places x) (sym c.note_group-2.ensures)
          (subst (λ (k : ℕ). NotedFrom a.plate.now a.from k l.places (set l.groups l.code (l.begun * half + k))) all l.invariant.1.going.noted),
    )
