-- `Sheet::put_field` meets its contract: the count, and the alternatives behind it, which `split` gives one by one (Alternatives.split_parts). Assumes nothing.
use Prim.Native.Nat.{ℕ, ◌+◌}
use mathlib.Core.Path.{◌≡◌, refl, sym, ap, subst}
use mathlib.Core.Bool.{true}
use mathlib.Core.List.{List}
use native.Mathlib.Omega.{arith}
use borrow.Author.Tests.{leb-true}
use lib.ListN.{length, take}
use Rattle.std.proofs.Common.{rules}
use Rattle.std.proofs.lemmas.List.{length_push}
use Rattle.std.proofs.lemmas.Iterator.Consumers.{YieldsList-turn, YieldsList-end}
use Rattle.laws.specs.Lists.{cat, split_at}
use Rattle.laws.proofs.Splits.{parts}
use Rattle.chars.specs.Digits.{is_alternative}
use Rattle.plate.specs.Bits.{bits_of}
use Rattle.plate.specs.Written.{alternative_bits}
use Rattle.book.proofs.Alternatives.{gives_parts}
use Rattle.book.proofs.Faults.{field_fine, field_digits}
use Rattle.book.proofs.Runs.{every_get}
use Rattle.book.proofs.Inks.{ready_first, ready_then, ready_as, wrote_then, wrote_as, each_ready, each_turn, each_end}
use Rattle.book.proofs.pen.Sheet.put_field.Goals as goal

pub put-requires : goal.put-requires
put-requires c =
    let f = split_at c.args.sep c.args.field.now in
    let is : c.count_of.result + 1 ≡ length f = omega (arith, parts c.args.sep c.args.field.now, c.count_of.ensures.0) in
    let few = leb-true (length f) 8 (field_fine f c.requires.0).0 in (
      omega arith,
      omega arith,
      ready_as (ap (bits_of 4) (sym is)) (ready_first (bits_of 4 (length f)) (cat alternative_bits f) c.requires.1),
    )

pub put_alternative-requires : goal.put_alternative-requires
put_alternative-requires c =
    let s = c.args.sep in
    let f = split_at s c.args.field.now in
    let is : c.count_of.result + 1 ≡ length f = omega (arith, parts s c.args.field.now, c.count_of.ensures.0) in
    let l = c.loop-alternative in
    let a = c.in-Some.alternative in
    let i = c.into_iter-alternative-iterator.result in
    let turn = YieldsList-turn (gives_parts {s = i} _ s {f = i.pred} c.args.field.now (cc) (cc) refl (λ x b q k. search rules)) l.yielded _ l.yielded_by _ _ a c.in-Some.is c.next.ensures.steps in
    let room = ready_then (bits_of 4 (length f)) (cat alternative_bits f) c.requires.1 (wrote_as (ap (bits_of 4) is) c.put.ensures) in (
      subst (λ (x : List ℕ). is_alternative x ≡ true) (sym turn.1) (every_get is_alternative f (length l.yielded) a.now (field_digits f c.requires.0) turn.0),
      ready_as (ap alternative_bits (sym turn.1)) (each_ready alternative_bits f (length l.yielded) a.now turn.0 l.invariant room),
    )

pub loop-alternative-preserved : goal.loop-alternative-preserved
loop-alternative-preserved c =
    let s = c.args.sep in
    let f = split_at s c.args.field.now in
    let l = c.loop-alternative in
    let a = c.in-Some.alternative in
    let i = c.into_iter-alternative-iterator.result in
    let turn = YieldsList-turn (gives_parts {s = i} _ s {f = i.pred} c.args.field.now (cc) (cc) refl (λ x b q k. search rules)) l.yielded _ l.yielded_by _ _ a c.in-Some.is c.next.ensures.steps in
    wrote_as (ap (λ (n : ℕ). cat alternative_bits (take n f)) (sym (length_push l.yielded a)))
    (each_turn alternative_bits f (length l.yielded) a.now turn.0 l.invariant (wrote_as (ap alternative_bits turn.1) c.put_alternative.ensures))

pub returns : goal.returns
returns c =
    let s = c.args.sep in
    let f = split_at s c.args.field.now in
    let is : c.count_of.result + 1 ≡ length f = omega (arith, parts s c.args.field.now, c.count_of.ensures.0) in
    let l = c.loop-alternative in
    let i = c.into_iter-alternative-iterator.result in
    let end = YieldsList-end (gives_parts {s = i} _ s {f = i.pred} c.args.field.now (cc) (cc) refl (λ x b q k. search rules)) l.yielded _ l.yielded_by _ _ c.in-None.is c.next.ensures.steps in
    let all = each_end alternative_bits f (length l.yielded) (omega (arith, end.1)) l.invariant in
    wrote_then (bits_of 4 (length f)) (cat alternative_bits f) (wrote_as (ap (bits_of 4) is) c.put.ensures) all
