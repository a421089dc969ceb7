-- `write::write_plate` meets its contract: head, foldings and rules, one behind the other, and the last byte filled (Scripts.wrote_plate). Assumes nothing.
use mathlib.Core.Path.{sym}
use lib.ListN.{length, take}
use Rattle.std.proofs.Common.{rules}
use Rattle.plate.specs.Written.{rule_bits}
use Rattle.book.specs.Note.{place_in}
use Rattle.book.proofs.Keys.{sure_at}
use Rattle.book.proofs.Inks.{ready_as, wrote_as, each_ready, each_turn, each_end}
use Rattle.book.proofs.Scripts.{cat_map, ready_pairs, ready_keys, ready_end, wrote_plate}
use Rattle.builder.specs.Survey.{view}
use Rattle.builder.proofs.write.write_plate.Invariants.{bits}
use Rattle.builder.proofs.write.write_plate.Goals as goal

pub put_foldings-requires : goal.put_foldings-requires
put_foldings-requires c =
    let a = c.args in
    let n = a.notes.now in
    (n.pairs.small, ready_pairs (view a.text.now) n.tally n.keys.now n.foldings.now a.flag c.requires.kept c.requires.ordered c.requires.room c.new-sheet.ensures.begins c.put_head.ensures)

pub put_rule-requires : goal.put_rule-requires
put_rule-requires c =
    let a = c.args in
    let n = a.notes.now in
    let t = a.text.now in
    let l = c.loop-key in
    let keys = take n.tally.rules n.keys.now in
    let r = c.requires in
    let room = ready_keys (view t) n.tally n.keys.now n.foldings.now a.flag r.kept r.ordered r.room c.new-sheet.ensures.begins c.put_head.ensures c.put_foldings.ensures in (
      sure_at (view t) (length t) keys l.key-index c.loop-key-test.true r.kept.sure,
      each_ready (bits t) keys l.key-index 0 c.loop-key-test.true l.invariant (ready_as (cat_map rule_bits (λ k. view t (place_in k)) keys) room),
    )

pub loop-key-preserved : goal.loop-key-preserved
loop-key-preserved c =
    let n = c.args.notes.now in
    let l = c.loop-key in
    each_turn (bits c.args.text.now) (take n.tally.rules n.keys.now) l.key-index 0 c.loop-key-test.true l.invariant c.put_rule.ensures

pub finish-requires : goal.finish-requires
finish-requires c =
    let a = c.args in
    let n = a.notes.now in
    let t = a.text.now in
    let l = c.loop-key in
    let keys = take n.tally.rules n.keys.now in
    let r = c.requires in
    let ruled = wrote_as (sym (cat_map rule_bits (λ k. view t (place_in k)) keys)) (each_end (bits t) keys l.key-index c.loop-key-test.false l.invariant) in
    ready_end (view t) n.tally n.keys.now n.foldings.now a.flag r.kept r.ordered r.room c.new-sheet.ensures.begins c.put_head.ensures c.put_foldings.ensures ruled

pub returns : goal.returns
returns c =
    let a = c.args in
    let n = a.notes.now in
    let t = a.text.now in
    let l = c.loop-key in
    let keys = take n.tally.rules n.keys.now in
    let r = c.requires in
    let ruled = wrote_as (sym (cat_map rule_bits (λ k. view t (place_in k)) keys)) (each_end (bits t) keys l.key-index c.loop-key-test.false l.invariant) in
    let written = wrote_plate (view t) n.tally n.keys.now n.foldings.now a.flag r.kept r.ordered r.room c.new-sheet.ensures.begins c.put_head.ensures c.put_foldings.ensures ruled c.finish.new.self c.finish.result c.finish.ensures in
    (search (rules, written), written.1)
