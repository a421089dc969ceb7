-- `name::Codes::put_entries` meets its contract. The loop keeps: the entries of the codes before this one stand in front (Filling.Filled). A turn is
-- Filling.next_filled, the end Filling.all_filled. Assumes nothing.
use Rattle.std.proofs.Common.{ℕ, ◌≡◌, ◌<◌, ◌*◌, [], length, sym, ap, subst, ◌∙◌, arith}
use Rattle.ward.specs.Puts.{Puts}
use Rattle.entries.specs.Entries.{entry_bytes}
use Rattle.index.specs.Index.{code_number, entry_of}
use Rattle.index.proofs.Filling.{line_entries, line_count, line_entry, none_filled, next_filled, all_filled}
use Rattle.index.proofs.name.Codes.put_entries.Goals as goal

pub loop-i-init : goal.loop-i-init
loop-i-init c = let a = c.args in none_filled (line_entries a.self.now.line.now a.self.now.count a.k) a.out.now (λ q. (c.type_inv.out q).fits)

pub loop-i-preserved : goal.loop-i-preserved
loop-i-preserved c =
    let a = c.args in
    let l = c.loop-i in
    let t = c.loop-i-test.true in
    let es = line_entries a.self.now.line.now a.self.now.count a.k in
    let n = line_count a.self.now.line.now a.self.now.count a.k in
    let more : l.i < length es = omega (arith, t, n) in
    next_filled es a.out.now l.i l.out l.invariant more (omega (arith, n, c.requires.1)) _ (entry_of a.k (code_number []))
    (ap (entry_of a.k) c.code.ensures.0 ∙ sym (line_entry a.self.now.line.now a.self.now.count a.k l.i t))
    c.put_entry.new.bytes c.put_entry.ensures c.put_entry.auto.bytes (λ q. (c.type_inv.out q).fits)

pub returns : goal.returns
returns c =
    let a = c.args in
    let l = c.loop-i in
    let es = line_entries a.self.now.line.now a.self.now.count a.k in
    let n = line_count a.self.now.line.now a.self.now.count a.k in
    let all : l.i ≡ length es = omega (arith, n, l.invariant.within, c.loop-i-test.false) in
    subst (λ (m : ℕ). Puts (entry_bytes es) (4 * m) a.out.now l.out) (all ∙ n) (all_filled es a.out.now l.i l.out l.invariant all (omega (arith, n, c.requires.1)))
