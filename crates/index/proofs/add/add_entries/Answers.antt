-- `add::add_entries` meets its contract: what is put and sorted apart, and then merged in front, is said by Added. Assumes nothing.
use Rattle.index.proofs.Filling.{line_entries, line_count}
use Rattle.index.proofs.Added.{new_rises, lent_whole, lent_more, old_rises, all_merged}
use Rattle.index.proofs.add.add_entries.Goals as goal

pub add-requires : goal.add-requires
add-requires c =
    let a = c.args in
    let es = line_entries a.codes.now.line.now a.codes.now.count a.k in
    let n = line_count a.codes.now.line.now a.codes.now.count a.k in
    let index = c.requires.index_value in (
      lent_whole es a.codes.now.count n _ _ _ c.put_entries.ensures _ c.sort.ensures a.index.now a.used index.0 index.1,
      lent_more es a.codes.now.count n _ _ _ c.put_entries.ensures _ c.sort.ensures a.index.now a.used index.0 index.1,
      old_rises es a.codes.now.count n _ _ _ c.put_entries.ensures _ c.sort.ensures a.index.now a.used index.0 index.1,
      new_rises es a.codes.now.count n _ _ _ c.put_entries.ensures _ c.sort.ensures,
    )

pub returns : goal.returns
returns c =
    let a = c.args in
    let index = c.requires.index_value in
    all_merged (line_entries a.codes.now.line.now a.codes.now.count a.k) a.codes.now.count (line_count a.codes.now.line.now a.codes.now.count a.k) _ _ _ c.put_entries.ensures _ c.sort.ensures
    a.index.now a.used index.0 index.1 _ c.add.ensures
