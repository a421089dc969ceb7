-- `find::count_marks` meets its contract: `filter` keeps the marks that are set, and `count` counts them (Found.how_many). Assumes nothing.
use Rattle.std.proofs.Common.{Bool, sym, ◌∙◌}
use Rattle.std.proofs.lemmas.Iterator.{YieldsList-from_slice}
use Rattle.std.proofs.lemmas.Iterator.Consumers.{YieldsList-from_filter, count_from_yields_List}
use Rattle.index.proofs.Found.{how_many}
use Rattle.index.proofs.find.count_marks.Goals as goal

pub returns : goal.returns
returns c =
    let l = c.args.marks.now in
    let test = λ (t : Bool). t in
    count_from_yields_List c.filter.result c.count.result c.count.ensures.ran (YieldsList-from_filter _ test (YieldsList-from_slice l cc) c.filter.ensures.closure (λ x t q k. search))
    ∙ sym (how_many 0 l)
