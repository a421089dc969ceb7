-- `field::is_alternative` meets its contract: the library's `all` asks each byte. Assumes nothing.
use mathlib.Core.Path.{sym, ◌∙◌, ap}
use mathlib.Core.Bool.{Bool, ◌&&◌}
use borrow.Author.Tests.{tests, le-leb}
use lib.ListN.{length}
use Rattle.std.proofs.Common.{rules}
use Rattle.std.proofs.lemmas.Iterator.{YieldsList-from_slice}
use Rattle.std.proofs.lemmas.Iterator.Search.{all_from_yields_List}
use Rattle.laws.specs.Lists.{every}
use Rattle.laws.proofs.Library.{every_so}
use Rattle.chars.specs.Digits.{digit}
use Rattle.book.proofs.field.is_alternative.Goals as goal

pub returns-then-part-le-MOST_DIGITS : goal.returns-then-part-le-MOST_DIGITS
returns-then-part-le-MOST_DIGITS c =
    let p = c.args.part.now in
    all_from_yields_List digit _ _ _ c.all.ensures.ran (YieldsList-from_slice p cc) (λ x b q k. search (rules, tests))
    ∙ every_so digit p
    ∙ ap (λ (t : Bool). t && every digit p) (sym (le-leb (length p) 6 c.if-part-le-MOST_DIGITS.true))
