-- `plate::read::RuleAt::pattern_begins` meets its contract: a window, wherever the pattern stands, holds it, and its length is not 0 (`long`). Assumes nothing.
use Rattle.std.proofs.Common.{ℕ, ◌≤◌, List, arith}
use Rattle.plate.specs.Window.{Holds}
use Rattle.plate.specs.Stands.{Here}
use Rattle.plate.proofs.Parts.{pattern_count}
use Rattle.plate.proofs.Whole.{pattern_length_in}
use Rattle.plate.proofs.read.RuleAt.pattern_begins.Goals as goal

-- A pattern has a byte.
long : (s : List ℕ) (at w : ℕ) → Here s at → Holds s at 57 w → 0x0800000000000000 ≤ w
long s at w here h = let n = (pattern_count s at here _ (pattern_length_in s at w h)).1 in omega arith

pub begins_in-requires : goal.begins_in-requires
begins_in-requires c =
    let r = c.args.self.now in (c.requires, long r.bytes.now r.at _ r.stands c.window_in.ensures)

pub begins_in-requires-2 : goal.begins_in-requires-2
begins_in-requires-2 c =
    let r = c.args.self.now in (c.requires, long r.bytes.now r.at _ r.stands c.window.ensures)
