-- `plate::read::begins_in` meets its contract: the window holds the pattern's length and its bytes as one number (Whole.pattern_packed). Assumes nothing.
use Rattle.std.proofs.Common.{◌≡◌, ℕ, ◌+◌, ◌/◌, ◌^◌, List, length, sym, ◌∙◌, arith}
use Rattle.plate.specs.Bits.{number_at}
use Rattle.plate.specs.Window.{Holds}
use Rattle.plate.specs.Read.{pattern_at}
use Rattle.plate.proofs.Fronts.{bytes_length}
use Rattle.plate.proofs.Whole.{pattern_length_in, pattern_packed, unsaid, said_is, said_not}
use Rattle.plate.proofs.read.begins_in.Goals as goal

-- The number in front of the window is the pattern's length.
long : (s : List ℕ) (at w : ℕ) → Holds s at 57 w → w / 2 ^ 59 ≡ length (pattern_at s at)
long s at w h = pattern_length_in s at w h ∙ sym (bytes_length s (number_at s at 5) (at + 5))

pub returns-then-plain-n : goal.returns-then-plain-n
returns-then-plain-n c = λ s at h. unsaid (pattern_at s at) c.args.word c.args.plain _ (long s at _ h) c.if-plain-n.true

pub returns-then-w-off : goal.returns-then-w-off
returns-then-w-off c =
    let a = c.args in
    let m = c.if-plain-n.false in
    let p = c.requires.0 in
    λ s at h. said_is (pattern_at s at) a.word a.plain _ (long s at _ h) m _
    (pattern_packed s at a.w h _ (pattern_length_in s at a.w h) (omega arith)) c.if-w-off.true

pub returns : goal.returns
returns c =
    let a = c.args in
    let m = c.if-plain-n.false in
    let p = c.requires.0 in
    λ s at h. said_not (pattern_at s at) a.word a.plain _ (long s at _ h) m _
    (pattern_packed s at a.w h _ (pattern_length_in s at a.w h) (omega arith)) c.if-w-off.false
