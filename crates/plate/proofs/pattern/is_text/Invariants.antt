-- `plate::pattern::is_text` meets its contract: the bytes left are good text exactly if all are; five ASCII bytes pass at once, a character passes
-- (Fronts.text_turn), anything else decides (text_stop), and no bytes are good (text_end). Assumes nothing.
use Rattle.std.proofs.Common.{◌≡◌, ◌+◌, ◌*◌}
use Rattle.plate.specs.Answers.{good_text, bytes_at}
use Rattle.plate.proofs.pattern.is_text.Given as goal

abbrev pub invariant-loop-left : goal.invariant-loop-left
invariant-loop-left l = (l.place + 8 * l.left ≡ l.at + 8 * l.n) × (good_text (bytes_at l.plate l.left l.place) ≡ good_text (bytes_at l.plate l.n l.at))

abbrev pub decreases-loop-left : goal.decreases-loop-left
decreases-loop-left l = l.left
