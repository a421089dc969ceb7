-- `plate::plain::is_pair` meets its contract: the count 1, and two digits behind it (Shapes.two_digits, Shapes.single). Assumes nothing.
use Rattle.std.proofs.Common.{◌≡◌, ℕ, ◌*◌, ◌/◌, ◌%◌, ◌^◌, ◌<◌, ◌≤◌, arith, leb-true}
use Rattle.plate.specs.Answers.{field_step}
use Rattle.plate.specs.Plain.{Takes}
use Rattle.plate.proofs.Windows.{ranged}
use Rattle.plate.proofs.Shapes.{two_digits, single}
use Rattle.plate.proofs.plain.is_pair.Goals as goal

-- The window behind the count is in the range of two digits.
pair : (w : ℕ) → 1441151880758558720 ≤ w → w < 1531223873305968640 → w / 562949953421312 % 16 ≤ 9 → Takes field_step 15 w 15
pair w low high last =
    let one : w / 1152921504606846976 ≡ 1 = omega (arith, low, high) in
    let behind_low : 4611686018427387904 ≤ w * 2 ^ 4 % 2 ^ 64 = omega (arith, low, high) in
    let behind-high : w * 2 ^ 4 % 2 ^ 64 < 6052837899185946624 = omega (arith, low, high) in
    let digit : w * 2 ^ 4 % 2 ^ 64 / 9007199254740992 % 16 ≤ 9 = omega (arith, low, high, last) in
    single w 11 one (λ s at held. two_digits s at (w * 2 ^ 4 % 2 ^ 64) held behind_low behind-high digit)

pub returns-then-contains : goal.returns-then-contains
returns-then-contains c =
    let w = c.args.w in
    let r = ranged _ _ _ (rw c.if-contains.true at c.contains.ensures.cases) in
    λ e. pair w r.0 r.1 (leb-true (w / 562949953421312 % 16) 9 e)
