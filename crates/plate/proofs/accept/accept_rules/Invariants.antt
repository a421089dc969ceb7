-- `plate::accept::accept_rules` meets its contract: the rules left are good and in order exactly if all are, and those passed are noted (Noting.Going).
-- Assumes nothing.
use Rattle.std.proofs.Common.{◌≡◌, ℕ, ◌+◌, ◌-◌, ◌*◌, ◌≤◌, List, length, set}
use Rattle.plate.specs.Answers.{rules_step}
use Rattle.plate.specs.Most.{rule_most}
use Rattle.plate.specs.Noted.{half, noted_characters}
use Rattle.plate.proofs.Noting.{Going}
use Rattle.plate.proofs.accept.accept_rules.Given as goal

-- What the loop keeps beside its bounds: the rules left decide as all do, and those passed are noted, once the present group is.
pub record Kept (plate : List ℕ) (from n : ℕ) (lent places groups : List ℕ) (at i begun code len : ℕ) : Type 0 where
  pub long : length places ≡ length lent
  pub left : rules_step plate at (n - i) code len ≡ rules_step plate from n 0 0
  pub size : length groups ≡ noted_characters
  pub going : Going plate from i at begun code places (set groups code (begun * half + i))

abbrev pub invariant-loop-i : goal.invariant-loop-i
invariant-loop-i l =
    (l.at ≤ l.from + rule_most * l.i) × Kept l.plate l.from l.n l.initial.places l.places l.groups l.at l.i l.begun l.code l.length
