-- The most bits that a part of a plate takes, and so the farthest place in one. Bounds on places are written in these words, so that sums of places stay
-- small: they come from the table's limits, and not from what the counts' widths could say. Assumes nothing.
use Rattle.std.specs.Prelude.{ℕ, ◌+◌, ◌*◌}
use Rattle.plate.specs.Plate.{edition1, edition2, most_bytes, most_alternatives, most_digits, most_foldings}

-- the most rules of any edition
abbrev pub most_rules : ℕ
most_rules = edition2.most

-- few rules, as most plates have
abbrev pub few_rules : ℕ
few_rules = edition1.most

-- "3 bits digit count and 4 bits a digit"
abbrev pub alternative_most : ℕ
alternative_most = 3 + 4 * most_digits

-- "each 4 bits count, then [the alternatives]"
abbrev pub field_most : ℕ
field_most = 4 + alternative_most * most_alternatives

-- "5 bits pattern length in bytes, the bytes; then three fields"
abbrev pub rule_most : ℕ
rule_most = 5 + 8 * most_bytes + 3 * field_most

-- the place behind the foldings, with 32 bits for the head and 42 a folding
abbrev pub foldings_most : ℕ
foldings_most = 32 + 42 * most_foldings

abbrev pub plate_most : ℕ
plate_most = foldings_most + rule_most * most_rules

-- the farthest place that is looked at from a rule of a plate, with room for k rules behind it
abbrev pub farthest : ℕ → ℕ
farthest k = plate_most + k * rule_most
