-- Each pattern once, the first rule of it staying. 02, M-107: "A later rule with a pattern already seen". Equal are patterns of equal bytes, whatever the
-- fields. Assumes nothing.
use Rattle.std.specs.Prelude.{List}
use Rattle.laws.specs.Once.{once}
use Rattle.plate.specs.Plate.{Rule, Plate, same_pattern}

-- a plate with other rules
abbrev pub with_rules : Plate → List Rule → Plate
with_rules p rs = record { flag = p.flag; foldings = p.foldings; rules = rs }

-- a plate without its later rules of equal patterns
abbrev pub once_plate : Plate → Plate
once_plate p = with_rules p (once same_pattern p.rules)
