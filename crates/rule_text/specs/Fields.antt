-- The alternatives of a field of rule text. 01, "Rule text, item by item". Assumes nothing.
use Rattle.std.specs.Prelude.{ℕ, List}
use Rattle.laws.specs.Lists.{split_at}

abbrev pub bar : ℕ
bar = 124

-- 01: "Fields two to four split at `|`; an empty field is one empty alternative."
abbrev pub alternatives : List ℕ → List (List ℕ)
alternatives f = split_at bar f
