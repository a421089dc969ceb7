-- `lower::lower` meets its contract: the entry of a character of either table is its lowercase (Lowering.latin_entry, cyrillic_entry), and what has none is its own
-- (Lowering.untabled). Assumes nothing.
use mathlib.Core.Path.{◌≡◌, refl, sym, ap, ◌∙◌}
use mathlib.Core.List.{List}
use Prim.Native.Nat.{ℕ, ◌-◌}
use lib.ListN.{get_or}
use Rattle.laws.proofs.Tests.{told, between_true}
use Rattle.chars.specs.Letters.{lower_of, capital, even_capital, odd_capital, cyrillic_first, cyrillic_last}
use Rattle.chars.specs.Table.{table, cyrillic_table}
use Rattle.chars.specs.declared.lower.TheConstants.{LOWER, CYRILLIC_LOWER}
use Rattle.chars.proofs.Lowering.{latin_entry, cyrillic_entry, untabled}
use Rattle.chars.proofs.lower.lower.Goals as goal

-- The tables are the definition's lowercase of each of their characters, which antt computes.
lower_is : LOWER ≡ table
unfolding table lower_of capital even_capital odd_capital
lower_is = refl

cyrillic_lower_is : CYRILLIC_LOWER ≡ cyrillic_table
unfolding cyrillic_table lower_of capital even_capital odd_capital
cyrillic_lower_is = refl

pub returns-then-c : goal.returns-then-c
returns-then-c c = let x = c.args.c in c.from.ensures ∙ ap (λ (l : List ℕ). get_or l x 0) lower_is ∙ latin_entry x c.if-c.true

pub returns-then-is_cyrillic : goal.returns-then-is_cyrillic
returns-then-is_cyrillic c =
    let x = c.args.c in
    let b = between_true cyrillic_first cyrillic_last x (told c.is_cyrillic.ensures c.if-is_cyrillic.true) in
    c.from-then-is_cyrillic.ensures ∙ ap (λ (l : List ℕ). get_or l (x - cyrillic_first) 0) cyrillic_lower_is ∙ cyrillic_entry x b.0 b.1

pub returns-else-is_cyrillic : goal.returns-else-is_cyrillic
returns-else-is_cyrillic c = sym (untabled c.args.c c.if-c.false (told c.is_cyrillic.ensures c.if-is_cyrillic.false))
