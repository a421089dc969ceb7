-- What is wrong with a rule, by computation. Assumes nothing.
use Rattle.std.specs.Prelude.{◌≡◌, refl, []}
use Rattle.laws.specs.Lists.{split_at}
use Rattle.chars.specs.Quoted.{bytes}
use Rattle.book.specs.Book.{rule_of, rule_fault}

-- 8: "rule 1,501", when 1,500 stand before it; a bad field comes first
pub full : (rule_fault (rule_of 124 (bytes "a") [] [] []) 1499 ≡ 0) × (rule_fault (rule_of 124 (bytes "a") [] [] []) 1500 ≡ 8) × (rule_fault (rule_of 124 (bytes "a") [] [] (bytes "x")) 1500 ≡ 7)
unfolding split_at
full = (refl, refl, refl)

-- The byte that splits a field is no digit of another: a bar in a field that commas split is 7.
pub other_byte : (rule_fault (rule_of 44 (bytes "a") (bytes "4,54") [] []) 0 ≡ 0) × (rule_fault (rule_of 44 (bytes "a") (bytes "4|54") [] []) 0 ≡ 7)
unfolding split_at
other_byte = (refl, refl)
