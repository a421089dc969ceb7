-- A text and its items, their places, lengths and what they say, by computation. Assumes nothing.
use Rattle.std.specs.Prelude.{ℕ, ◌≡◌, refl, [], ◌∷◌}
use Rattle.laws.specs.Lists.{until, count_of}
use Rattle.chars.specs.Quoted.{bytes}
use Rattle.rule_text.specs.Forms.{entry, quadruplet, folding, multiline_comment, end_of_line, ending, comment, blanks, later, pair_at, line_at, part, plain, escaped, part_at, letter_at, closing}
use Rattle.rule_text.specs.Items.{Saying, Item, through_newline, items_from, items}
use Rattle.rule_text.specs.Items.Saying.{RuleItem, FoldingItem, LineEndItem, CommentItem, UnknownItem}

abbrev at : ℕ → ℕ → Saying → Item
at place length saying = record { place = place; length = length; saying = saying }

whole : items (bytes "\"a\" \"0\" \"\" \"4|5\" // a rule\r\n\nà=a\n/* 1\n2 */\n? ?\n?")
    ≡ at 0 28 (RuleItem (bytes "a") (bytes "0") (bytes "") (bytes "4|5")) ∷ at 28 1 LineEndItem ∷ at 29 5 (FoldingItem 0xE0 0x61) ∷ at 34 10 CommentItem ∷ at 44 4 UnknownItem ∷ []
unfolding entry quadruplet folding multiline_comment end_of_line ending comment blanks until count_of later pair_at line_at part plain escaped part_at letter_at closing through_newline items_from
whole = refl
