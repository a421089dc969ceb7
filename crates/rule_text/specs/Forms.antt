-- The four forms of an item, on the bytes that are left. 01, "Rule text, item by item".
-- A form answers places, counted from the item's first byte: where its content starts and ends, and the place behind it; or that it does not fit.
-- A byte past the end reads as 0, which no form asks for. Assumes nothing.
use Rattle.std.specs.Prelude.{ℕ, suc, ◌+◌, Bool, cond, ◌&&◌, ◌||◌, List, [], ◌∷◌, ltb, eqb, length, get_or, drop, Option, Some, None}
use Rattle.laws.specs.Lists.{cut, until}
use Rattle.chars.specs.Utf8.{char_of}
use Rattle.chars.specs.declared.Char.{Char}
use Rattle.chars.specs.declared.Char.TheVariants.{One, Bad, End}
use Rattle.rule_text.specs.declared.Span.{Span}
use Rattle.rule_text.specs.declared.Quoted.{Quoted}
use Rattle.rule_text.specs.declared.Symbol.{Symbol}
use Rattle.rule_text.specs.declared.Four.{Four}
use Rattle.rule_text.specs.declared.Pair.{Pair}
use Rattle.rule_text.specs.declared.Entry.{Entry}
use Rattle.rule_text.specs.declared.Entry.TheVariants as E

-- ---- bytes

abbrev pub tab : ℕ
tab = 9

abbrev pub newline : ℕ
newline = 10

abbrev pub return : ℕ
return = 13

abbrev pub space : ℕ
space = 32

abbrev pub quote : ℕ
quote = 34

abbrev pub star : ℕ
star = 42

abbrev pub slash : ℕ
slash = 47

abbrev pub equals : ℕ
equals = 61

abbrev pub backslash : ℕ
backslash = 92

-- the bytes a and b stand at a place, one behind the other
unfoldable pub pair_at : List ℕ → ℕ → ℕ → ℕ → Bool
pair_at l at a b = eqb (get_or l at 0) a && eqb (get_or l (at + 1) 0) b

-- ---- going on behind a form that fits; where it does not, the form above it does not fit either

abbrev pub onward : {A : Type 0} → Option ℕ → A → (ℕ → A) → A
onward (Some next) none go = go next
onward None none go = none

abbrev pub onward_quoted : {A : Type 0} → Option Quoted → A → (Span → ℕ → A) → A
onward_quoted (Some q) none go = go q.content q.next
onward_quoted None none go = none

abbrev pub onward_letter : {A : Type 0} → Option Symbol → A → (ℕ → ℕ → A) → A
onward_letter (Some s) none go = go s.code s.next
onward_letter None none go = none

-- a form that was read from a place on: its places are moved by it
unfoldable pub later : ℕ → Option ℕ → Option ℕ
later at (Some next) = Some (at + next)
later at None = None

-- a part between two places, and the place behind it
abbrev pub held : ℕ → ℕ → ℕ → Quoted
held start end next = record { content = record { start = start; end = end }; next = next }

abbrev pub later_quoted : ℕ → Option Quoted → Option Quoted
later_quoted at (Some q) = Some (held (at + q.content.start) (at + q.content.end) (at + q.next))
later_quoted at None = None

-- ---- 3. "Line end: optional spaces or tabs, optional `//` comment up to a newline, then newline, CR LF or end of text."

-- how many spaces or tabs stand in front
unfoldable pub blanks : List ℕ → ℕ
blanks [] = 0
blanks (x ∷ xs) = cond (eqb x space || eqb x tab) (suc (blanks xs)) 0

-- the length of the comment in front, 0 where there is none
unfoldable pub comment : List ℕ → ℕ
comment l = cond (pair_at l 0 slash slash) (until newline l) 0

unfoldable pub ending : List ℕ → Option ℕ
ending l =
    cond (eqb (length l) 0) (Some 0)
    (cond (eqb (get_or l 0 0) newline) (Some 1)
    (cond (pair_at l 0 return newline) (Some 2) None))

unfoldable pub end_of_line : List ℕ → Option ℕ
end_of_line l =
    let behind = drop (blanks l) l in
    later (blanks l) (later (comment behind) (ending (drop (comment behind) behind)))

unfoldable pub line_at : List ℕ → ℕ → Option ℕ
line_at l at = later at (end_of_line (drop at l))

-- ---- 1. "Rule: four quoted parts, one or more spaces or tabs between them, then a line end."

-- "content runs to the next quote, may be empty and may hold newlines": l from the opening quote on
unfoldable pub plain : List ℕ → Option Quoted
plain l = let end = 1 + until quote (drop 1 l) in cond (ltb end (length l)) (Some (held 1 end (end + 1))) None

-- "if the next two bytes are backslash and quote, they are the content and a quote must follow"
unfoldable pub escaped : List ℕ → Option Quoted
escaped l = cond (eqb (get_or l 3 0) quote) (Some (held 1 3 4)) None

-- "After the opening quote: if the next two bytes are backslash and quote, [..]; else content runs to the next quote"
unfoldable pub part : List ℕ → Option Quoted
part l = cond (eqb (get_or l 0 0) quote) (cond (pair_at l 1 backslash quote) (escaped l) (plain l)) None

-- one or more spaces or tabs from a place on, then a part
unfoldable pub part_at : List ℕ → ℕ → Option Quoted
part_at l at = let n = blanks (drop at l) in cond (eqb n 0) None (later_quoted (at + n) (part (drop (at + n) l)))

unfoldable pub quadruplet : List ℕ → Option Four
quadruplet l =
    onward_quoted (part l) None (λ pattern next. onward_quoted (part_at l next) None (λ start next. onward_quoted (part_at l next) None (λ vowel next.
    onward_quoted (part_at l next) None (λ other next.
    onward (line_at l next) None (λ next. Some (record { pattern = pattern; start = start; vowel = vowel; other = other; next = next }))))))

-- the bytes of a span
abbrev pub inside : List ℕ → Span → List ℕ
inside l s = cut l s.start s.end

-- ---- 2. "Folding: any character, `=`, any character, line end. Newline counts as a character here."

abbrev pub letter : ℕ → Char → Option Symbol
letter at (One c w) = Some (record { code = c; next = at + w })
letter at Bad = None
letter at End = None

unfoldable pub letter_at : List ℕ → ℕ → Option Symbol
letter_at l at = letter at (char_of (drop at l))

unfoldable pub folding : List ℕ → Option Pair
folding l =
    onward_letter (letter_at l 0) None (λ key next. cond (eqb (get_or l next 0) equals)
    (onward_letter (letter_at l (next + 1)) None (λ target next. onward (line_at l next) None (λ next. Some (record { key = key; target = target; next = next })))) None)

-- ---- 4. "Block comment: `/*`, up to the first `*/` behind it, line end."

-- how many bytes stand before the first */
unfoldable pub closing : List ℕ → Option ℕ
closing [] = None
closing (x ∷ xs) = cond (eqb x star && eqb (get_or xs 0 0) slash) (Some 0) (later 1 (closing xs))

unfoldable pub multiline_comment : List ℕ → Option ℕ
multiline_comment l = cond (pair_at l 0 slash star) (onward (closing (drop 2 l)) None (λ n. line_at l (n + 4))) None

-- ---- "At each item the first form that fits is taken, in this order"

abbrev pub or_comment : Option ℕ → Entry
or_comment (Some next) = E.Comment next
or_comment None = E.Unknown

abbrev pub or_line_end : Option ℕ → Entry → Entry
or_line_end (Some next) otherwise = E.LineEnd next
or_line_end None otherwise = otherwise

abbrev pub or_folding : Option Pair → Entry → Entry
or_folding (Some pair) otherwise = E.Folding pair.key pair.target pair.next
or_folding None otherwise = otherwise

abbrev pub or_rule : Option Four → Entry → Entry
or_rule (Some four) otherwise = E.Rule four
or_rule None otherwise = otherwise

unfoldable pub entry : List ℕ → Entry
entry l = or_rule (quadruplet l) (or_folding (folding l) (or_line_end (end_of_line l) (or_comment (multiline_comment l))))
