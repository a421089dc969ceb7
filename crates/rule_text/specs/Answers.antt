-- The answers of this crate's functions: the bounds of the places by cases, so that parts can be lent and a loop over items ends.
-- 01, "Rule text, item by item". Assumes nothing.
use Rattle.std.specs.Prelude.{ℕ, ◌+◌, ◌<◌, ◌≤◌, ◌≡◌, true, Option, Some, None}
use Rattle.chars.specs.Utf8.{scalar}
use Rattle.rule_text.specs.declared.Span.{Span}
use Rattle.rule_text.specs.declared.Quoted.{Quoted}
use Rattle.rule_text.specs.declared.Symbol.{Symbol}
use Rattle.rule_text.specs.declared.Four.{Four}
use Rattle.rule_text.specs.declared.Pair.{Pair}
use Rattle.rule_text.specs.declared.Entry.{Entry}
use Rattle.rule_text.specs.declared.Entry.TheVariants as E

-- ---- bounds, of n bytes

-- from a place up to the end at most
abbrev pub From : ℕ → ℕ → Option ℕ → Type 0
From at n (Some next) = (at ≤ next) × (next ≤ n)
From at n None = Unit

-- a line end takes a byte where there is one
abbrev pub EndsLine : ℕ → Option ℕ → Type 0
EndsLine n (Some next) = (next ≤ n) × (0 < n → 0 < next)
EndsLine n None = Unit

-- the two bytes that close a comment lie within
abbrev pub Closes : ℕ → Option ℕ → Type 0
Closes n (Some before) = before + 2 ≤ n
Closes n None = Unit

-- a part from a place on
pub record HeldIn (at n start end next : ℕ) : Type 0 where
  pub after : at ≤ start
  pub ordered : start ≤ end
  pub closed : end ≤ next
  pub within : next ≤ n
  pub some : at < next

abbrev pub Holds : ℕ → ℕ → Option Quoted → Type 0
Holds at n (Some q) = HeldIn at n q.content.start q.content.end q.next
Holds at n None = Unit

abbrev pub Within : ℕ → Span → Type 0
Within n s = (s.start ≤ s.end) × (s.end ≤ n)

-- a rule's four parts lie before the place behind it
pub record FourIn (n : ℕ) (four : Four) : Type 0 where
  pub pattern : Within four.next four.pattern
  pub start : Within four.next four.start
  pub vowel : Within four.next four.vowel
  pub other : Within four.next four.other
  pub within : four.next ≤ n
  pub some : 0 < four.next

abbrev pub HoldsFour : ℕ → Option Four → Type 0
HoldsFour n (Some four) = FourIn n four
HoldsFour n None = Unit

pub record SymbolIn (at n c next : ℕ) : Type 0 where
  pub some : at < next
  pub within : next ≤ n
  pub small : c < 0x110000
  pub is : scalar c ≡ true

abbrev pub Reads : ℕ → ℕ → Option Symbol → Type 0
Reads at n (Some s) = SymbolIn at n s.code s.next
Reads at n None = Unit

pub record FoldingIn (n key target next : ℕ) : Type 0 where
  pub within : next ≤ n
  pub some : 0 < next
  pub key_small : key < 0x110000
  pub key_is : scalar key ≡ true
  pub target_small : target < 0x110000
  pub target_is : scalar target ≡ true

abbrev pub Pairs : ℕ → Option Pair → Type 0
Pairs n (Some p) = FoldingIn n p.key p.target p.next
Pairs n None = Unit

-- two bytes open a comment and two close it
abbrev pub Comments : ℕ → Option ℕ → Type 0
Comments n r = From 4 n r

-- An item lies within, and takes a byte where there is one.
abbrev pub Lies : ℕ → Entry → Type 0
Lies n (E.Rule four) = FourIn n four
Lies n (E.Folding key target next) = FoldingIn n key target next
Lies n (E.LineEnd next) = EndsLine n (Some next)
Lies n (E.Comment next) = Comments n (Some next)
Lies n E.Unknown = Unit
