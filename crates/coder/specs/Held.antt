-- What the code of this crate holds and answers, in the words of the definitions: a name prepared, what the search finds, the next use, all branches.
-- Assumes nothing.
use Rattle.std.specs.Prelude.{ℕ, zero, suc, ◌+◌, ◌-◌, ◌*◌, ◌/◌, ◌^◌, ◌<◌, ◌≤◌, ◌≡◌, Bool, true, false, cond, List, [], ◌∷◌, map, length, take, drop, Option, Some, None as NoneOf, Result, Ok, Err}
use Rattle.std.specs.Result.{result_ok}
use Rattle.std.proofs.Math.Option as maybe
use Rattle.laws.specs.Lists.{begins}
use Rattle.chars.specs.Utf8.{char_of, is_text, bad_place}
use Rattle.chars.specs.Letters.{white, tabled}
use Rattle.chars.specs.declared.Char.TheVariants.{One}
use Rattle.plate.specs.Plate.{Rule, Plate}
use Rattle.plate.specs.Read.{rule_at, plate_in}
use Rattle.plate.specs.Stands.{packed, field_of}
use Rattle.plate.specs.declared.FieldKind.{FieldKind}
use Rattle.plate.specs.declared.FieldKind.TheVariants as kind
use Rattle.plate.specs.declared.read.RuleAt.{RuleAt}
use Rattle.branches.specs.Branches.{Branch, Use, start}
use Rattle.branches.specs.Room.{outcome}
use Rattle.branches.specs.declared.TooMany.{TooMany}
use Rattle.coder.specs.Name.{Named, most_name, named}
use Rattle.coder.specs.Name.Named.{Refused, Chars}
use Rattle.coder.specs.Refused.{error_number, error_place, error_of}
use Rattle.coder.specs.Walk.{letters, walk}
use Rattle.coder.specs.Search.{Hit, hit_from}
use Rattle.coder.specs.Search.Hit.{Taken, None}
use Rattle.coder.specs.declared.NameFault.{NameFault}
use Rattle.coder.specs.declared.NameFault.TheVariants as fault
use Rattle.coder.specs.declared.walk.Ahead.{Ahead}
use Rattle.coder.specs.declared.walk.Found.{Found}
use Rattle.coder.specs.declared.walk.Found.TheVariants as found
use Rattle.coder.specs.declared.walk.Walk.{Walk}
use Rattle.coder.specs.declared.walk.Use as walked

-- ---- a name, prepared

-- 01's number and the place for each fault
abbrev pub named_by : NameFault → Named
named_by f = Refused (error_number (error_of f)) (error_place (error_of f))

-- the fault of bytes that begin, at a place, with a character that is not allowed: "check [..] 2, 11"
abbrev pub foreign_fault : ℕ → List ℕ → NameFault
foreign_fault at bytes = cond (is_text bytes) (fault.NotAllowed at) (fault.NotUtf8 (at + bad_place bytes))

-- An ASCII character stands at a place that is neither dropped nor refused.
pub record PlainAt (name : List ℕ) (at c : ℕ) : Type 0 where
  pub within : at < length name
  pub here : char_of (drop at name) ≡ One c 1
  pub inked : white c ≡ false
  pub allowed : tabled c ≡ true

-- The fault, or how many characters stand in front of what was lent for them.
abbrev pub PreparedIs : Plate → List ℕ → List ℕ → Result ℕ NameFault → Type 0
PreparedIs p name chars (Ok n) = (Chars (take n chars) ≡ named p name) × (n ≤ most_name)
PreparedIs p name chars (Err f) = named_by f ≡ named p name

-- ---- the characters ahead

-- the first n of them; zeros behind their end
unfoldable pub ahead : ℕ → List ℕ → List ℕ
ahead zero cs = []
ahead (suc n) [] = 0 ∷ ahead n []
ahead (suc n) (c ∷ cs) = c ∷ ahead n cs

-- the first n are ASCII
unfoldable pub Plain : ℕ → List ℕ → Type 0
Plain zero cs = Unit {0}
Plain (suc n) [] = Unit {0}
Plain (suc n) (c ∷ cs) = (c < 128) × Plain n cs

-- So many of them, up to six, are ASCII and stand as bytes in front of a word of 64 bits.
pub record AheadIs (cs : List ℕ) (r : Ahead) : Type 0 where
  pub few : r.plain ≤ 6
  pub ascii : Plain r.plain cs
  pub is : (n : ℕ) → n ≤ r.plain → r.word / 2 ^ (64 - 8 * n) ≡ packed 0 (ahead n cs)

-- ---- the search

-- the search at the first of some characters
unfoldable pub hit_at : Bool → List Rule → List ℕ → Hit
hit_at known rs [] = None known
hit_at known rs (c ∷ cs) = hit_from known rs c cs

-- The pattern of the rule at a place begins some characters, and has so many; or it does not begin them.
abbrev pub BegunIs : List ℕ → ℕ → List ℕ → Option ℕ → Type 0
BegunIs s at cs (Some n) = (begins (letters (rule_at s at)) cs ≡ true) × (n ≡ length (letters (rule_at s at))) × (n ≤ 16)
BegunIs s at cs NoneOf = begins (letters (rule_at s at)) cs ≡ false

-- The rule is taken; n is the number of its characters.
pub record FoundAt (h : Hit) (rule : RuleAt) (n : ℕ) : Type 0 where
  pub taken : h ≡ Taken (rule_at rule.bytes.now rule.at)
  pub counted : n ≡ length (letters (rule_at rule.bytes.now rule.at))
  pub some : 0 < n
  pub few : n ≤ 16

abbrev pub FoundIs : Hit → Found → Type 0
FoundIs h (found.Rule rule n) = FoundAt h rule n
FoundIs h found.NoMatch = h ≡ None true
FoundIs h found.NoGroup = h ≡ None false

-- ---- the walk

-- the character before, where one with a group came before
abbrev pub before_of : Option ℕ → maybe.Option ℕ
before_of (Some before) = maybe.some before
before_of NoneOf = maybe.none

-- "start, if no character with a group came before; else before vowel, if a, e, i, o or u follows the pattern; else default"
abbrev pub field_kind : Option ℕ → Bool → FieldKind
field_kind NoneOf vowel = kind.Start
field_kind (Some before) vowel = cond vowel kind.Vowel kind.Other

-- a use with the first of its alternatives, `most` of them
abbrev pub cut_to : ℕ → Use → Use
cut_to most u = record { alternatives = take most u.alternatives; anyway = u.anyway }

abbrev pub cut_all : ℕ → List Use → List Use
cut_all most us = map (cut_to most) us

-- the uses that are left along a walk, cut so
unfoldable pub uses_left : ℕ → List Rule → List ℕ → Option ℕ → ℕ → List Use
uses_left most rs name before at = cut_all most (walk rs (before_of before) 0 (drop at name))

abbrev pub left : ℕ → Walk → List Use
left most w = uses_left most (plate_in w.plate.bytes.now).rules w.name.now w.before w.at

-- a use of a rule, with the first `most` of its alternatives
abbrev pub use_at : ℕ → walked.Use → Use
use_at most u = record { alternatives = take most (field_of (rule_at u.rule.bytes.now u.rule.at) u.kind); anyway = u.anyway }

-- The next use is the first of those that are left, however they are cut, and the walk has the others before it; or none is left.
pub record Next (w v : Walk) (u : walked.Use) : Type 0 where
  pub first : (most : ℕ) → left most w ≡ use_at most u ∷ left most v
  pub within : w.at < length w.name.now
  pub behind : w.at < v.at
  pub same : v.name ≡ w.name

abbrev pub NextIs : Walk → Walk → Option walked.Use → Type 0
NextIs w v (Some u) = Next w v u
NextIs w v NoneOf = (most : ℕ) → left most w ≡ []

-- ---- the branches

-- all branches along a name, or that at the start or after some step they were more than room
abbrev pub RunIs : ℕ → List Use → Result (List Branch) TooMany → Type 0
RunIs room us r = outcome room us start ≡ result_ok r
