-- What is noted of a plate's rules while it is accepted: where each stands, and which rules are the group of a small first code point. Assumes nothing.
use Rattle.std.specs.Prelude.{◌≡◌, ℕ, ◌/◌, ◌%◌, ◌<◌, ◌≤◌, Bool, true, false, not, List, length, take, drop, replicate, ◌==◌, nat_le, nat_lt, slice_index, Option, OnSome}
use Rattle.std.proofs.Math.Seq.{slice}
use Rattle.laws.specs.Lists.{every}
use Rattle.chars.specs.Letters.{latin_end}
use Rattle.plate.specs.Plate.{Rule, first_code}
use Rattle.plate.specs.Read.{many, past, rule_at, rule_end, rule_count, rules_place, count_width}

-- ---- a character's group, by numbers of rules

-- a rule's pattern begins with the character c, or with another
abbrev pub is_of : ℕ → Rule → Bool
is_of c r = first_code r == c

abbrev pub is_other : ℕ → Rule → Bool
is_other c r = not (is_of c r)

-- The rules from number `first` up to `behind` are c's group, "the rules whose pattern begins with it": each of them does, none before them and none behind.
pub record GroupIs (rs : List Rule) (c first behind : ℕ) : Type 0 where
  pub rising : first ≤ behind
  pub within : behind ≤ length rs
  pub before : every (is_other c) (take first rs) ≡ true
  pub inside : every (is_of c) (slice first behind rs) ≡ true
  pub after : every (is_other c) (drop behind rs) ≡ true

-- with a character below c, or with c or one above it
abbrev pub is_below : ℕ → Rule → Bool
is_below c r = nat_lt (first_code r) c

abbrev pub is_from : ℕ → Rule → Bool
is_from c r = nat_le c (first_code r)

-- The first k rules begin with characters below c, the others do not.
pub record Parted (rs : List Rule) (c k : ℕ) : Type 0 where
  pub within : k ≤ length rs
  pub below : every (is_below c) (take k rs) ≡ true
  pub from : every (is_from c) (drop k rs) ≡ true

-- ---- what is noted of n rules from a place on

-- entry i is the place of rule i
pub record RulesPlaced (s : List ℕ) (from n : ℕ) (places : List ℕ) : Type 0 where
  pub room : n ≤ length places
  pub at : (i : ℕ) → i < n → slice_index places i ≡ past (rule_end s) i from

-- The groups of the first characters are noted, those of the first lowercase table, each in one number: its first rule times `half`, and the rule behind its last.
abbrev pub noted_characters : ℕ
noted_characters = latin_end

abbrev pub half : ℕ
half = 65536

-- entry c is c's group
pub record Grouped (s : List ℕ) (from n : ℕ) (groups : List ℕ) : Type 0 where
  pub size : length groups ≡ noted_characters
  pub of : (c : ℕ) → c < noted_characters → GroupIs (many (rule_at s) (rule_end s) n from) c (slice_index groups c / half) (slice_index groups c % half)

abbrev pub NotedFrom : List ℕ → ℕ → ℕ → List ℕ → List ℕ → Type 0
NotedFrom s from n places groups = RulesPlaced s from n places × Grouped s from n groups

-- of all rules of a plate, whose rule count is w bits wide
abbrev pub NotedIn : ℕ → List ℕ → List ℕ → List ℕ → Type 0
NotedIn w s places groups = NotedFrom s (rules_place w s) (rule_count w s) places groups

-- of all rules of a plate
abbrev pub AllPlaced : List ℕ → List ℕ → Type 0
AllPlaced s places = RulesPlaced s (rules_place (count_width s) s) (rule_count (count_width s) s) places

abbrev pub Noted : List ℕ → List ℕ → List ℕ → Type 0
Noted s places groups = NotedIn (count_width s) s places groups

-- what is lent to note n rules in: room for their places, and groups of which none is noted
pub record Unnoted (n : ℕ) (places groups : List ℕ) : Type 0 where
  pub room : n ≤ length places
  pub clear : groups ≡ replicate noted_characters 0

-- where rules are accepted, they are noted
abbrev pub NotedTo : Option ℕ → List ℕ → ℕ → ℕ → List ℕ → List ℕ → Type 0
NotedTo r s from n places groups = OnSome r (NotedFrom s from n places groups)

-- where bytes are accepted, their rules are noted
abbrev pub NotedIf : Bool → ℕ → List ℕ → List ℕ → List ℕ → Type 0
NotedIf true w s places groups = NotedIn w s places groups
NotedIf false w s places groups = Unit {0}
