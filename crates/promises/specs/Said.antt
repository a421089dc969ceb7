-- What a rule text says, in text order, and which bytes are a plate: the words in which the demands speak of texts and plates. Assumes nothing.
use Rattle.std.specs.Prelude.{ℕ, ◌≡◌, Bool, true, List, [], ◌∷◌}
use Rattle.rule_text.specs.Items.{Saying, Item, items}
use Rattle.rule_text.specs.Items.Saying.{RuleItem, FoldingItem, LineEndItem, CommentItem, UnknownItem}
use Rattle.plate.specs.Plate.{Folding, Rule, Plate, same_pattern, good_plate}
use Rattle.plate.specs.Written.{plate_bytes}
use Rattle.rule_text.specs.Fields.{bar}
use Rattle.laws.specs.Once.{once}
use Rattle.book.specs.Book.{put_rule, put_folding, rule_of, folding_of}

-- what items say, one by one
abbrev pub sayings : List Item → List Saying
sayings [] = []
sayings (i ∷ more) = i.saying ∷ sayings more

-- what the items of a text say
abbrev pub said_by : List ℕ → List Saying
said_by text = sayings (items text)

-- the rules among them, in text order
abbrev pub rules_of : List Saying → List Rule
rules_of [] = []
rules_of (RuleItem p s v o ∷ more) = rule_of bar p s v o ∷ rules_of more
rules_of (FoldingItem key target ∷ more) = rules_of more
rules_of (LineEndItem ∷ more) = rules_of more
rules_of (CommentItem ∷ more) = rules_of more
rules_of (UnknownItem ∷ more) = rules_of more

-- the foldings among them, in text order
abbrev pub foldings_of : List Saying → List Folding
foldings_of [] = []
foldings_of (RuleItem p s v o ∷ more) = foldings_of more
foldings_of (FoldingItem key target ∷ more) = folding_of key target ∷ foldings_of more
foldings_of (LineEndItem ∷ more) = foldings_of more
foldings_of (CommentItem ∷ more) = foldings_of more
foldings_of (UnknownItem ∷ more) = foldings_of more

-- put in one by one, each by its order, to those held
abbrev pub put_rules : List Rule → List Rule → List Rule
put_rules held [] = held
put_rules held (r ∷ more) = put_rules (put_rule r held) more

abbrev pub put_foldings : List Folding → List Folding → List Folding
put_foldings held [] = held
put_foldings held (f ∷ more) = put_foldings (put_folding f held) more

-- the plate that a text says, with a folding flag; 02, M-107: of the rules of one pattern the first in text order stays
abbrev pub plate_said : Bool → List ℕ → Plate
plate_said flag text = record { flag = flag; foldings = put_foldings [] (foldings_of (said_by text)); rules = put_rules [] (once same_pattern (rules_of (said_by text))) }

-- The bytes are those of a plate that obeys the table.
abbrev pub IsPlate : Plate → List ℕ → Type 0
IsPlate p bytes = (good_plate p ≡ true) × (bytes ≡ plate_bytes p)
