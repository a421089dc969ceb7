-- M-113, rule order: "if two texts build under one flag and are read, item by item, as the same rules and foldings in another order, those of one pattern and
-- foldings of one key keeping theirs, then encode and list answer equally for every name and buffer." Assumes nothing.
use Rattle.std.specs.Prelude.{ℕ, ◌≡◌, Bool, true, false, not, ◌&&◌, List, [], ◌∷◌, ◌++◌, T, eqb}
use Rattle.laws.specs.Lists.{keep, same, split_at, until, count_of}
use Rattle.chars.specs.Utf8.{text_from, chars_from}
use Rattle.chars.specs.Letters.{white, capital, even_capital, odd_capital, lower_of, vowel}
use Rattle.chars.specs.Quoted.{bytes, lines}
use Rattle.rule_text.specs.Forms.{entry, quadruplet, folding, multiline_comment, end_of_line, ending, comment, blanks, later, pair_at, line_at, part, plain, escaped, part_at, letter_at, closing}
use Rattle.rule_text.specs.Items.{Saying, items_from}
use Rattle.rule_text.specs.Items.Saying.{RuleItem, FoldingItem, LineEndItem, CommentItem, UnknownItem}
use Rattle.plate.specs.Bits.{bit, number_at}
use Rattle.plate.specs.Read.{fold_by}
use Rattle.builder.specs.Build.{Built, build_answer, verdict}
use Rattle.branches.specs.Branches.{ends_with, extend, met, step, run, over}
use Rattle.coder.specs.Walk.{walk}
use Rattle.coder.specs.Answer.{Coded, joined, room, list_answer, encode_answer}
use Rattle.promises.specs.Said.{said_by}
use Rattle.promises.specs.Unused.{SameLeft}
use Rattle.promises.specs.Case.{Case, Codes, built_of, apart}

-- a rule of this pattern
abbrev pub pattern_is : List ℕ → Saying → Bool
pattern_is p (RuleItem q s v o) = same q p
pattern_is p (FoldingItem key target) = false
pattern_is p LineEndItem = false
pattern_is p CommentItem = false
pattern_is p UnknownItem = false

-- a folding of this key
abbrev pub key_is : ℕ → Saying → Bool
key_is k (RuleItem q s v o) = false
key_is k (FoldingItem key target) = eqb key k
key_is k LineEndItem = false
key_is k CommentItem = false
key_is k UnknownItem = false

-- The rules of each pattern are the same in the same order, and so are the foldings of each key. Nothing else is asked: line ends and comments may differ.
pub record Reordered (is js : List Saying) : Type 0 where
  pub rules : (p : List ℕ) → keep (pattern_is p) is ≡ keep (pattern_is p) js
  pub foldings : (k : ℕ) → keep (key_is k) is ≡ keep (key_is k) js

-- What build leaves of two such texts, and list, or encode, by the plates that it wrote.
abbrev pub OrderFree : List ℕ → List ℕ → Built → Built → List ℕ → List ℕ → Coded → Coded → Type 0
OrderFree text other b b' lent lent' a a' = Reordered (said_by text) (said_by other) → b.number ≡ 0 → b'.number ≡ 0 → SameLeft lent lent' a a'

-- ---- the same, by swaps of neighbours; proofs/Orders.antt shows that the two agree

-- two sayings whose order matters: rules of one pattern, foldings of one key
abbrev pub rivals : Saying → Saying → Bool
rivals (RuleItem p s v o) = pattern_is p
rivals (FoldingItem key target) = key_is key
rivals LineEndItem = λ j. false
rivals CommentItem = λ j. false
rivals UnknownItem = λ j. false

-- a rule or a folding
abbrev pub telling : Saying → Bool
telling (RuleItem p s v o) = true
telling (FoldingItem key target) = true
telling LineEndItem = false
telling CommentItem = false
telling UnknownItem = false

-- The second list comes from the first by swaps of neighbours that are no rivals.
pub data Swaps : List Saying → List Saying → Type 0 where
  Done : Swaps [] []
  Both : (i : Saying) {is js : List Saying} → Swaps is js → Swaps (i ∷ is) (i ∷ js)
  Swap : (i j : Saying) (is : List Saying) → rivals i j ≡ false → Swaps (i ∷ j ∷ is) (j ∷ i ∷ is)
  Then : {is js ks : List Saying} → Swaps is js → Swaps js ks → Swaps is ks

-- `Reordered` is an honest order of the same rules and foldings: symmetric and transitive; it holds where two neighbours that are no rivals are swapped, wherever
-- they stand, and where two rivals are swapped only if they are equal; and it is exactly what such swaps of rules and foldings give.
pub record Permutes : Type 0 where
  pub symmetric : (is js : List Saying) → Reordered is js → Reordered js is
  pub transitive : (is js ks : List Saying) → Reordered is js → Reordered js ks → Reordered is ks
  pub neighbours : (is js : List Saying) (i j : Saying) → rivals i j ≡ false → Reordered (is ++ (i ∷ j ∷ js)) (is ++ (j ∷ i ∷ js))
  pub rivals_stay : (is js : List Saying) (i j : Saying) → rivals i j ≡ true → Reordered (is ++ (i ∷ j ∷ js)) (is ++ (j ∷ i ∷ js)) → i ≡ j
  pub by_swaps : (is js : List Saying) → Reordered is js → Swaps (keep telling is) (keep telling js)
  pub of_swaps : (is js : List Saying) → Swaps (keep telling is) (keep telling js) → Reordered is js

-- ---- small texts, in two orders

-- rules of two patterns swapped: another plate, the same codes
abbrev pub text₁ : List ℕ
text₁ = lines ("\"ab\" \"1\" \"1\" \"1\"" ∷ "\"ac\" \"2\" \"2\" \"2\"" ∷ "\"ab\" \"3\" \"3\" \"3\"" ∷ "à=a" ∷ [])

abbrev pub text₂ : List ℕ
text₂ = lines ("\"ac\" \"2\" \"2\" \"2\" // in front" ∷ "\"ab\" \"1\" \"1\" \"1\"" ∷ "\"ab\" \"3\" \"3\" \"3\"" ∷ "à=a" ∷ [])

-- two rules of one pattern swapped: another code
abbrev pub text₃ : List ℕ
text₃ = lines ("\"a\" \"1\" \"\" \"\"" ∷ "\"a\" \"2\" \"\" \"\"" ∷ [])

abbrev pub text₄ : List ℕ
text₄ = lines ("\"a\" \"2\" \"\" \"\"" ∷ "\"a\" \"1\" \"\" \"\"" ∷ [])

-- two foldings of one key swapped: another code
abbrev pub text₅ : List ℕ
text₅ = lines ("à=b" ∷ "à=a" ∷ "\"a\" \"1\" \"\" \"\"" ∷ [])

abbrev pub text₆ : List ℕ
text₆ = lines ("à=a" ∷ "à=b" ∷ "\"a\" \"1\" \"\" \"\"" ∷ [])

abbrev cases : List Case
cases =
    Codes text₁ true (bytes "abàc") 20 (bytes "120000")
    ∷ Codes text₂ true (bytes "abàc") 20 (bytes "120000")
    ∷ Codes text₃ true (bytes "a") 20 (bytes "100000")
    ∷ Codes text₄ true (bytes "a") 20 (bytes "200000")
    ∷ Codes text₅ true (bytes "à") 20 (bytes "100000")
    ∷ Codes text₆ true (bytes "à") 20 (bytes "000000")
    ∷ []

-- the last rule of a pattern; the first folding of a key
abbrev wrong : List Case
wrong = Codes text₁ true (bytes "abàc") 20 (bytes "320000") ∷ Codes text₅ true (bytes "à") 20 (bytes "000000") ∷ []

pub orders : T (not (same (built_of text₁ true) (built_of text₂ true)) && apart cases wrong)
unfolding text_from chars_from white capital even_capital odd_capital lower_of vowel entry quadruplet folding multiline_comment end_of_line ending comment blanks until
    count_of later pair_at line_at part plain escaped part_at letter_at closing items_from split_at bit number_at build_answer verdict ends_with extend met step run over
    fold_by walk joined room list_answer encode_answer
orders = tt
