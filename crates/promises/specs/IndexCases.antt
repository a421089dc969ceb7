-- M-108 from rule text to index: each case shuts out a wrong reading. Entries are written by hand: five hexadecimal digits of code, three of record number.
-- Assumes nothing.
use Rattle.std.specs.Prelude.{ℕ, ◌+◌, ◌-◌, Bool, true, not, ◌&&◌, List, [], ◌∷◌, ◌++◌, T, eqb, length, replicate}
use Rattle.laws.specs.Lists as lists
use Rattle.laws.specs.Lists.{every, same, split_at, until, count_of}
use Rattle.chars.specs.Utf8.{text_from, chars_from, sound_from}
use Rattle.chars.specs.Letters.{white, capital, even_capital, odd_capital, lower_of, vowel}
use Rattle.chars.specs.Quoted.{bytes}
use Rattle.rule_text.specs.Forms.{entry, quadruplet, folding, multiline_comment, end_of_line, ending, comment, blanks, later, pair_at, line_at, part, plain, escaped, part_at, letter_at, closing}
use Rattle.rule_text.specs.Items.{items_from}
use Rattle.plate.specs.Bits.{bit, number_at}
use Rattle.plate.specs.Read.{fold_by}
use Rattle.builder.specs.Build.{build_answer, verdict}
use Rattle.branches.specs.Branches.{ends_with, extend, met, step, run, over}
use Rattle.coder.specs.Walk.{walk}
use Rattle.coder.specs.Answer.{joined, room, list_answer}
use Rattle.ward.specs.Ward.{names}
use Rattle.index.specs.Index.{Indexed, full_list, make_answer, add_answer}
use Rattle.index.specs.Find.{find_answer}
use Rattle.promises.specs.Case.{lend, built_of}
use Rattle.promises.specs.Starred.{text_s}

-- number, what is written to index and report, and behind it what was lent
abbrev filed : Indexed → ℕ → List ℕ → List ℕ → List ℕ → List ℕ → Bool
filed a number index report behind behind_report =
    eqb a.number number && (eqb a.index_length (length index) && (eqb a.report_length (length report)
    && (same a.index (index ++ behind) && same a.report (report ++ behind_report))))

-- Plates, names, indexes and reports are bytes.
pub data Case : Type 0 where
  -- plate, names, how many bytes are lent for index and report; index and report
  Made : List ℕ → List ℕ → ℕ → ℕ → List ℕ → List ℕ → Case
  -- plate, names, how many bytes are lent for index and report; the number, and no byte of either is changed
  Unmade : List ℕ → List ℕ → ℕ → ℕ → ℕ → Case
  -- plate, name, index and report and how many bytes are lent behind each; index and report
  Added : List ℕ → List ℕ → List ℕ → List ℕ → ℕ → ℕ → List ℕ → List ℕ → Case
  -- plate, name, index and how much of it is used, report and how much of it is used; the number, and no byte of either is changed
  NotAdded : List ℕ → List ℕ → List ℕ → ℕ → List ℕ → ℕ → ℕ → Case
  -- plate, index, name, how many bytes are lent; the records
  Found : List ℕ → List ℕ → List ℕ → ℕ → List ℕ → Case
  -- plate, index, name, how many bytes are lent; the number
  NotFound : List ℕ → List ℕ → List ℕ → ℕ → ℕ → Case

abbrev holds : Case → Bool
holds (Made plate buffer i r index report) =
    filed (make_answer plate buffer (lend i) (lend r)) 0 index report (lend (i - length index)) (lend (r - length report))
holds (Unmade plate buffer i r number) = filed (make_answer plate buffer (lend i) (lend r)) number [] [] (lend i) (lend r)
holds (Added plate name index report i r index' report') =
    let a = add_answer plate name (index ++ lend i) (length index) (report ++ lend r) (length report) in
    filed a 0 index' report' (lend (length index + i - length index')) (lend (length report + r - length report'))
holds (NotAdded plate name index used report noted number) = filed (add_answer plate name index used report noted) number [] [] index report
holds (Found plate index name lent records) =
    let a = find_answer plate index name (lend lent) in
    eqb a.number 0 && (eqb a.length (length records) && same a.buffer (records ++ lend (lent - length records)))
holds (NotFound plate index name lent number) =
    let a = find_answer plate index name (lend lent) in
    eqb a.number number && (eqb a.length 0 && same a.buffer (lend lent))

-- by S, and by a plate without rules
abbrev s : List ℕ
s = built_of text_s true

abbrev bare : List ℕ
bare = built_of [] true

-- "r\ncc\nƀ": 900000 is the code of record 0, four codes are those of record 1, and record 2 is refused with 11
abbrev three : List ℕ
three = bytes "r\ncc\nƀ"

abbrev index₃ : List ℕ
index₃ =
    0x61 ∷ 0xA8 ∷ 0x00 ∷ 0x01 ∷ 0x6D ∷ 0xDD ∷ 0x00 ∷ 0x01 ∷ 0x7A ∷ 0x12 ∷ 0x00 ∷ 0x01 ∷ 0x83 ∷ 0xD6 ∷ 0x00 ∷ 0x01 ∷ 0xDB ∷ 0xBA ∷ 0x00 ∷ 0x00 ∷ []

abbrev report₃ : List ℕ
report₃ = 0 ∷ 0 ∷ 11 ∷ []

-- `r` as record 3 behind them
abbrev index₄ : List ℕ
index₄ = index₃ ++ (0xDB ∷ 0xBA ∷ 0x00 ∷ 0x03 ∷ [])

abbrev report₄ : List ℕ
report₄ = 0 ∷ 0 ∷ 11 ∷ 0 ∷ []

abbrev cases : List Case
cases =
    -- no names: no byte, into none
    Made s [] 0 0 [] []
    -- entries rise, of whatever name; a refused name has no entry, and its number in the report; the bytes behind are as lent
    ∷ Made s three 23 4 index₃ report₃
    -- as much room as there are entries and names, and a byte less of each
    ∷ Made s three 20 3 index₃ report₃
    ∷ Unmade s three 19 3 18
    ∷ Unmade s three 20 2 18
    -- empty names have a code each: two records of one code, in the order of their numbers
    ∷ Made s (10 ∷ 10 ∷ []) 8 2 (0 ∷ 0 ∷ 0 ∷ 0 ∷ 0 ∷ 0 ∷ 0 ∷ 1 ∷ []) (0 ∷ 0 ∷ [])
    -- a 4,097th name, whatever room there is
    ∷ Unmade bare (replicate 4097 10) 16388 4097 18
    -- 10 before 18
    ∷ Unmade [] three 0 0 10
    -- a name added gives what all names afresh give; a refused one has only its number, in a full index too
    ∷ Made s (three ++ bytes "\nr") 24 4 index₄ report₄
    ∷ Added s (bytes "r") index₃ report₃ 5 2 index₄ report₄
    ∷ Added s (bytes "r") index₃ report₃ 4 1 index₄ report₄
    ∷ Added s (bytes "ƀ") index₃ report₃ 0 1 index₃ (0 ∷ 0 ∷ 11 ∷ 11 ∷ [])
    ∷ Added s (bytes "r") [] (replicate 300 0) 4 1 (0xDB ∷ 0xBA ∷ 0x01 ∷ 0x2C ∷ []) (replicate 301 0)
    -- among the entries, not behind them; nothing to begin with
    ∷ Added s (bytes "m") index₃ report₃ 4 1
    (0x61 ∷ 0xA8 ∷ 0x00 ∷ 0x01 ∷ 0x6D ∷ 0xDD ∷ 0x00 ∷ 0x01 ∷ 0x7A ∷ 0x12 ∷ 0x00 ∷ 0x01 ∷ 0x83 ∷ 0xD6 ∷ 0x00 ∷ 0x01
    ∷ 0x92 ∷ 0x7C ∷ 0x00 ∷ 0x03 ∷ 0xDB ∷ 0xBA ∷ 0x00 ∷ 0x00 ∷ []) report₄
    ∷ Added s (bytes "r") [] [] 4 1 (0xDB ∷ 0xBA ∷ 0x00 ∷ 0x00 ∷ []) (0 ∷ [])
    -- no room for the entry, nor in the report
    ∷ NotAdded s (bytes "r") (index₃ ++ lend 3) 20 (report₃ ++ lend 1) 3 18
    ∷ NotAdded s (bytes "r") (index₃ ++ lend 4) 20 report₃ 3 18
    -- no whole entries; an entry twice; falling; a code above 999,999, and the last code; a record number that is the report's length
    ∷ NotAdded s (bytes "r") (0xDB ∷ 0xBA ∷ 0x00 ∷ lend 8) 3 (0 ∷ lend 1) 1 18
    ∷ NotAdded s (bytes "r") (0x92 ∷ 0x7C ∷ 0x00 ∷ 0x00 ∷ 0x92 ∷ 0x7C ∷ 0x00 ∷ 0x00 ∷ lend 4) 8 (0 ∷ lend 1) 1 18
    ∷ NotAdded s (bytes "r") (0x92 ∷ 0x7C ∷ 0x00 ∷ 0x00 ∷ 0x61 ∷ 0xA8 ∷ 0x00 ∷ 0x00 ∷ lend 4) 8 (0 ∷ lend 1) 1 18
    ∷ NotAdded s (bytes "r") (0xF4 ∷ 0x24 ∷ 0x00 ∷ 0x00 ∷ lend 4) 4 (0 ∷ lend 1) 1 18
    ∷ Added s (bytes "r") (0xF4 ∷ 0x23 ∷ 0xF0 ∷ 0x00 ∷ []) (0 ∷ []) 4 1 (0xDB ∷ 0xBA ∷ 0x00 ∷ 0x01 ∷ 0xF4 ∷ 0x23 ∷ 0xF0 ∷ 0x00 ∷ []) (0 ∷ 0 ∷ [])
    ∷ NotAdded s (bytes "r") (0x92 ∷ 0x7C ∷ 0x00 ∷ 0x01 ∷ lend 4) 4 (0 ∷ lend 1) 1 18
    -- more used than there is; 10 before 18; a bad index before the name's refusal
    ∷ NotAdded s (bytes "r") [] 4 (0 ∷ lend 1) 1 18
    ∷ NotAdded s (bytes "r") (lend 4) 0 [] 1 18
    ∷ NotAdded [] (bytes "r") (lend 3) 3 [] 0 10
    ∷ NotAdded s (bytes "ƀ") (lend 3) 3 (lend 1) 0 18
    -- records that share a code, rising, once each where several are shared
    ∷ Found s index₃ (bytes "r") 2 (0 ∷ 0 ∷ [])
    ∷ Found s index₄ (bytes "r") 5 (0 ∷ 0 ∷ 0 ∷ 3 ∷ [])
    ∷ Found s index₃ (bytes "cc") 3 (0 ∷ 1 ∷ [])
    ∷ Found s index₃ (bytes "ch") 2 (0 ∷ 1 ∷ [])
    ∷ Found s (0x61 ∷ 0xA8 ∷ 0x00 ∷ 0x05 ∷ 0x7A ∷ 0x12 ∷ 0x00 ∷ 0x01 ∷ 0x7A ∷ 0x12 ∷ 0x00 ∷ 0x05 ∷ []) (bytes "c") 4 (0 ∷ 1 ∷ 0 ∷ 5 ∷ [])
    -- none shares one, or there is none
    ∷ Found s index₃ (bytes "m") 0 []
    ∷ Found s [] (bytes "r") 0 []
    -- record numbers are not looked at
    ∷ Found s (0xDB ∷ 0xBA ∷ 0x0F ∷ 0xFF ∷ []) (bytes "r") 2 (0x0F ∷ 0xFF ∷ [])
    -- a byte less than the records take; 10, 18, the name's refusals, 9
    ∷ NotFound s index₄ (bytes "r") 3 9
    ∷ NotFound s index₃ (bytes "ƀ") 0 11
    ∷ NotFound s index₃ (bytes "cacacacacacac") 0 12
    ∷ NotFound s (0xDB ∷ 0xBA ∷ 0x00 ∷ []) (bytes "ƀ") 0 18
    ∷ NotFound s (0xF4 ∷ 0x24 ∷ 0x00 ∷ 0x00 ∷ []) (bytes "r") 2 18
    ∷ NotFound [] (0 ∷ []) (bytes "ƀ") 0 10
    ∷ []

-- entries as the names come; least significant byte first; a refused name's entry; a report without its number; room for a byte less; a refused call that
-- writes; 18 before 10; the new entry behind all; the number of an added name one too high; a record twice; records as the codes come; one byte a record;
-- a record number looked at; a name's refusal before 18
abbrev wrong : List Case
wrong =
    Made s (bytes "r\nm") 8 2 (0xDB ∷ 0xBA ∷ 0x00 ∷ 0x00 ∷ 0x92 ∷ 0x7C ∷ 0x00 ∷ 0x01 ∷ []) (0 ∷ 0 ∷ [])
    ∷ Made s (bytes "r") 4 1 (0x00 ∷ 0x00 ∷ 0xBA ∷ 0xDB ∷ []) (0 ∷ [])
    ∷ Made s (bytes "ƀ") 4 1 (0 ∷ 0 ∷ 0 ∷ 0 ∷ []) (11 ∷ [])
    ∷ Made s three 20 3 index₃ (0 ∷ 0 ∷ 0 ∷ [])
    ∷ Made s three 19 3 index₃ report₃
    ∷ Unmade [] three 0 0 18
    ∷ Added s (bytes "m") index₃ report₃ 4 1 (index₃ ++ (0x92 ∷ 0x7C ∷ 0x00 ∷ 0x03 ∷ [])) report₄
    ∷ Added s (bytes "r") [] [] 4 1 (0xDB ∷ 0xBA ∷ 0x00 ∷ 0x01 ∷ []) (0 ∷ [])
    ∷ NotAdded s (bytes "ƀ") index₃ 20 (report₃ ++ lend 1) 3 11
    ∷ NotAdded s (bytes "r") (lend 3) 3 (lend 1) 0 10
    ∷ Found s index₃ (bytes "cc") 8 (0 ∷ 1 ∷ 0 ∷ 1 ∷ 0 ∷ 1 ∷ 0 ∷ 1 ∷ [])
    ∷ Found s (0x61 ∷ 0xA8 ∷ 0x00 ∷ 0x05 ∷ 0x7A ∷ 0x12 ∷ 0x00 ∷ 0x01 ∷ []) (bytes "c") 4 (0 ∷ 5 ∷ 0 ∷ 1 ∷ [])
    ∷ Found s index₃ (bytes "r") 1 (0 ∷ [])
    ∷ NotFound s (0xDB ∷ 0xBA ∷ 0x0F ∷ 0xFF ∷ []) (bytes "r") 2 18
    ∷ NotFound s (0 ∷ []) (bytes "ƀ") 0 11
    ∷ []

pub index_cases : T (every holds cases && not (lists.some holds wrong))
unfolding text_from chars_from sound_from white capital even_capital odd_capital lower_of vowel entry quadruplet folding multiline_comment end_of_line ending comment
    blanks until count_of later pair_at line_at part plain escaped part_at letter_at closing items_from split_at bit number_at build_answer verdict ends_with extend met
    step run over fold_by walk joined room list_answer names full_list make_answer add_answer find_answer
index_cases = tt
