-- A code index beside the ward list. 02, M-108: "From up to 4,096 names, held as in M-103 and numbered from 0, make entries of 32 bits: 20 bits code, 12 bits
-- record number, most significant first. Entries rise strictly." Assumes nothing.
use Rattle.std.specs.Prelude.{ℕ, zero, suc, ◌+◌, ◌-◌, ◌*◌, Bool, cond, ◌&&◌, List, [], ◌∷◌, ◌++◌, map, leb, length, take, drop, replicate}
use Rattle.laws.specs.Lists.{every}
use Rattle.plate.specs.Read.{accepted}
use Rattle.coder.specs.Answer.{Coded, list_answer}
use Rattle.ward.specs.Ward.{names, list_bytes}
use Rattle.laws.specs.Sort.{rising}
use Rattle.entries.specs.Entries.{entries, entry_bytes, most_records, is_index, record_below}

-- ---- the codes of a name

-- what list at 447 bytes answers; which bytes are lent does not matter (proofs/Codes.antt)
unfoldable pub full_list : List ℕ → List ℕ → Coded
full_list plate name = list_answer plate name (replicate list_bytes 0)

-- 01: "code number k, from 0, is lent the buffer from byte 7k on", six bytes each
abbrev pub codes_from : ℕ → List ℕ → List (List ℕ)
codes_from zero buffer = []
codes_from (suc n) buffer = take 6 buffer ∷ codes_from n (drop 7 buffer)

-- the number that ASCII digits write, behind n
abbrev pub number_from : ℕ → List ℕ → ℕ
number_from n [] = n
number_from n (d ∷ more) = number_from (n * 10 + (d - 48)) more

abbrev pub code_number : List ℕ → ℕ
code_number digits = number_from 0 digits

-- the codes that an answer gives, none where it refuses
abbrev pub codes_of : Coded → List ℕ
codes_of a = map code_number (codes_from a.count a.buffer)

abbrev pub codes_in : List ℕ → List ℕ → List ℕ
codes_in plate name = codes_of (full_list plate name)

-- ---- index and report of names

-- "20 bits code, 12 bits record number"
abbrev pub entry_of : ℕ → ℕ → ℕ
entry_of k code = code * most_records + k

abbrev pub entries_of : List ℕ → ℕ → List ℕ → List ℕ
entries_of plate k name = map (entry_of k) (codes_in plate name)

-- of names that are numbered from k on
abbrev pub entries_from : List ℕ → ℕ → List (List ℕ) → List ℕ
entries_from plate k [] = []
entries_from plate k (n ∷ more) = entries_of plate k n ++ entries_from plate (suc k) more

-- "numbered from 0 [..]. Entries rise strictly."
abbrev pub index_of : List ℕ → List (List ℕ) → List ℕ
index_of plate ns = rising (entries_from plate 0 ns)

-- "The report has a byte a name: 0, or the number with which list at 447 bytes refuses it"
abbrev pub refusal_of : List ℕ → List ℕ → ℕ
refusal_of plate name = (full_list plate name).number

abbrev pub report_of : List ℕ → List (List ℕ) → List ℕ
report_of plate ns = map (refusal_of plate) ns

-- ---- making and adding: the numbers that come back, and both buffers afterwards

pub record Indexed : Type 0 where
  pub number : ℕ
  pub index_length : ℕ
  pub report_length : ℕ
  pub index : List ℕ
  pub report : List ℕ

abbrev pub unmade : ℕ → List ℕ → List ℕ → Indexed
unmade number index report = record { number = number; index_length = 0; report_length = 0; index = index; report = report }

-- entries and report in front, behind them what was lent
abbrev pub made : List ℕ → List ℕ → List ℕ → List ℕ → Indexed
made es notes index report = record {
  number = 0;
  index_length = 4 * length es;
  report_length = length notes;
  index = entry_bytes es ++ drop (4 * length es) index;
  report = notes ++ drop (length notes) report;
}

-- "18, nothing written, for a 4,097th name or a buffer too short for all entries or the report"
abbrev pub fits : List ℕ → List ℕ → List ℕ → List ℕ → Bool
fits es notes index report = leb (length notes) most_records && (leb (4 * length es) (length index) && leb (length notes) (length report))

abbrev pub indexed : List ℕ → List ℕ → List ℕ → List ℕ → Indexed
indexed es notes index report = cond (fits es notes index report) (made es notes index report) (unmade 18 index report)

-- "Refusal 10 first"
unfoldable pub make_answer : List ℕ → List ℕ → List ℕ → List ℕ → Indexed
make_answer plate bytes index report =
    cond (accepted plate) (indexed (index_of plate (names bytes)) (report_of plate (names bytes)) index report) (unmade 10 index report)

-- "Adding [..] also give[s] 18 for index bytes that are no whole entries, break the order or hold a code above 999,999, [..] also for a record number not below
-- the report's length." What is used of a buffer is no more than it has.
abbrev pub good_index : List ℕ → ℕ → List ℕ → ℕ → Bool
good_index index used report noted =
    leb used (length index) && (leb noted (length report) && (is_index (take used index) && every (record_below noted) (entries (take used index))))

-- "Adding, by that plate, a name without newline under the next number, the report's length"
abbrev pub with_name : List ℕ → List ℕ → List ℕ → ℕ → List ℕ → ℕ → Indexed
with_name plate name index used report noted =
    indexed (rising (entries (take used index) ++ entries_of plate noted name)) (take noted report ++ (refusal_of plate name ∷ [])) index report

unfoldable pub add_answer : List ℕ → List ℕ → List ℕ → ℕ → List ℕ → ℕ → Indexed
add_answer plate name index used report noted =
    cond (accepted plate) (cond (good_index index used report noted) (with_name plate name index used report noted) (unmade 18 index report)) (unmade 10 index report)
