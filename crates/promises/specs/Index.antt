-- M-108, "A code index beside the ward list": what the calls leave, and what they mean for whoever looks for a folder. `Indexed` is what make and add leave,
-- `Written` what find leaves: the numbers that come back and the lent buffers afterwards. Assumes nothing.
use Rattle.std.specs.Prelude.{ℕ, ◌+◌, ◌*◌, ◌<◌, ◌≡◌, ◌⊎◌, false, List, [], ◌∷◌, ◌++◌, map, length, take, drop, get_or}
use Rattle.laws.specs.Lists.{In, every}
use Rattle.plate.specs.Plate.{Plate}
use Rattle.ward.specs.Ward.{Written, names}
use Rattle.entries.specs.Entries.{entries, is_index, record_below}
use Rattle.laws.specs.Sort.{Sorted}
use Rattle.index.specs.Index.{Indexed, full_list, codes_in, refusal_of, index_of, make_answer}
use Rattle.index.specs.Find.{records_of, find_answer}
use Rattle.promises.specs.Said.{IsPlate}
use Rattle.promises.specs.When.{Check, NotAPlate}
use Rattle.promises.specs.Demands.{Keeps, WiderPlate, code_at}

-- ---- "Refusal 10 first; then 18, nothing written, for a 4,097th name or a buffer too short for all entries or the report."

pub record Lent : Type 0 where
  pub index : List ℕ
  pub report : List ℕ

-- so many names, and entries, do not fit
abbrev pub TooMuch : ℕ → ℕ → Lent → Type 0
TooMuch ns es lent = (4096 < ns) ⊎ ((length lent.index < 4 * es) ⊎ (length lent.report < ns))

-- where the number is not 0 no byte of either buffer is changed
abbrev pub KeepsBoth : Lent → Indexed → Type 0
KeepsBoth lent a = (a.number ≡ 0 → ⊥) → (a.index_length ≡ 0) × (a.report_length ≡ 0) × (a.index ≡ lent.index) × (a.report ≡ lent.report)

abbrev pub MakeNumber : List ℕ → List ℕ → Lent → ℕ → Type 0
MakeNumber plate buffer lent n =
    Check n 10 (NotAPlate plate) (Check n 18 (TooMuch (length (names buffer)) (length (index_of plate (names buffer))) lent) (n ≡ 0))

abbrev pub MakeRefuses : List ℕ → List ℕ → Lent → Indexed → Type 0
MakeRefuses plate buffer lent a = MakeNumber plate buffer lent a.number × KeepsBoth lent a

-- "Adding and lookup also give 18 for index bytes that are no whole entries, break the order or hold a code above 999,999, adding also for a record number not
-- below the report's length." What is used is no more than was lent.
abbrev pub Unsound : Lent → ℕ → ℕ → Type 0
Unsound lent used noted =
    (length lent.index < used) ⊎ ((length lent.report < noted) ⊎ ((is_index (take used lent.index) ≡ false)
    ⊎ (every (record_below noted) (entries (take used lent.index)) ≡ false)))

-- the entries that stand already, and one for each code of the name
abbrev pub AddNumber : List ℕ → List ℕ → Lent → ℕ → ℕ → ℕ → Type 0
AddNumber plate name lent used noted n =
    Check n 10 (NotAPlate plate)
    (Check n 18 (Unsound lent used noted ⊎ TooMuch (noted + 1) (length (entries (take used lent.index)) + length (codes_in plate name)) lent) (n ≡ 0))

abbrev pub AddRefuses : List ℕ → List ℕ → Lent → ℕ → ℕ → Indexed → Type 0
AddRefuses plate name lent used noted a = AddNumber plate name lent used noted a.number × KeepsBoth lent a

-- "Lookup then gives list's refusals at 447 bytes, last 9 if the records do not fit."
abbrev pub FindNumber : List ℕ → List ℕ → List ℕ → List ℕ → ℕ → Type 0
FindNumber plate index name lent n =
    Check n 10 (NotAPlate plate)
    (Check n 18 (is_index index ≡ false)
    (Check n (refusal_of plate name) (refusal_of plate name ≡ 0 → ⊥)
    (Check n 9 (length lent < 2 * length (records_of (codes_in plate name) (entries index))) (n ≡ 0))))

abbrev pub FindRefuses : List ℕ → List ℕ → List ℕ → List ℕ → Written → Type 0
FindRefuses plate index name lent a = FindNumber plate index name lent a.number × Keeps a.number a.length lent a.buffer

-- No two numbers meet the conditions of one call.
pub record IndexExclusive : Type 0 where
  pub make : (plate buffer : List ℕ) (lent : Lent) (n n' : ℕ) → MakeNumber plate buffer lent n → MakeNumber plate buffer lent n' → n ≡ n'
  pub add : (plate name : List ℕ) (lent : Lent) (used noted n n' : ℕ) → AddNumber plate name lent used noted n → AddNumber plate name lent used noted n' → n ≡ n'
  pub find : (plate index name lent : List ℕ) (n n' : ℕ) → FindNumber plate index name lent n → FindNumber plate index name lent n' → n ≡ n'

-- ---- "make entries of 32 bits: 20 bits code, 12 bits record number [..]. Entries rise strictly."

abbrev pub entries_in : Indexed → List ℕ
entries_in a = entries (take a.index_length a.index)

-- a code of the name that has a record's number
pub record EntryOf (plate : List ℕ) (ns : List (List ℕ)) (e : ℕ) : Type 0 where
  pub number : ℕ
  pub code : ℕ
  pub below : number < length ns
  pub listed : In code (codes_in plate (get_or ns number []))
  pub is : e ≡ code * 4096 + number

pub record MakesIndex (plate buffer : List ℕ) (lent : Lent) (a : Indexed) : Type 0 where
  pub whole : a.index_length ≡ 4 * length (entries_in a)
  pub rises : Sorted ◌<◌ (entries_in a)
  pub only : (e : ℕ) → In e (entries_in a) → EntryOf plate (names buffer) e
  pub each : (e : ℕ) → EntryOf plate (names buffer) e → In e (entries_in a)
  pub reported : take a.report_length a.report ≡ map (refusal_of plate) (names buffer)
  pub behind : drop a.index_length a.index ≡ drop a.index_length lent.index
  pub behind_report : drop a.report_length a.report ≡ drop a.report_length lent.report

abbrev pub MakeGives : List ℕ → List ℕ → Lent → Indexed → Type 0
MakeGives plate buffer lent a = a.number ≡ 0 → MakesIndex plate buffer lent a

-- ---- a folder is found under a name exactly if the two names share a code

-- A code that list gives for both, at 447 bytes each.
pub record Share (plate name other : List ℕ) : Type 0 where
  pub first : ℕ
  pub second : ℕ
  pub within : first < (full_list plate name).count
  pub within' : second < (full_list plate other).count
  pub same : code_at (full_list plate name) first ≡ code_at (full_list plate other) second

-- "two bytes each, most significant first"
abbrev pub record_at : Written → ℕ → ℕ
record_at a r = get_or a.buffer (2 * r) 0 * 256 + get_or a.buffer (2 * r + 1) 0

abbrev pub Finds : Written → ℕ → Type 0
Finds a k = (r : ℕ) × (2 * r + 1 < a.length) × (record_at a r ≡ k)

-- What was called: a make, and a lookup by that plate in what was made.
pub record Looks (plate buffer : List ℕ) (lent : Lent) (name out : List ℕ) (a : Indexed) (b : Written) : Type 0 where
  pub makes : a ≡ make_answer plate buffer lent.index lent.report
  pub looks : b ≡ find_answer plate (take a.index_length a.index) name out

-- Of such calls.
pub record FindsSharers (plate : List ℕ) (ns : List (List ℕ)) (name : List ℕ) (b : Written) : Type 0 where
  pub only : (k : ℕ) → Finds b k → (k < length ns) × Share plate (get_or ns k []) name
  pub every : (k : ℕ) → k < length ns → Share plate (get_or ns k []) name → Finds b k
  pub rising : (r s : ℕ) → r < s → 2 * s + 1 < b.length → record_at b r < record_at b s

abbrev pub FolderFound : List ℕ → List ℕ → ℕ → List ℕ → Written → Type 0
FolderFound plate buffer number name b = number ≡ 0 → b.number ≡ 0 → FindsSharers plate (names buffer) name b

-- ---- "Adding [..] gives the same index and report as making them afresh."

pub record Afresh (b c : Indexed) : Type 0 where
  pub number : b.number ≡ c.number
  pub index_length : b.index_length ≡ c.index_length
  pub report_length : b.report_length ≡ c.report_length
  pub index : take b.index_length b.index ≡ take c.index_length c.index
  pub report : take b.report_length b.report ≡ take c.report_length c.report

-- Of a make's number, a name added to what it made, and a make of all the names into buffers as long.
abbrev pub AddsAfresh : List ℕ → Lent → ℕ → List ℕ → Indexed → List ℕ → Lent → Indexed → Type 0
AddsAfresh buffer lent number name b wider lent' c =
    number ≡ 0 → names wider ≡ names buffer ++ (name ∷ []) → length lent'.index ≡ length lent.index → length lent'.report ≡ length lent.report
    → Afresh b c

-- ---- more alternatives lose no folder: demand 3c through make and find, both with the wider plate

-- A folder that the wider plate does not refuse for want of room (its report says so) is found again.
abbrev pub FoldersKept : List ℕ → List ℕ → ℕ → Written → Indexed → Written → Type 0
FoldersKept plate wide number b a' b' =
    (p q : Plate) → IsPlate p plate → IsPlate q wide → WiderPlate p q → number ≡ 0 → b.number ≡ 0 → a'.number ≡ 0 → b'.number ≡ 0
    → (k : ℕ) → Finds b k → get_or a'.report k 0 ≡ 0 → Finds b' k
