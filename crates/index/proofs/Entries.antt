-- The entries of names: how many they are, and that no two are equal, since codes tell a name's entries apart and record numbers those of two names. Assumes nothing.
use Prim.Native.Nat.{ℕ, suc, ◌+◌, ◌*◌, ◌/◌, ◌%◌, ◌<◌, ◌≤◌}
use mathlib.Core.Path.{◌≡◌, refl, sym, ap₂, subst, ◌∙◌}
use mathlib.Core.Logic.{◌⊎◌, inl, inr}
use mathlib.Core.Bool.{true}
use mathlib.Core.List.{List, [], ◌∷◌, ◌++◌, map}
use native.Mathlib.Omega.{arith}
use lib.ListN.{length, length-append, length-map}
use Rattle.laws.specs.Lists.{In}
use Rattle.laws.specs.Arrays.{Each}
use Rattle.laws.proofs.Once.{Distinct}
use Rattle.laws.proofs.Members.{in_either, map_in}
use Rattle.plate.specs.Read.{accepted}
use Rattle.ward.specs.Codes.{SixDigits}
use Rattle.entries.specs.Entries.{entry_bytes, most_records, record_in}
use Rattle.laws.proofs.Holds.{each_append, each_all, each_in}
use Rattle.index.specs.Index.{full_list, codes_from, code_number, codes_in, entry_of, entries_of, entries_from}
use Rattle.index.proofs.Codes.{codes_count, full_few, full_digits, full_apart}
use Rattle.index.proofs.Numbers.{same_code}

-- ---- how many

-- the codes of names
abbrev pub codes_of_all : List ℕ → List (List ℕ) → ℕ
codes_of_all plate [] = 0
codes_of_all plate (n ∷ more) = (full_list plate n).count + codes_of_all plate more

pub name_count : (plate : List ℕ) (k : ℕ) (name : List ℕ) → length (entries_of plate k name) ≡ (full_list plate name).count
name_count plate k name =
    let a = full_list plate name in
    length-map (codes_in plate name) (entry_of k) ∙ length-map (codes_from a.count a.buffer) code_number ∙ codes_count a.count a.buffer

pub all_count : (plate : List ℕ) (k : ℕ) (ns : List (List ℕ)) → length (entries_from plate k ns) ≡ codes_of_all plate ns
all_count plate k [] = refl
all_count plate k (n ∷ more) = length-append (entries_of plate k n) (entries_from plate (suc k) more) ∙ ap₂ ◌+◌ (name_count plate k n) (all_count plate (suc k) more)

pub all_few : (plate : List ℕ) (ns : List (List ℕ)) → codes_of_all plate ns ≤ 64 * length ns
all_few plate [] = omega arith
all_few plate (n ∷ more) = let f = full_few plate n in let b = all_few plate more in omega arith

-- ---- bytes of entries

pub bytes_append : (l m : List ℕ) → entry_bytes (l ++ m) ≡ entry_bytes l ++ entry_bytes m
bytes_append [] m = refl
bytes_append (v ∷ l) m = λ i. (v / 16777216) ∷ (v / 65536 % 256) ∷ (v / 256 % 256) ∷ (v % 256) ∷ bytes_append l m i

-- ---- no two are equal

map_distinct : {A B : Type 0} (P : A → Type 0) (f : A → B) → ((x y : A) → P x → P y → f x ≡ f y → x ≡ y) → (l : List A) → Each P l → Distinct l → Distinct (map f l)
map_distinct P f tells [] e d = tt
map_distinct {A} P f tells (x ∷ l) e d = (
  λ i. let m = map_in f (f x) l i in d.0 (subst (λ (y : A). In y l) (sym (tells x m.0 e.0 (each_in P l m.0 e.1 m.1) m.2)) m.1),
  map_distinct P f tells l e.1 d.1,
)

module _ (plate : List ℕ) (a : accepted plate ≡ true) where
  -- The codes of a name are told apart by their numbers.
  pub codes_distinct : (name : List ℕ) → Distinct (codes_in plate name)
  codes_distinct name =
      map_distinct SixDigits code_number same_code (codes_from (full_list plate name).count (full_list plate name).buffer) (full_digits plate name a) (full_apart plate name)

  every_number : (l : List ℕ) → Each (λ (x : ℕ). 0 ≤ x) l
  every_number [] = tt
  every_number (x ∷ l) = (omega arith, every_number l)

  pub name_distinct : (k : ℕ) (name : List ℕ) → Distinct (entries_of plate k name)
  name_distinct k name =
      map_distinct (λ (x : ℕ). 0 ≤ x) (entry_of k) (λ x y p q e. same k x y e) (codes_in plate name) (every_number (codes_in plate name)) (codes_distinct name)
    where
      same : (k x y : ℕ) → x * 4096 + k ≡ y * 4096 + k → x ≡ y
      same k x y e = omega arith

-- The record number of an entry is that of its name.
pub of_record : (k : ℕ) → k < most_records → (l : List ℕ) → Each (λ (x : ℕ). record_in x ≡ k) (map (entry_of k) l)
of_record k h [] = tt
of_record k h (c ∷ l) = (one k c h, of_record k h l)
  where
    one : (k c : ℕ) → k < 4096 → (c * 4096 + k) % 4096 ≡ k
    one k c h = omega arith

from_record : (plate : List ℕ) (k : ℕ) (ns : List (List ℕ)) → k + length ns ≤ most_records → Each (λ (x : ℕ). k ≤ record_in x) (entries_from plate k ns)
from_record plate k [] h = tt
from_record plate k (n ∷ more) h =
    each_append (λ (x : ℕ). k ≤ record_in x) (entries_of plate k n) (entries_from plate (suc k) more)
    (each_all (λ (x : ℕ). record_in x ≡ k) (λ (x : ℕ). k ≤ record_in x) (entries_of plate k n) (λ x e. omega arith) (of_record k (omega arith) (codes_in plate n)))
    (each_all (λ (x : ℕ). suc k ≤ record_in x) (λ (x : ℕ). k ≤ record_in x) (entries_from plate (suc k) more) (λ x e. omega arith) (from_record plate (suc k) more (omega arith)))

-- Entries of a record, and those of records behind it.
records_distinct : (k : ℕ) (l m : List ℕ) → Each (λ (x : ℕ). record_in x ≡ k) l → Each (λ (x : ℕ). suc k ≤ record_in x) m → Distinct l → Distinct m → Distinct (l ++ m)
records_distinct k [] m e f d g = g
records_distinct k (x ∷ l) m e f d g = ((λ i. two (in_either x l m i)), records_distinct k l m e.1 f d.1 g)
  where
    two : In x l ⊎ In x m → ⊥
    two (inl i) = d.0 i
    two (inr j) = let p = e.0 in let q = each_in (λ (y : ℕ). suc k ≤ record_in y) m x f j in omega arith

pub all_distinct : (plate : List ℕ) → accepted plate ≡ true → (k : ℕ) (ns : List (List ℕ)) → k + length ns ≤ most_records → Distinct (entries_from plate k ns)
all_distinct plate a k [] h = tt
all_distinct plate a k (n ∷ more) h =
    records_distinct k (entries_of plate k n) (entries_from plate (suc k) more) (of_record k (omega arith) (codes_in plate n)) (from_record plate (suc k) more (omega arith))
    (name_distinct plate a k n) (all_distinct plate a (suc k) more (omega arith))
