-- Only one answer, and one buffer, satisfies each promise of this crate. An entry that is put tells every byte, since a buffer holds bytes. Assumes nothing.
use Prim.Native.Nat.{ℕ, suc, ◌+◌, ◌*◌, ◌≤◌}
use mathlib.Core.Path.{◌≡◌, sym, ap, ◌∙◌}
use mathlib.Core.Bool.{Bool}
use mathlib.Core.List.{List, ◌++◌}
use native.Mathlib.Omega.{arith}
use lib.ListN.{length, take, get_or}
use lib.Seq.{length-take-le}
use Rattle.laws.specs.Lists.{every}
use Rattle.laws.proofs.Arrays.{by_halves}
use Rattle.laws.proofs.Only.{only}
use Rattle.entries.specs.Entries.{entries, entry_bytes, EntryPut, old_entries, is_index, record_below}
use Rattle.laws.specs.Sort.{sorted, position}
use Rattle.entries.proofs.Bytes.{Byte, AllBytes, entries_take, bytes_entries}
use Rattle.laws.proofs.Holds.{each_take}

pub entry_at : (b : List ℕ) (i r r' : ℕ) → r ≡ get_or (entries b) i 0 → r' ≡ get_or (entries b) i 0 → r ≡ r'
entry_at b i r r' e f = only e f

-- The bytes of the first entries are told by these.
front_told : (k : ℕ) (b : List ℕ) → AllBytes b → 4 * k ≤ length b → take (4 * k) b ≡ entry_bytes (take k (entries b))
front_told k b e h =
    let n = length-take-le (4 * k) b h in
    sym (bytes_entries (take (4 * k) b) (each_take Byte (4 * k) b e) (omega arith)) ∙ ap entry_bytes (entries_take k b)

module _ (i v : ℕ) (b m m' : List ℕ) (h : 4 * i + 4 ≤ length b) where
  pub put_entry : length m ≡ length b → length m' ≡ length b → AllBytes m → AllBytes m' → EntryPut i v b m → EntryPut i v b m' → m ≡ m'
  put_entry n n' e e' s s' =
      let at : 4 * i + 4 ≡ 4 * suc i = omega arith in
      let front : take (4 * suc i) m ≡ take (4 * suc i) m' =
      front_told (suc i) m e (omega arith) ∙ ap (λ (l : List ℕ). entry_bytes (take (suc i) l)) (only s.0 s'.0) ∙ sym (front_told (suc i) m' e' (omega arith)) in
      by_halves (4 * i + 4) m m' (ap (λ (k : ℕ). take k m) at ∙ front ∙ ap (λ (k : ℕ). take k m') (sym at)) (only s.1 s'.1)

pub sort : (b m m' : List ℕ) → m ≡ entry_bytes (sorted (entries b)) → m' ≡ entry_bytes (sorted (entries b)) → m ≡ m'
sort b m m' e f = only e f

pub is_index_lem : (b : List ℕ) (r r' : Bool) → r ≡ is_index b → r' ≡ is_index b → r ≡ r'
is_index_lem b r r' e f = only e f

pub records_below : (b : List ℕ) (limit : ℕ) (r r' : Bool) → r ≡ every (record_below limit) (entries b) → r' ≡ every (record_below limit) (entries b) → r ≡ r'
records_below b limit r r' e f = only e f

pub first_not_below : (b : List ℕ) (v r r' : ℕ) → (r ≡ position v (entries b)) × (4 * r ≤ length b) → (r' ≡ position v (entries b)) × (4 * r' ≤ length b) → r ≡ r'
first_not_below b v r r' e f = only e.0 f.0

pub add : (b new m m' : List ℕ) → m ≡ entry_bytes (sorted (old_entries b (entries new) ++ entries new)) → m' ≡ entry_bytes (sorted (old_entries b (entries new) ++ entries new))
    → m ≡ m'
add b new m m' e f = only e f
