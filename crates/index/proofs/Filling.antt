-- Entries put one behind the other to the front of a lent buffer. Assumes nothing.
use Prim.Native.Nat.{ℕ, ◌+◌, ◌*◌, ◌<◌, ◌≤◌}
use mathlib.Core.Path.{◌≡◌, refl, sym, ap, ap₂, ◌∙◌}
use mathlib.Core.List.{List, [], ◌∷◌, ◌++◌, map}
use native.Mathlib.Omega.{arith}
use native.Mathlib.Numerals.{add-one}
use lib.ListN.{length, take, drop, get_or, length-map, take-append-drop, get_or-map}
use lib.Seq.{take-suc, take-suc-set, take_all, drop-drop, length-take-le}
use Rattle.ward.specs.Puts.{Puts}
use Rattle.entries.specs.Entries.{entries, entry_bytes, EntryPut}
use Rattle.laws.proofs.Holds.{each_take}
use Rattle.entries.proofs.Bytes.{Byte, all_bytes, length_entries, entries_take, bytes_entries, length_bytes}
use Rattle.index.specs.Index.{codes_from, code_number, entry_of}
use Rattle.index.proofs.Codes.{codes_count, code_is}

-- the entries of the first codes of a line, for record k
abbrev pub line_entries : List ℕ → ℕ → ℕ → List ℕ
line_entries line count k = map (entry_of k) (map code_number (codes_from count line))

pub line_count : (line : List ℕ) (count k : ℕ) → length (line_entries line count k) ≡ count
line_count line count k = length-map (map code_number (codes_from count line)) (entry_of k) ∙ length-map (codes_from count line) code_number ∙ codes_count count line

pub line_entry : (line : List ℕ) (count k i : ℕ) → i < count → get_or (line_entries line count k) i (entry_of k (code_number [])) ≡ entry_of k (code_number (take 6 (drop (7 * i) line)))
line_entry line count k i h =
    get_or-map (entry_of k) (map code_number (codes_from count line)) i (code_number [])
    ∙ ap (entry_of k) (get_or-map code_number (codes_from count line) i [] ∙ ap code_number (code_is count line i h))

-- The first i stand, nothing behind them is changed, and all are bytes.
pub record Filled (es : List ℕ) (i : ℕ) (lent out : List ℕ) : Type 0 where
  pub within : i ≤ length es
  pub long : length out ≡ length lent
  pub first : take i (entries out) ≡ take i es
  pub behind : drop (4 * i) out ≡ drop (4 * i) lent
  pub bytes : (q : ℕ) → get_or out q 0 < 256

module _ (es lent : List ℕ) where
  pub none_filled : ((q : ℕ) → get_or lent q 0 < 256) → Filled es 0 lent lent
  none_filled b = record { within = omega arith; long = refl; first = refl; behind = refl; bytes = b }

  module _ (i : ℕ) (out : List ℕ) (f : Filled es i lent out) where
    -- One more.
    pub next_filled : i < length es → 4 * length es ≤ length lent → (v d : ℕ) → v ≡ get_or es i d → (out' : List ℕ) → EntryPut i v out out' → length out' ≡ length out
        → ((q : ℕ) → get_or out' q 0 < 256) → Filled es (i + 1) lent out'
    next_filled h room v d e out' put same b =
        let l = f.long in
        let n = length_entries out in
        let inside : i < length (entries out) = omega arith in
        let four : 4 * (i + 1) ≡ 4 * i + 4 = omega arith in
        record {
          within = omega arith;
          long = same ∙ l;
          first =
              ap₂ (λ (m : ℕ) (x : List ℕ). take m x) (add-one i) put.0
              ∙ take-suc-set (entries out) i v inside
              ∙ ap₂ (λ (x : List ℕ) (y : ℕ). x ++ (y ∷ [])) f.first e
              ∙ sym (take-suc es i d h)
              ∙ ap (λ (m : ℕ). take m es) (sym (add-one i));
          behind =
              ap (λ (m : ℕ). drop m out') four ∙ put.1 ∙ sym (drop-drop 4 (4 * i) out) ∙ ap (drop 4) f.behind ∙ drop-drop 4 (4 * i) lent
              ∙ ap (λ (m : ℕ). drop m lent) (sym four);
          bytes = b;
        }

    -- All.
    pub all_filled : i ≡ length es → 4 * length es ≤ length lent → Puts (entry_bytes es) (4 * i) lent out
    all_filled e room =
        let l = f.long in
        let n = length_bytes es in
        let long : length (take (4 * i) out) ≡ 4 * i = length-take-le (4 * i) out (omega arith) in
        let front : take (4 * i) out ≡ entry_bytes es =
        sym (bytes_entries (take (4 * i) out) (each_take Byte (4 * i) out (all_bytes out f.bytes)) (omega arith))
        ∙ ap entry_bytes (entries_take i out ∙ f.first ∙ take_all i es (omega arith)) in
        record {
          count = omega arith;
          is =
              sym (take-append-drop (4 * i) out)
              ∙ ap₂ ◌++◌ front (f.behind ∙ ap (λ (m : ℕ). drop m lent) {x = 4 * i} {y = length (entry_bytes es)} (omega arith));
        }
