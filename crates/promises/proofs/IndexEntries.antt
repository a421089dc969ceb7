-- The entries of names: each is a code of the name that has its number, and each code of a name has its entry. Assumes nothing.
use Prim.Native.Nat.{ℕ, zero, suc, ◌+◌, ◌<◌}
use mathlib.Core.Path.{◌≡◌, sym, ap, subst, ◌∙◌}
use mathlib.Core.Logic.{◌⊎◌, inl, inr}
use mathlib.Core.List.{List, [], ◌∷◌, ◌++◌, append_assoc}
use native.Mathlib.Omega.{arith}
use lib.ListN.{length, get_or}
use Rattle.laws.specs.Lists.{In}
use Rattle.laws.proofs.Members.{in_left, in_right, in_either, in_map, map_in}
use Rattle.index.specs.Index.{codes_in, entry_of, entries_of, entries_from}

module _ (plate : List ℕ) where
  -- a code of a name, under the name's number, where the first has the number k
  pub record EntryFrom (k : ℕ) (ns : List (List ℕ)) (e : ℕ) : Type 0 where
    pub place : ℕ
    pub code : ℕ
    pub below : place < length ns
    pub listed : In code (codes_in plate (get_or ns place []))
    pub is : e ≡ entry_of (k + place) code

  pub entry_from : (k : ℕ) (ns : List (List ℕ)) (e : ℕ) → In e (entries_from plate k ns) → EntryFrom k ns e
  entry_from k [] e h = absurd h
  entry_from k (n ∷ ns) e h = go (in_either e (entries_of plate k n) (entries_from plate (suc k) ns) h) (entry_from (suc k) ns e)
    where
      go : In e (entries_of plate k n) ⊎ In e (entries_from plate (suc k) ns) → (In e (entries_from plate (suc k) ns) → EntryFrom (suc k) ns e) → EntryFrom k (n ∷ ns) e
      go (inl i) below =
          let r = map_in (entry_of k) e (codes_in plate n) i in
          record { place = 0; code = r.0; below = omega arith; listed = r.1; is = r.2 ∙ ap (λ (m : ℕ). entry_of m r.0) {x = k} {y = k + 0} (omega arith) }
      go (inr i) below =
          let w = below i in
          let h = w.below in
          record {
            place = suc w.place;
            code = w.code;
            below = omega arith;
            listed = w.listed;
            is = w.is ∙ ap (λ (m : ℕ). entry_of m w.code) {x = suc k + w.place} {y = k + suc w.place} (omega arith);
          }

  pub from_entry : (k : ℕ) (ns : List (List ℕ)) (place code : ℕ) → place < length ns → In code (codes_in plate (get_or ns place []))
      → In (entry_of (k + place) code) (entries_from plate k ns)
  from_entry k [] place code h i = absurd (omega arith)
  from_entry k (n ∷ ns) zero code h i =
      subst (λ (m : ℕ). In (entry_of m code) (entries_from plate k (n ∷ ns))) {x = k} {y = k + 0} (omega arith)
      (in_left (entry_of k code) (entries_of plate k n) (entries_from plate (suc k) ns) (in_map (entry_of k) code (codes_in plate n) i))
  from_entry k (n ∷ ns) (suc place) code h i =
      subst (λ (m : ℕ). In (entry_of m code) (entries_from plate k (n ∷ ns))) {x = suc k + place} {y = k + suc place} (omega arith)
      (in_right (entry_of (suc k + place) code) (entries_of plate k n) (entries_from plate (suc k) ns) (from_entry (suc k) ns place code (omega arith) i))

  -- The entries of more names stand behind.
  pub entries_behind : (k : ℕ) (ns ms : List (List ℕ)) → entries_from plate k (ns ++ ms) ≡ entries_from plate k ns ++ entries_from plate (k + length ns) ms
  entries_behind k [] ms = ap (λ (m : ℕ). entries_from plate m ms) {x = k} {y = k + 0} (omega arith)
  entries_behind k (n ∷ ns) ms =
      ap (λ (l : List ℕ). entries_of plate k n ++ l)
      (entries_behind (suc k) ns ms ∙ ap (λ (m : ℕ). entries_from plate (suc k) ns ++ entries_from plate m ms) {x = suc k + length ns} {y = k + suc (length ns)} (omega arith))
      ∙ sym (append_assoc (entries_of plate k n) (entries_from plate (suc k) ns) (entries_from plate (k + suc (length ns)) ms))
