-- Two names share a code, at places of what list leaves for each, exactly if they share its number. Assumes nothing.
use Prim.Native.Nat.{ℕ, ◌*◌, ◌<◌}
use mathlib.Core.Path.{◌≡◌, sym, subst, ◌∙◌}
use mathlib.Core.Bool.{true}
use mathlib.Core.List.{List, []}
use native.Mathlib.Omega.{arith}
use lib.ListN.{take, drop}
use Rattle.laws.specs.Lists.{In}
use Rattle.laws.proofs.Members.{in_map, map_in}
use Rattle.plate.specs.Read.{accepted}
use Rattle.ward.specs.Codes.{SixDigits}
use Rattle.laws.proofs.Holds.{each_in}
use Rattle.index.specs.Index.{full_list, codes_from, code_number, codes_in}
use Rattle.index.proofs.Codes.{codes_count, code_is, full_digits}
use Rattle.index.proofs.Numbers.{same_code}
use Rattle.promises.specs.Demands.{code_at}
use Rattle.promises.specs.Index.{Share}
use Rattle.promises.proofs.Places.{in_place, place_in}

codes_place : (n : ℕ) (buffer c : List ℕ) → In c (codes_from n buffer) → (i : ℕ) × (i < n) × (take 6 (drop (7 * i) buffer) ≡ c)
codes_place n buffer c h =
    let r = in_place c [] (codes_from n buffer) h in
    let b = r.1 in
    let m = codes_count n buffer in
    let i : r.0 < n = omega arith in
    (r.0, i, sym (code_is n buffer r.0 i) ∙ r.2)

place_codes : (n : ℕ) (buffer : List ℕ) (i : ℕ) → i < n → In (take 6 (drop (7 * i) buffer)) (codes_from n buffer)
place_codes n buffer i h =
    subst (λ (c : List ℕ). In c (codes_from n buffer)) (code_is n buffer i h) (place_in [] (codes_from n buffer) i (omega (arith, codes_count n buffer)))

pub share_number : (plate name other : List ℕ) → Share plate name other → (c : ℕ) × In c (codes_in plate name) × In c (codes_in plate other)
share_number plate name other s =
    let a = full_list plate name in
    let b = full_list plate other in
    let i = place_codes a.count a.buffer s.first s.within in
    let j = place_codes b.count b.buffer s.second s.within' in (
      code_number (code_at a s.first),
      in_map code_number (code_at a s.first) (codes_from a.count a.buffer) i,
      subst (λ (c : List ℕ). In (code_number c) (codes_in plate other)) (sym s.same) (in_map code_number (code_at b s.second) (codes_from b.count b.buffer) j),
    )

pub number_share : (plate name other : List ℕ) → accepted plate ≡ true → (c : ℕ) → In c (codes_in plate name) → In c (codes_in plate other) → Share plate name other
number_share plate name other plated c i j =
    let a = full_list plate name in
    let b = full_list plate other in
    let cs = codes_from a.count a.buffer in
    let ds = codes_from b.count b.buffer in
    let f = map_in code_number c cs i in
    let g = map_in code_number c ds j in
    let one =
    same_code f.0 g.0 (each_in SixDigits cs f.0 (full_digits plate name plated) f.1) (each_in SixDigits ds g.0 (full_digits plate other plated) g.1)
    (sym f.2 ∙ g.2) in
    let p = codes_place a.count a.buffer f.0 f.1 in
    let q = codes_place b.count b.buffer g.0 g.1 in
    record { first = p.0; second = q.0; within = p.1; within' = q.1; same = p.2 ∙ one ∙ sym q.2 }
