-- M-103, proved of the definitions: when each number comes back, what the lines are, and that each is list's. Assumes nothing.
use Prim.Native.Nat.{ℕ, zero, suc, ◌+◌, ◌-◌, ◌*◌, ◌<◌, ◌≤◌}
use mathlib.Core.Path.{◌≡◌, refl, sym, ap, ap₂, subst, ◌∙◌}
use mathlib.Core.Logic.{◌⊎◌, inl, inr}
use mathlib.Core.Bool.{Bool, true, false, cond, false≢true}
use mathlib.Core.List.{List, [], ◌∷◌, ◌++◌, map, append_assoc, append-nil}
use native.Mathlib.Omega.{arith}
use borrow.Author.Tests.{ltb-true, ltb-false, eqb-true, eqb-false, ne_eqb}
use lib.Dec.{ltb, eqb}
use lib.ListN.{length, take, drop, get_or, replicate, length-append, length-drop, length-replicate}
use lib.Seq.{take_at, drop_at}
use Rattle.laws.specs.Lists.{In, cat}
use Rattle.laws.specs.Arrays.{Each}
use Rattle.laws.proofs.Members.{in_either, in_every}
use Rattle.chars.specs.Digits.{digit}
use Rattle.plate.specs.Read.{accepted}
use Rattle.plate.proofs.Packed.{Bytes}
use Rattle.plate.proofs.Round.{good_is}
use Rattle.coder.specs.Name.{prepared}
use Rattle.coder.specs.Answer.{Coded, joined, list_answer}
use Rattle.coder.proofs.Demands.{gives}
use Rattle.ward.specs.Ward.{Written, unwritten, written, newline, names, list_bytes, line_bytes, most_names, refused_line, line_of, given, line, ward_answer}
use Rattle.ward.specs.Codes.{SixDigits}
use Rattle.ward.proofs.Digits.{codes_six}
use Rattle.ward.proofs.Names.{names_closed, names_last, no_names}
use Rattle.ward.proofs.Lines.{any_buffer, given_fits}
use Rattle.zengilvar.specs.Numbers.{coded}
use Rattle.zengilvar.specs.Ward.{wrote}
use Rattle.zengilvar.specs.declared.DmCoded.{DmCoded}
use Rattle.zengilvar.specs.declared.DmWritten.{DmWritten}
use Rattle.promises.specs.Ward.{Unbroken, closed, NamesAre, WardRefuses, WardExclusive, lines_of, WardWrites, WardGives, WardLists, WardAlike}
use Rattle.promises.proofs.CodedWhen.{read_plate_lem, is_plate, no_plate}
use Rattle.promises.proofs.OnlyWhen.{check_only}
use Rattle.coder.proofs.Joined.{length_joined}
use Rattle.promises.proofs.Gives.{six}

-- ---- when each number comes back

module _ (plate buffer lent : List ℕ) where
  abbrev ns : List (List ℕ)
  ns = names buffer

  abbrev all : List ℕ
  all = cat (line plate) ns

  -- `wardAnswer`, by the outcomes of its tests
  abbrev judged : Bool → Bool → Bool → Written
  judged plated long tight = cond plated (cond long (unwritten 1 lent) (cond tight (unwritten 12 lent) (written all lent))) (unwritten 10 lent)

  -- What holds of each outcome holds of the answer.
  by_tests : (P : Written → Type 0) → ((t u v : Bool) → accepted plate ≡ t → ltb most_names (length ns) ≡ u → ltb (length lent) (line_bytes * length ns) ≡ v → P (judged t u v))
      → P (ward_answer plate buffer lent)
  unfolding ward_answer
  by_tests P f = f (accepted plate) (ltb most_names (length ns)) (ltb (length lent) (line_bytes * length ns)) refl refl refl

  pub refuses : Bytes plate → WardRefuses plate buffer lent (ward_answer plate buffer lent)
  refuses bytes = by_tests (WardRefuses plate buffer lent) go
    where
      go : (t u v : Bool) → accepted plate ≡ t → ltb most_names (length ns) ≡ u → ltb (length lent) (line_bytes * length ns) ≡ v → WardRefuses plate buffer lent (judged t u v)
      go false u v a b c = (inl (no_plate plate a, refl), inr (inr (inl refl)), λ h. (refl, refl))
      go true true v a b c = (inr (is_plate plate bytes a, inl (ltb-true most_names (length ns) b, refl)), inr (inl refl), λ h. (refl, refl))
      go true false true a b c =
          let few = ltb-false most_names (length ns) b in
          (inr (is_plate plate bytes a, inr (λ h. omega arith, inl (ltb-true (length lent) (line_bytes * length ns) c, refl))), inr (inr (inr (inl refl))), λ h. (refl, refl))
      go true false false a b c =
          let few = ltb-false most_names (length ns) b in
          let room = ltb-false (length lent) (line_bytes * length ns) c in
          (inr (is_plate plate bytes a, inr (λ h. omega arith, inr (λ h. omega arith, refl))), inl refl, λ h. absurd (h refl))

  -- An answer of 0: all lines are written, and there is room for them.
  answered : (ward_answer plate buffer lent).number ≡ 0 → (ward_answer plate buffer lent ≡ written all lent) × (line_bytes * length ns ≤ length lent)
  answered = by_tests (λ (a : Written). a.number ≡ 0 → (a ≡ written all lent) × (line_bytes * length ns ≤ length lent)) go
    where
      go : (t u v : Bool) → accepted plate ≡ t → ltb most_names (length ns) ≡ u → ltb (length lent) (line_bytes * length ns) ≡ v
          → (judged t u v).number ≡ 0 → (judged t u v ≡ written all lent) × (line_bytes * length ns ≤ length lent)
      go false u v a b c e = absurd (omega arith)
      go true true v a b c e = absurd (omega arith)
      go true false true a b c e = absurd (omega arith)
      go true false false a b c e = (refl, ltb-false (length lent) (line_bytes * length ns) c)

pub exclusive : WardExclusive
exclusive plate buffer lent n n' = check_only 10 (check_only 1 (check_only 12 (λ a b. a ∙ sym b)))

-- ---- no line holds a newline

code_unbroken : (c : List ℕ) → SixDigits c → Unbroken c
code_unbroken c e h = false≢true (in_every digit c newline e.1 h)

barred_unbroken : (c l : List ℕ) → Unbroken c → Unbroken l → Unbroken (c ++ (124 ∷ l))
barred_unbroken c l f g h = go (in_either newline c (124 ∷ l) h)
  where
    go : In newline c ⊎ In newline (124 ∷ l) → ⊥
    go (inl i) = f i
    go (inr (inl e)) = absurd (omega arith)
    go (inr (inr i)) = g i

joined_unbroken : (cs : List (List ℕ)) → Each SixDigits cs → Unbroken (joined cs)
unfolding joined
joined_unbroken [] e h = h
joined_unbroken (c ∷ []) e h = code_unbroken c e.0 h
joined_unbroken (c ∷ d ∷ cs) e h = barred_unbroken c (joined (d ∷ cs)) (code_unbroken c e.0) (joined_unbroken (d ∷ cs) e.1) h

refusal_unbroken : (n : ℕ) → Unbroken (refused_line n)
refusal_unbroken n (inl e) = absurd (omega arith)
refusal_unbroken n (inr (inl e)) = absurd (omega arith)
refusal_unbroken n (inr (inr (inl e))) = absurd (omega arith)
refusal_unbroken n (inr (inr (inr h))) = h

line_unbroken : (plate name lent : List ℕ) → Bytes plate → Unbroken (line_of (list_answer plate name lent))
line_unbroken plate name lent bytes = go (list_answer plate name lent).number refl
  where
    refused : (a : Coded) (n : ℕ) → a.number ≡ suc n → refused_line a.number ≡ line_of a
    refused a n e = sym (ap (λ (t : Bool). cond t (take (7 * a.count - 1) a.buffer) (refused_line a.number)) (ne_eqb a.number 0 (λ z. omega arith)))

    go : (n : ℕ) → (list_answer plate name lent).number ≡ n → Unbroken (line_of (list_answer plate name lent))
    go zero e =
        let g = gives plate name lent e in
        let good = (read_plate_lem plate g.0 bytes g.2.read).0 in
        let digits = subst (Each SixDigits) (sym g.2.all) (codes_six g.0.rules (good_is g.0 good).rules (prepared g.0 name)) in
        let cs = g.1 in
        subst Unbroken (sym (ap line_of g.2.written ∙ take_at (joined cs) (drop (length (joined cs)) lent) (7 * length cs - 1) (length_joined cs (six cs digits)))) (joined_unbroken cs digits)
    go (suc n) e = subst Unbroken (refused (list_answer plate name lent) n e) (refusal_unbroken (list_answer plate name lent).number)

given_unbroken : (plate name : List ℕ) → Bytes plate → Unbroken (given plate name)
unfolding given
given_unbroken plate name bytes = line_unbroken plate name (replicate list_bytes 0) bytes

-- ---- names

closed_names : (ns : List (List ℕ)) → Each Unbroken ns → (last : List ℕ) → names (cat closed ns ++ last) ≡ ns ++ names last
closed_names [] e last = refl
closed_names (n ∷ ns) e last =
    ap names (append_assoc (closed n) (cat closed ns) last ∙ append_assoc n (newline ∷ []) (cat closed ns ++ last))
    ∙ names_closed n (cat closed ns ++ last) e.0
    ∙ ap (λ (l : List (List ℕ)). n ∷ l) (closed_names ns e.1 last)

-- A buffer is closed names and what stands behind the last newline.
abbrev Made : List ℕ → Type 0
Made buffer = (ns : List (List ℕ)) × (last : List ℕ) × Each Unbroken ns × Unbroken last × (buffer ≡ cat closed ns ++ last)

made : (buffer : List ℕ) → Made buffer
made [] = ([], [], tt, (λ h. h), refl)
made (x ∷ buffer) = let m = made buffer in go (eqb x newline) refl m.0 m.1 m.2 m.3 m.4
  where
    front : (x ≡ newline → ⊥) → (n : List ℕ) → Unbroken n → Unbroken (x ∷ n)
    front f n h (inl e) = f (sym e)
    front f n h (inr i) = h i

    go : (t : Bool) → eqb x newline ≡ t → (ns : List (List ℕ)) (last : List ℕ) → Each Unbroken ns → Unbroken last → buffer ≡ cat closed ns ++ last → Made (x ∷ buffer)
    go true t ns last e h f = ([] ∷ ns, last, ((λ i. i), e), h, ap₂ (λ (b : ℕ) (l : List ℕ). b ∷ l) (eqb-true x newline t) f)
    go false t [] last e h f = ([], x ∷ last, tt, front (eqb-false x newline t) last h, ap (λ (l : List ℕ). x ∷ l) f)
    go false t (n ∷ ns) last e h f = ((x ∷ n) ∷ ns, last, (front (eqb-false x newline t) n e.0, e.1), h, ap (λ (l : List ℕ). x ∷ l) f)

pub names_are : NamesAre
names_are = (
  λ ns e. (
    sym (ap names (append-nil (cat closed ns))) ∙ closed_names ns e [] ∙ ap (λ (l : List (List ℕ)). ns ++ l) no_names ∙ append-nil ns,
    λ last h some. closed_names ns e last ∙ ap (λ (l : List (List ℕ)). ns ++ l) (names_last last h some),
  ),
  made,
)

-- ---- what is written

all_closed : (plate : List ℕ) (ns : List (List ℕ)) → cat (line plate) ns ≡ cat closed (map (given plate) ns)
all_closed plate [] = refl
all_closed plate (n ∷ ns) = ap (λ (l : List ℕ). line plate n ++ l) (all_closed plate ns)

each_given : (plate : List ℕ) → Bytes plate → (ns : List (List ℕ)) → Each Unbroken (map (given plate) ns)
each_given plate bytes [] = tt
each_given plate bytes (n ∷ ns) = (given_unbroken plate n bytes, each_given plate bytes ns)

given_long : (plate name : List ℕ) → length (line plate name) ≤ line_bytes
unfolding given
given_long plate name =
    let n = given_fits plate name (replicate list_bytes 0) (length-replicate {A = ℕ} list_bytes 0) in
    let m = length-append (given plate name) (newline ∷ []) in
    omega arith

all_long : (plate : List ℕ) (ns : List (List ℕ)) → length (cat (line plate) ns) ≤ line_bytes * length ns
all_long plate [] = omega arith
all_long plate (n ∷ ns) =
    let a = given_long plate n in
    let b = all_long plate ns in
    let c = length-append (line plate n) (cat (line plate) ns) in
    omega arith

-- Bytes in front of a buffer that has room for them.
writes : (plate : List ℕ) → Bytes plate → (buffer lent : List ℕ) → line_bytes * length (names buffer) ≤ length lent
    → WardWrites plate buffer lent (written (cat (line plate) (names buffer)) lent)
writes plate bytes buffer lent room =
    let l = cat (line plate) (names buffer) in
    let short = all_long plate (names buffer) in
    let front : take (length l) (l ++ drop (length l) lent) ≡ l = take_at l (drop (length l) lent) (length l) refl in
    let told : names l ≡ map (given plate) (names buffer) =
    ap names (all_closed plate (names buffer)) ∙ (names_are.0 (map (given plate) (names buffer)) (each_given plate bytes (names buffer))).0 in
    let lines : names (take (length l) (l ++ drop (length l) lent)) ≡ map (given plate) (names buffer) = ap names front ∙ told in
    record {
      lines = lines;
      whole = front ∙ all_closed plate (names buffer) ∙ ap (cat closed) (sym lines);
      within = omega arith;
      long = length-append l (drop (length l) lent) ∙ ap (λ (m : ℕ). length l + m) (length-drop (length l) lent) ∙ omega arith;
      behind = drop_at l (drop (length l) lent) (length l) refl;
    }

pub ward_gives : (plate buffer lent : List ℕ) → Bytes plate → WardGives plate buffer lent (ward_answer plate buffer lent)
ward_gives plate buffer lent bytes e =
    let a = answered plate buffer lent e in subst (WardWrites plate buffer lent) (sym a.0) (writes plate bytes buffer lent a.1)

-- Line k is what list gives for name k.
line_at_lem : (plate buffer lent : List ℕ) → Bytes plate → (ward_answer plate buffer lent).number ≡ 0 → (k : ℕ) → k < length (names buffer)
    → get_or (lines_of (ward_answer plate buffer lent)) k [] ≡ given plate (get_or (names buffer) k [])
line_at_lem plate buffer lent bytes e k h =
    ap (λ (l : List (List ℕ)). get_or l k []) (ward_gives plate buffer lent bytes e).lines ∙ at (names buffer) k h
  where
    at : (l : List (List ℕ)) (j : ℕ) → j < length l → get_or (map (given plate) l) j [] ≡ given plate (get_or l j [])
    at [] j h = absurd (omega arith)
    at (n ∷ l) zero h = refl
    at (n ∷ l) (suc j) h = at l j (omega arith)

-- What list gives, whatever 447 bytes it is lent.
given_is : (plate name other : List ℕ) → length other ≡ 447 → given plate name ≡ line_of (list_answer plate name other)
unfolding given
given_is plate name other e = any_buffer plate name (replicate list_bytes 0) other (length-replicate {A = ℕ} list_bytes 0 ∙ sym e)

-- ---- the same of the calls

module _ (plate buffer lent : List ℕ) (bytes : Bytes plate) (r : DmWritten) (out : List ℕ) (t : wrote r out ≡ ward_answer plate buffer lent) where
  pub wards : WardRefuses plate buffer lent (wrote r out) × WardGives plate buffer lent (wrote r out)
  wards =
      subst (λ (a : Written). WardRefuses plate buffer lent a × WardGives plate buffer lent a) (sym t) (refuses plate buffer lent bytes, ward_gives plate buffer lent bytes)

  line_told : (wrote r out).number ≡ 0 → (k : ℕ) → k < length (names buffer) → get_or (lines_of (wrote r out)) k [] ≡ given plate (get_or (names buffer) k [])
  line_told e k h =
      ap (λ (a : Written). get_or (lines_of a) k []) t ∙ line_at_lem plate buffer lent bytes (ap (λ (a : Written). a.number) (sym t) ∙ e) k h

  pub ward_lists : (name other : List ℕ) (r' : DmCoded) (out' : List ℕ) → coded r' out' ≡ list_answer plate name other
      → WardLists buffer (wrote r out) name other (coded r' out')
  ward_lists name other r' out' u e long k h is =
      line_told e k h ∙ ap (given plate) is ∙ given_is plate name other long ∙ ap line_of (sym u)

pub wards_alike : (plate buffer lent : List ℕ) → Bytes plate → (r : DmWritten) (out : List ℕ) → wrote r out ≡ ward_answer plate buffer lent
    → (buffer' lent' : List ℕ) (r' : DmWritten) (out' : List ℕ) → wrote r' out' ≡ ward_answer plate buffer' lent'
    → WardAlike buffer (wrote r out) buffer' (wrote r' out')
wards_alike plate buffer lent bytes r out t buffer' lent' r' out' u e f j k h i same =
    line_told plate buffer lent bytes r out t e j h ∙ ap (given plate) same ∙ sym (line_told plate buffer' lent' bytes r' out' u f k i)
