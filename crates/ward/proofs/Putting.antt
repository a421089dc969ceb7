-- Bytes put to the front of a lent buffer: a byte behind them, a part behind them, the list of a name. Assumes nothing.
use Prim.Native.Nat.{ℕ, suc, ◌+◌, ◌-◌, ◌*◌, ◌<◌, ◌≤◌}
use mathlib.Core.Path.{◌≡◌, refl, sym, ap, ap₂, subst, ◌∙◌}
use mathlib.Core.List.{List, [], ◌∷◌, ◌++◌, append_assoc, append-nil}
use native.Mathlib.Omega.{arith}
use lib.ListN.{length, take, drop, get_or, set, replicate, length-append, length-drop, length-replicate, take-append-drop, drop_of_length-le}
use lib.Seq.{drop-cons, drop-drop, drop-append-le, set_at, take_at, drop_at, length-take-le}
use Rattle.laws.specs.Lists.{cat}
use Rattle.laws.proofs.Lists.{rest}
use mathlib.Core.Bool.{true}
use Rattle.std.specs.Prelude.{Err}
use Rattle.plate.specs.Read.{accepted, plate_in}
use Rattle.coder.specs.Answer.{Coded, coded_by, list_answer}
use Rattle.coder.specs.Outcome.{told, listed_to}
use Rattle.coder.specs.Refused.{error_number}
use Rattle.coder.specs.declared.CodeError.{CodeError}
use Rattle.coder.specs.declared.CodeError.TheVariants.{NotAPlate, NameTooLong, NotUtf8, CharacterNotAllowed, RoomTooSmall}
use Rattle.coder.proofs.Answers.{by_plate, list_is}
use Rattle.ward.specs.Ward.{list_bytes, line_bytes, refused_line, line_of, given, line}
use Rattle.ward.specs.Puts.{Puts}
use Rattle.ward.proofs.Lines.{any_buffer, refused_lent, codes_stand, given_fits, some_code}

-- The buffer keeps its length.
pub as_long : (bytes : List ℕ) (n : ℕ) (lent buffer : List ℕ) → Puts bytes n lent buffer → n ≤ length lent → length buffer ≡ length lent
as_long bytes n lent buffer p h =
    let e = p.count in
    ap length p.is ∙ length-append bytes (drop (length bytes) lent) ∙ ap (λ (m : ℕ). length bytes + m) (length-drop (length bytes) lent) ∙ omega arith

-- A byte behind them.
pub puts_byte : (bytes : List ℕ) (n : ℕ) (lent buffer : List ℕ) (b : ℕ) → Puts bytes n lent buffer → n < length lent → Puts (bytes ++ (b ∷ [])) (n + 1) lent (set buffer n b)
puts_byte bytes n lent buffer b p h =
    let e = p.count in
    let long : length (bytes ++ (b ∷ [])) ≡ suc (length bytes) = length-append bytes (b ∷ []) ∙ omega arith in
    let within : length bytes < length lent = omega arith in
    record {
      count = omega (arith, long);
      is =
          ap (λ (l : List ℕ). set l n b) (p.is ∙ ap (λ (l : List ℕ). bytes ++ l) (drop-cons lent (length bytes) 0 within))
          ∙ set_at bytes (get_or lent (length bytes) 0) (drop (suc (length bytes)) lent) b n (sym e)
          ∙ sym (append_assoc bytes (b ∷ []) (drop (length (bytes ++ (b ∷ []))) lent) ∙ ap (λ (m : ℕ). bytes ++ (b ∷ drop m lent)) long);
    }

-- More behind them, as it is copied there.
pub puts_more : (done more : List ℕ) (to n : ℕ) (lent out ys : List ℕ) → Puts done to lent out → n ≡ length more → ys ≡ more
    → Puts (done ++ more) (to + n) lent (take to out ++ (ys ++ drop n (drop to out)))
puts_more done more to n lent out ys p k f =
    let e = p.count in
    let behind : drop to out ≡ drop (length done) lent = ap (drop to) p.is ∙ drop_at done (drop (length done) lent) to (sym e) in
    let front : take to out ≡ done = ap (take to) p.is ∙ take_at done (drop (length done) lent) to (sym e) in
    let both : drop n (drop to out) ≡ drop (length (done ++ more)) lent =
    ap (drop n) behind ∙ drop-drop n (length done) lent ∙ ap (λ (m : ℕ). drop m lent) (ap (λ (m : ℕ). length done + m) k ∙ sym (length-append done more)) in
    record {
      count = ap₂ ◌+◌ e k ∙ sym (length-append done more);
      is = ap₂ ◌++◌ front (ap₂ ◌++◌ f both) ∙ sym (append_assoc done more (drop (length (done ++ more)) lent));
    }

-- More behind them, as it is put into the part from there on.
pub puts_part : (done more : List ℕ) (to n : ℕ) (lent out ys : List ℕ) → Puts done to lent out → Puts more n (take (length out - to) (drop to out)) ys
    → Puts (done ++ more) (to + n) lent (take to out ++ (ys ++ drop (length out - to) (drop to out)))
puts_part done more to n lent out ys p q =
    let e = p.count in
    let f = q.count in
    let past : length (drop to out) ≤ length out - to = simp length-drop (omega arith) in
    let behind : drop to out ≡ drop (length done) lent = ap (drop to) p.is ∙ drop_at done (drop (length done) lent) to (sym e) in
    let front : take to out ≡ done = ap (take to) p.is ∙ take_at done (drop (length done) lent) to (sym e) in
    let both : drop (length more) (drop to out) ≡ drop (length (done ++ more)) lent =
    ap (drop (length more)) behind ∙ drop-drop (length more) (length done) lent ∙ ap (λ (m : ℕ). drop m lent) (sym (length-append done more)) in
    record {
      count = ap₂ ◌+◌ e f ∙ sym (length-append done more);
      is =
          ap (λ (l : List ℕ). take to out ++ (ys ++ l)) (drop_of_length-le (drop to out) past)
          ∙ ap (λ (l : List ℕ). take to out ++ l) (append-nil ys ∙ q.is ∙ ap (λ (l : List ℕ). more ++ drop (length more) l) (rest to out))
          ∙ ap₂ (λ (l m : List ℕ). l ++ (more ++ m)) front both
          ∙ sym (append_assoc done more (drop (length (done ++ more)) lent));
    }

-- ---- the list of a name, into the first 447 bytes of what is lent

module _ (plate name out : List ℕ) (long : line_bytes ≤ length out) (a : Coded) (e : a ≡ list_answer plate name (take list_bytes out)) where
  front_long : length (take list_bytes out) ≡ list_bytes
  front_long = length-take-le list_bytes out (omega arith)

  is_given : line_of a ≡ given plate name
  unfolding given
  is_given = ap line_of e ∙ any_buffer plate name (take list_bytes out) (replicate list_bytes 0) (front_long ∙ sym (length-replicate {A = ℕ} list_bytes 0))

  -- Codes: as many as fit, and their line stands.
  pub some : a.number ≡ 0 → 1 ≤ a.count
  some h =
      subst (λ (x : Coded). 1 ≤ x.count) (sym e) (some_code plate name (take list_bytes out) (ap (λ (x : Coded). x.number) (sym e) ∙ h))

  stands : a.number ≡ 0 → Puts (line_of a) (7 * a.count - 1) (take list_bytes out) a.buffer
  stands h =
      subst (λ (x : Coded). Puts (line_of x) (7 * x.count - 1) (take list_bytes out) x.buffer) (sym e)
      (codes_stand plate name (take list_bytes out) (ap (λ (x : Coded). x.number) (sym e) ∙ h))

  short : length (line_of a) ≤ list_bytes
  short = subst (λ (x : Coded). length (line_of x) ≤ list_bytes) (sym e) (given_fits plate name (take list_bytes out) front_long)

  pub few : a.number ≡ 0 → 7 * a.count - 1 ≤ list_bytes
  few h = let n = (stands h).count in let m = short in omega arith

  pub puts_codes : a.number ≡ 0 → Puts (given plate name) (7 * a.count - 1) out (a.buffer ++ drop list_bytes out)
  puts_codes h =
      let s = stands h in
      let l = line_of a in
      subst (λ (x : List ℕ). Puts x (7 * a.count - 1) out (a.buffer ++ drop list_bytes out)) is_given
      (record {
        count = s.count;
        is =
            ap (λ (x : List ℕ). x ++ drop list_bytes out) s.is
            ∙ append_assoc l (drop (length l) (take list_bytes out)) (drop list_bytes out)
            ∙ ap (λ (x : List ℕ). l ++ x) (sym (drop-append-le (length l) (take list_bytes out) (drop list_bytes out) (subst (λ (m : ℕ). length l ≤ m) (sym front_long) short))
            ∙ ap (drop (length l)) (take-append-drop list_bytes out));
      })

  -- A refusal: nothing was changed, and its line is `!` and the number.
  pub unchanged : (a.number ≡ 0 → ⊥) → a.buffer ++ drop list_bytes out ≡ out
  unchanged h =
      ap (λ (l : List ℕ). l ++ drop list_bytes out)
      (ap (λ (x : Coded). x.buffer) e ∙ refused_lent plate name (take list_bytes out) (λ z. h (ap (λ (x : Coded). x.number) e ∙ z)))
      ∙ take-append-drop list_bytes out

  pub puts_refusal : (n : ℕ) (lent buffer : List ℕ) → line_of a ≡ refused_line a.number → lent ≡ out → Puts (refused_line a.number) n lent buffer → Puts (given plate name) n out buffer
  puts_refusal n lent buffer f g p = subst (λ (l : List ℕ). Puts l n out buffer) (sym f ∙ is_given) (subst (λ (l : List ℕ). Puts (refused_line a.number) n l buffer) g p)

-- What is coded by an accepted plate is what list answers.
pub answered : (plate name out : List ℕ) → accepted plate ≡ true → {a : Coded} → a ≡ coded_by (listed_to 8) (plate_in plate) name (take list_bytes out)
    → a ≡ list_answer plate name (take list_bytes out)
answered plate name out h e = e ∙ sym (by_plate 8 plate name (take list_bytes out) h) ∙ list_is plate name (take list_bytes out)

-- A refusal has a number other than 0, and its line.
pub refused : (e : CodeError) → error_number e ≡ 0 → ⊥
refused NotAPlate h = omega arith
refused NameTooLong h = omega arith
refused (NotUtf8 place) h = omega arith
refused (CharacterNotAllowed place) h = omega arith
refused RoomTooSmall h = omega arith

pub is_refused : (e : CodeError) (out : List ℕ) → line_of (told (Err e) out) ≡ refused_line (error_number e)
is_refused NotAPlate out = refl
is_refused NameTooLong out = refl
is_refused (NotUtf8 place) out = refl
is_refused (CharacterNotAllowed place) out = refl
is_refused RoomTooSmall out = refl

-- ---- the lines of all names

-- The names before those that are left have their lines in front of the buffer, and for those there is room.
pub record Done (plate : List ℕ) (all left : List (List ℕ)) (lent : List ℕ) (to : ℕ) (out : List ℕ) : Type 0 where
  pub lines : List ℕ
  pub room : to + line_bytes * length left ≤ length lent
  pub puts : Puts lines to lent out
  pub whole : lines ++ cat (line plate) left ≡ cat (line plate) all

module _ (plate : List ℕ) (all : List (List ℕ)) (lent : List ℕ) where
  pub none_done : (left : List (List ℕ)) → left ≡ all → line_bytes * length all ≤ length lent → Done plate all left lent 0 lent
  none_done left e h = rw e (record { lines = []; room = omega arith; puts = record { count = refl; is = refl }; whole = refl })

  module _ (left : List (List ℕ)) (to : ℕ) (out : List ℕ) (d : Done plate all left lent to out) where
    -- The line of the next name.
    pub next_done : (name : List ℕ) (more : List (List ℕ)) → left ≡ name ∷ more → (n : ℕ) → n ≤ line_bytes → (ys : List ℕ)
        → Puts (line plate name) n (take (length out - to) (drop to out)) ys
        → Done plate all more lent (to + n) (take to out ++ (ys ++ drop (length out - to) (drop to out)))
    next_done name more e n h ys p =
        let r = d.room in
        let k = ap length e in
        record {
          lines = d.lines ++ line plate name;
          room = omega arith;
          puts = puts_part d.lines (line plate name) to n lent out ys d.puts p;
          whole =
              append_assoc d.lines (line plate name) (cat (line plate) more)
              ∙ ap (λ (ns : List (List ℕ)). d.lines ++ cat (line plate) ns) (sym e)
              ∙ d.whole;
        }

    -- All are written.
    pub all_done : left ≡ [] → Puts (cat (line plate) all) to lent out
    all_done e =
        subst (λ (l : List ℕ). Puts l to lent out)
        (sym (append-nil d.lines) ∙ ap (λ (ns : List (List ℕ)). d.lines ++ cat (line plate) ns) (sym e) ∙ d.whole) d.puts

    pub done_long : length out ≡ length lent
    done_long = let r = d.room in as_long d.lines to lent out d.puts (omega arith)

    -- There is room for one line more.
    pub room_left : (name : List ℕ) (more : List (List ℕ)) → left ≡ name ∷ more → to + line_bytes ≤ length out
    room_left name more e = let k = ap length e in let r = d.room in let l = done_long in omega arith
