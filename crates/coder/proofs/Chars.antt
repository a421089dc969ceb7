-- The characters of a name, from a place on: each is dropped or kept, and the end, a bad sequence or one that is not allowed decides. Assumes nothing.
use Prim.Native.Nat.{ℕ, zero, suc, ◌+◌, ◌-◌, ◌≤◌, ◌<◌}
use mathlib.Core.Path.{◌≡◌, refl, sym, ap, subst, ◌∙◌}
use mathlib.Core.Bool.{Bool, true, false, cond, ◌&&◌, ◌||◌}
use mathlib.Core.List.{List, [], ◌∷◌, ◌++◌, append_assoc, append-nil}
use native.Mathlib.Nat.{zero-add, add-zero, add_assoc}
use native.Mathlib.Numerals.{add-one}
use native.Mathlib.Omega.{arith}
use borrow.Author.Tests.{lt-ltb, le-ltb, le-leb}
use lib.ListN.{length, take, drop, get_or, set, length-drop, drop_of_length-le}
use lib.Seq.{drop-drop, drop-cons, take-suc-set}
use Rattle.std.specs.Prelude.{Result, Err}
use Rattle.laws.specs.Lists.{every}
use Rattle.laws.proofs.Lists.{rest}
use Rattle.chars.specs.Utf8.{char_of, is_text, text_from, chars_from, chars_of, bad_place, fail_place}
use Rattle.chars.specs.Letters.{white, cyrillic, tabled, allowed, lower_of}
use Rattle.chars.specs.declared.Char.{Char}
use Rattle.chars.specs.declared.Char.TheVariants.{One, Bad}
use Rattle.chars.specs.Answers.{Reaches, checked}
use Rattle.chars.specs.declared.NotUtf8.{NotUtf8}
use Rattle.chars.proofs.Texts.{kind, text_front, chars_front}
use Rattle.chars.proofs.Exact.{decoded_one}
use Rattle.chars.proofs.Checks.{Says, says, sound_front}
use Rattle.chars.proofs.Faults.{sound_within, bad_here, fail_here, fail_behind}
use Rattle.plate.specs.Plate.{Plate}
use Rattle.plate.specs.Bits.{number_at}
use Rattle.plate.specs.Read.{fold_by, folding_count, count_width, plate_in, accepted}
use Rattle.plate.specs.Stands.{first_key}
use Rattle.plate.proofs.Facts.{keys_rise}
use Rattle.plate.proofs.Parts.{fold_below, fold_end}
use Rattle.plate.proofs.Whole.{key_first}
use Rattle.coder.specs.Name.{coded, prepared, Named, most_name, named}
use Rattle.coder.specs.Name.Named.{Refused, Chars}
use Rattle.coder.specs.Held.{named_by, foreign_fault, PlainAt}
use Rattle.coder.specs.declared.NameFault.{NameFault}
use Rattle.coder.specs.declared.NameFault.TheVariants as fault

-- ---- one character

-- Below the first key nothing is folded.
below_key : (s : List ℕ) → accepted s ≡ true → (c : ℕ) → c < first_key (plate_in s).foldings → fold_by (plate_in s).foldings c ≡ c
below_key s a c h = go (folding_count (count_width s) s) refl
  where
    go : (n : ℕ) → folding_count (count_width s) s ≡ n → fold_by (plate_in s).foldings c ≡ c
    go zero e = sym (fold_end s c 32 (folding_count (count_width s) s) (omega arith))
    go (suc n) e =
        let n = folding_count (count_width s) s in
        sym (fold_below s c 32 n (omega arith) (number_at s 32 21) refl (keys_rise s a) (subst (λ (k : ℕ). c < k) (sym (key_first s n n refl (omega arith) (number_at s 32 21) refl)) h))

pub left_as : (s : List ℕ) → accepted s ≡ true → (c : ℕ) → lower_of c < first_key (plate_in s).foldings → coded (plate_in s) c ≡ lower_of c
left_as s a c h = go (plate_in s).flag
  where
    go : (t : Bool) → cond t (fold_by (plate_in s).foldings (lower_of c)) (lower_of c) ≡ lower_of c
    go true = below_key s a (lower_of c) h
    go false = refl

module _ (p : Plate) (c : ℕ) where
  pub folded : p.flag ≡ true → coded p c ≡ fold_by p.foldings (lower_of c)
  folded h = ap (λ (t : Bool). cond t (fold_by p.foldings (lower_of c)) (lower_of c)) h

  pub unfolded : p.flag ≡ false → coded p c ≡ lower_of c
  unfolded h = ap (λ (t : Bool). cond t (fold_by p.foldings (lower_of c)) (lower_of c)) h

ascii_char : (b : ℕ) (l : List ℕ) → b ≤ 0x7F → char_of (b ∷ l) ≡ One b 1
ascii_char b l h = rw (le-leb b 0x7F h)

-- An ASCII character that is not white space is kept.
pub plain_here : (name : List ℕ) (at : ℕ) → at < length name → get_or name at 0 < 128 → white (get_or name at 0) ≡ false → PlainAt name at (get_or name at 0)
plain_here name at h small inked =
    record {
      within = h;
      here = ap char_of (drop-cons name at 0 h) ∙ ascii_char (get_or name at 0) (drop (suc at) name) (omega arith);
      inked = inked;
      allowed = ap (λ (t : Bool). t || cyrillic (get_or name at 0)) (lt-ltb (get_or name at 0) 0x180 (omega arith));
    }

-- A character stands at a place that is neither dropped nor refused.
pub record Stands (name : List ℕ) (at c w : ℕ) : Type 0 where
  pub some : 1 ≤ w
  pub within : at + w ≤ length name
  pub here : char_of (drop at name) ≡ One c w
  pub inked : white c ≡ false
  pub allowed : tabled c ≡ true

pub plain_stands : (name : List ℕ) (at c : ℕ) → PlainAt name at c → Stands name at c 1
plain_stands name at c p = let w = p.within in record { some = omega arith; within = omega arith; here = p.here; inked = p.inked; allowed = p.allowed }

pub one_stands : (name : List ℕ) (at : ℕ) (r : Char) (c w : ℕ) → r ≡ char_of (drop at name) → Reaches at (length name) r → r ≡ One c w → white c ≡ false → tabled c ≡ true → Stands name at c w
one_stands name at r c w e b f inked allowed =
    let h = rw f at b in
    record { some = h.some; within = h.within; here = sym e ∙ f; inked = inked; allowed = allowed }

-- ---- the rest of a name

-- The same as `named`, of the bytes from a place on; `made` are the characters so far.
abbrev text : Plate → List ℕ → ℕ → List ℕ → Named
text p made at bytes = cond (every allowed (chars_of bytes)) (Chars (made ++ prepared p bytes)) (Refused 11 (at + fail_place allowed bytes))

unfoldable pub ending : Plate → List ℕ → ℕ → List ℕ → Named
ending p made at bytes = cond (is_text bytes) (text p made at bytes) (Refused 2 (at + bad_place bytes))

-- What the check of the bytes from a place on says, where a character that is not allowed stands there.
module _ (at : ℕ) (name : List ℕ) (r : Result Bool NotUtf8) (e : r ≡ checked (take (length name - at) (drop at name))) where
  told : Says (drop at name) r
  told = says (drop at name) r (e ∙ ap checked (rest at name))

  -- The place of a bad sequence lies within the name.
  pub within : at ≤ length name → (y : NotUtf8) → r ≡ Err y → at + y.at ≤ length name
  within h y f =
      let s = rw f at told in
      let b = sound_within 0 (drop at name) in
      let l = length-drop at name in omega arith

-- A bad sequence is no text.
text_bad : (s : List ℕ) → char_of s ≡ Bad → is_text s ≡ false
unfolding text_from
text_bad [] e = absurd (omega (arith, ap kind e))
text_bad (x ∷ xs) e = rw e

-- The first of `chars` are those made up to a place of the name: what is wanted from there is what is wanted of the whole name.
abbrev pub Made : Plate → List ℕ → List ℕ → ℕ → ℕ → Type 0
Made p name chars count at = ending p (take count chars) at (drop at name) ≡ named p name

module _ (p : Plate) (name : List ℕ) where
  pub too_long : most_name < length name → Refused 1 0 ≡ named p name
  too_long h = rw (lt-ltb most_name (length name) h)

  pub start : length name ≤ most_name → (chars : List ℕ) → Made p name chars 0 0
  unfolding ending
  start h chars = whole ∙ ap (λ (t : Bool). cond t (Refused 1 0) all) (sym (le-ltb most_name (length name) h))
    where
      all : Named
      all = cond (is_text name) (cond (every allowed (chars_of name)) (Chars (prepared p name)) (Refused 11 (fail_place allowed name))) (Refused 2 (bad_place name))

      whole : cond (is_text name) (text p [] 0 name) (Refused 2 (0 + bad_place name)) ≡ all
      whole =
          λ i. cond (is_text name) (cond (every allowed (chars_of name)) (Chars (prepared p name)) (Refused 11 (zero-add (fail_place allowed name) i)))
          (Refused 2 (zero-add (bad_place name) i))

  module _ (chars : List ℕ) (count at : ℕ) (m : Made p name chars count at) where
    module _ (r : Char) (e : r ≡ char_of (drop at name)) where
      pub bad : r ≡ Bad → Refused 2 at ≡ named p name
      unfolding ending
      bad f =
          let g = sym e ∙ f in
          ap (Refused 2) (sym (add-zero at) ∙ ap (λ (n : ℕ). at + n) (sym (bad_here (drop at name) g)))
          ∙ ap (λ (t : Bool). cond t (text p (take count chars) at (drop at name)) (Refused 2 (at + bad_place (drop at name)))) (sym (text_bad (drop at name) g)) ∙ m

      module _ (c w : ℕ) (f : r ≡ One c w) (g : 1 ≤ w) where
        abbrev here : List ℕ
        here = drop at name

        abbrev behind : List ℕ
        behind = drop (at + w) name

        one : char_of here ≡ One c w
        one = sym e ∙ f

        texts : is_text here ≡ is_text behind
        texts = text_front here c w one g ∙ ap is_text (drop-drop w at name)

        characters : chars_of here ≡ c ∷ chars_of behind
        characters = chars_front here c w one g ∙ ap (λ (l : List ℕ). c ∷ chars_of l) (drop-drop w at name)

        by_first : every allowed (chars_of here) ≡ allowed c && every allowed (chars_of behind)
        by_first = ap (every allowed) characters

        -- A character that is allowed is passed by.
        passed : allowed c ≡ true → (made : List ℕ) → made ++ prepared p behind ≡ take count chars ++ prepared p here → ending p made (at + w) behind ≡ named p name
        unfolding ending
        passed h made same =
            (λ i. cond (sym texts i) (cond (fine i) (Chars (same i)) (Refused 11 (foreign i))) (Refused 2 (broken i))) ∙ m
          where
            fine : every allowed (chars_of behind) ≡ every allowed (chars_of here)
            fine = sym (by_first ∙ ap (λ (t : Bool). t && every allowed (chars_of behind)) h)

            foreign : at + w + fail_place allowed behind ≡ at + fail_place allowed here
            foreign =
                add_assoc at w (fail_place allowed behind)
                ∙ ap (λ (n : ℕ). at + n) (sym (fail_behind allowed here c w one g h ∙ ap (λ (l : List ℕ). w + fail_place allowed l) (drop-drop w at name)))

            broken : at + w + bad_place behind ≡ at + bad_place here
            broken =
                add_assoc at w (bad_place behind)
                ∙ ap (λ (n : ℕ). at + n) (sym (sound_front here c w one g (decoded_one here c w one).3 ∙ ap (λ (l : List ℕ). w + bad_place l) (drop-drop w at name)))

        -- White space is dropped.
        pub space : white c ≡ true → Made p name chars count (at + w)
        space h = passed (ap (λ (t : Bool). t || tabled c) h) (take count chars) (sym (rw (characters, h) refl))

        -- Any other character that is allowed is kept.
        pub kept : white c ≡ false → tabled c ≡ true → count < length chars → (v : ℕ) → v ≡ coded p c → Made p name (set chars count v) (count + 1) (at + w)
        kept h k b v i =
            ap (λ (made : List ℕ). ending p made (at + w) behind) (ap (λ (n : ℕ). take n (set chars count v)) (add-one count) ∙ take-suc-set chars count v b)
            ∙ passed (ap (λ (t : Bool). t || tabled c) h ∙ k) (take count chars ++ (v ∷ []))
            (append_assoc (take count chars) (v ∷ []) (prepared p behind) ∙ sym (rw (characters, h) (ap (λ (x : ℕ). take count chars ++ (x ∷ prepared p behind)) (sym i))))

        -- One that is not allowed is the fault, or a bad sequence behind it.
        pub strange : white c ≡ false → tabled c ≡ false → (x : NameFault) → x ≡ foreign_fault at here → named_by x ≡ named p name
        unfolding ending
        strange h k x same = ap named_by same ∙ go (is_text here) ∙ m
          where
            fails : allowed c ≡ false
            fails = ap (λ (t : Bool). t || tabled c) h ∙ k

            found : every allowed (chars_of here) ≡ false
            found = by_first ∙ ap (λ (t : Bool). t && every allowed (chars_of behind)) fails

            place : at ≡ at + fail_place allowed here
            place = sym (add-zero at) ∙ ap (λ (n : ℕ). at + n) (sym (fail_here allowed here c w one g fails))

            go : (t : Bool) → named_by (cond t (fault.NotAllowed at) (fault.NotUtf8 (at + bad_place here)))
                ≡ cond t (text p (take count chars) at here) (Refused 2 (at + bad_place here))
            go true = ap (Refused 11) place ∙ ap (λ (t : Bool). cond t (Chars (take count chars ++ prepared p here)) (Refused 11 (at + fail_place allowed here))) (sym found)
            go false = refl

    pub end : length name ≤ at → Chars (take count chars) ≡ named p name
    unfolding ending text_from chars_from
    end h = rw (drop_of_length-le name h, append-nil) at m
