-- `utf8::first_char` meets its contract. Four bytes, with zeros behind the end, decide (Places.front). Assumes nothing.
use mathlib.Core.Path.{sym, ap, ◌∙◌}
use mathlib.Core.List.{List, [], ◌∷◌}
use Prim.Native.Nat.{ℕ}
use lib.ListN.{get_or, drop}
use lib.Seq.{drop-cons}
use Rattle.laws.proofs.Lists.{rest}
use Rattle.chars.specs.Utf8.{char_of}
use Rattle.chars.proofs.Places.{front}
use Rattle.chars.proofs.utf8.first_char.Goals as goal

pub returns-in-len1-up : goal.returns-in-len1-up
returns-in-len1-up c =
    let s = c.args.s.now in
    let a : ℕ = get_or s 0 0 in
    let read = λ (k : ℕ). ap (λ (l : List ℕ). get_or l k 0) (rest 1 s) in
    c.char_from.ensures
    ∙ (λ i. char_of
    (c.from.ensures i ∷ (c.byte.ensures ∙ read 0) i ∷ (c.byte-in-len1-up.ensures ∙ read 1) i ∷ (c.byte-in-len1-up-2.ensures ∙ read 2) i ∷ []))
    ∙ front a (drop 1 s) ∙ ap char_of (sym (drop-cons s 0 0 c.in-len1-up.len_at_least))
