-- Demand 3c from texts: two texts whose rules and foldings differ only by further alternatives say plates that differ only so. Assumes nothing.
use Prim.Native.Nat.{ℕ}
use mathlib.Core.Path.{◌≡◌, refl, sym, ap, subst}
use mathlib.Core.Bool.{Bool, true, false, cond, ◌&&◌, ◌||◌}
use mathlib.Core.List.{List, [], ◌∷◌, ◌++◌}
use lib.Dec.{ltb, leb, eqb}
use lib.ListN.{length}
use Rattle.laws.specs.Lists.{same}
use Rattle.laws.specs.Once.{among, merge, once}
use Rattle.plate.specs.Plate.{Rule, first_code, may_precede, same_pattern}
use Rattle.book.specs.Book.{put_rule}
use Rattle.coder.specs.Wider.{WiderRule, WiderRules}
use Rattle.promises.specs.Said.{said_by, rules_of, put_rules, put_foldings, plate_said}
use Rattle.promises.specs.Demands.{WiderPlate, WiderText}

may_same : (r q r' q' : Rule) → r'.pattern ≡ r.pattern → q'.pattern ≡ q.pattern → may_precede r' q' ≡ may_precede r q
may_same r q r' q' e f i = ltb (code (e i)) (code (f i)) || (eqb (code (e i)) (code (f i)) && leb (length (f i)) (length (e i)))
  where
    code : List ℕ → ℕ
    code p = first_code (record { pattern = p; start = []; vowel = []; other = [] })

-- Where a rule goes rests on patterns alone.
put_wider : (r r' : Rule) (rs rs' : List Rule) → WiderRule r r' → WiderRules rs rs' → WiderRules (put_rule r rs) (put_rule r' rs')
put_wider r r' [] [] h w = (h, tt)
put_wider r r' [] (q ∷ qs) h w = absurd w
put_wider r r' (q ∷ qs) [] h w = absurd w
put_wider r r' (q ∷ qs) (q' ∷ qs') h w =
    subst (λ (t : Bool). WiderRules (put_rule r (q ∷ qs)) (cond t (q' ∷ put_rule r' qs') (r' ∷ q' ∷ qs'))) (sym (may_same q r q' r' w.0.same h.same))
    (go (may_precede q r) (put_wider r r' qs qs' h w.1))
  where
    go : (t : Bool) → WiderRules (put_rule r qs) (put_rule r' qs') → WiderRules (cond t (q ∷ put_rule r qs) (r ∷ q ∷ qs)) (cond t (q' ∷ put_rule r' qs') (r' ∷ q' ∷ qs'))
    go true below = (w.0, below)
    go false below = (h, (w.0, w.1))

all_wider : (held held' rs rs' : List Rule) → WiderRules held held' → WiderRules rs rs' → WiderRules (put_rules held rs) (put_rules held' rs')
all_wider held held' [] [] h w = h
all_wider held held' [] (q ∷ qs) h w = absurd w
all_wider held held' (r ∷ rs) [] h w = absurd w
all_wider held held' (r ∷ rs) (r' ∷ rs') h w = all_wider (put_rule r held) (put_rule r' held') rs rs' (put_wider r r' held held' w.0 h) w.1

-- Whether a pattern is known rests on patterns alone.
among_wider : (r r' : Rule) (rs rs' : List Rule) → WiderRule r r' → WiderRules rs rs' → among same_pattern r' rs' ≡ among same_pattern r rs
among_wider r r' [] [] h w = refl
among_wider r r' [] (q ∷ qs) h w = absurd w
among_wider r r' (q ∷ qs) [] h w = absurd w
among_wider r r' (q ∷ qs) (q' ∷ qs') h w = λ i. same (w.0.same i) (h.same i) || among_wider r r' qs qs' h w.1 i

behind_wider : (r r' : Rule) (rs rs' : List Rule) → WiderRule r r' → WiderRules rs rs' → WiderRules (rs ++ (r ∷ [])) (rs' ++ (r' ∷ []))
behind_wider r r' [] [] h w = (h, tt)
behind_wider r r' [] (q ∷ qs) h w = absurd w
behind_wider r r' (q ∷ qs) [] h w = absurd w
behind_wider r r' (q ∷ qs) (q' ∷ qs') h w = (w.0, behind_wider r r' qs qs' h w.1)

-- Doubles may widen as well: the same are left out.
merge_wider : (kept kept' rs rs' : List Rule) → WiderRules kept kept' → WiderRules rs rs' → WiderRules (merge same_pattern kept rs) (merge same_pattern kept' rs')
merge_wider kept kept' [] [] h w = h
merge_wider kept kept' [] (q ∷ qs) h w = absurd w
merge_wider kept kept' (r ∷ rs) [] h w = absurd w
merge_wider kept kept' (r ∷ rs) (r' ∷ rs') h w =
    merge_wider (cond (among same_pattern r kept) kept (kept ++ (r ∷ []))) (cond (among same_pattern r' kept') kept' (kept' ++ (r' ∷ []))) rs rs'
    (subst (λ (t : Bool). WiderRules (cond (among same_pattern r kept) kept (kept ++ (r ∷ []))) (cond t kept' (kept' ++ (r' ∷ []))))
    (sym (among_wider r r' kept kept' w.0 h)) (go (among same_pattern r kept))) w.1
  where
    go : (t : Bool) → WiderRules (cond t kept (kept ++ (r ∷ []))) (cond t kept' (kept' ++ (r' ∷ [])))
    go true = h
    go false = behind_wider r r' kept kept' w.0 h

pub said_wider : (text wide : List ℕ) (flag : Bool) → WiderText text wide → WiderPlate (plate_said flag text) (plate_said flag wide)
said_wider text wide flag w = (
  refl,
  ap (put_foldings []) w.0,
  all_wider [] [] (once same_pattern (rules_of (said_by text))) (once same_pattern (rules_of (said_by wide))) tt
      (merge_wider [] [] (rules_of (said_by text)) (rules_of (said_by wide)) tt w.1),
)
