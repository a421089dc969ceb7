-- No code is listed twice: the codes of the uses are distinct (branches, Choice.listed_once), and each stands at its own place. Assumes nothing.
use Prim.Native.Nat.{ℕ, zero, suc, ◌<◌}
use mathlib.Core.Path.{◌≡◌, refl, sym, ap, subst, ◌∙◌}
use mathlib.Core.List.{List, [], ◌∷◌}
use native.Mathlib.Omega.{arith}
use lib.ListN.{length, get_or}
use Rattle.laws.specs.Lists.{In}
use Rattle.laws.proofs.Once.{Distinct}
use Rattle.plate.proofs.Packed.{Bytes}
use Rattle.branches.specs.Branches.{codes}
use Rattle.branches.proofs.Choice.{listed_once}
use Rattle.coder.specs.Answer.{list_answer}
use Rattle.coder.specs.Given.{uses_in}
use Rattle.zengilvar.specs.Numbers.{coded}
use Rattle.zengilvar.specs.declared.DmCoded.{DmCoded}
use Rattle.promises.specs.Once.{ListsOnce}
use Rattle.promises.proofs.Places.{place_in}
use Rattle.promises.proofs.Gives.{list_gives}

-- Of a distinct list no two places hold the same.
places_differ : {A : Type 0} (d : A) (l : List A) → Distinct l → (j k : ℕ) → j < length l → k < length l → get_or l j d ≡ get_or l k d → j ≡ k
places_differ d [] u j k g h e = absurd (omega arith)
places_differ d (x ∷ l) u zero zero g h e = refl
places_differ d (x ∷ l) u zero (suc k) g h e = absurd (u.0 (subst (λ (y : _). In y l) (sym e) (place_in d l k (omega arith))))
places_differ d (x ∷ l) u (suc j) zero g h e = absurd (u.0 (subst (λ (y : _). In y l) e (place_in d l j (omega arith))))
places_differ d (x ∷ l) u (suc j) (suc k) g h e = ap suc (places_differ d l u.1 j k (omega arith) (omega arith) e)

pub lists_once : (plate name lent : List ℕ) → Bytes plate → (r : DmCoded) (out : List ℕ) → coded r out ≡ list_answer plate name lent → ListsOnce (coded r out)
lists_once plate name lent bytes r out t =
    subst ListsOnce (sym t)
    (λ n j k g h e.
    let w = list_gives plate name lent bytes n in
    let us = uses_in w.0 name in
    let many = w.2.counted in
    places_differ [] (codes us) (listed_once us) j k (omega arith) (omega arith) (sym (w.2.placed j g) ∙ e ∙ w.2.placed k h))
