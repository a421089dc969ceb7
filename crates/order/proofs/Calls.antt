-- Plates whose rules are used alike along every name are answered alike, by whole calls; M-107 about them. Assumes nothing.
use Prim.Native.Nat.{ℕ}
use mathlib.Core.Path.{◌≡◌, refl, sym, ap, subst, ◌∙◌}
use mathlib.Core.Bool.{Bool, true, false, cond, false≢true}
use mathlib.Core.Option.{Option, none, some}
use mathlib.Core.List.{List}
use native.Mathlib.Omega.{arith}
use lib.Dec.{ltb}
use lib.ListN.{length}
use Rattle.laws.specs.Lists.{every}
use Rattle.laws.proofs.Tests.{and_true}
use Rattle.chars.specs.Utf8.{is_text, chars_of, bad_place, fail_place}
use Rattle.plate.specs.Plate.{Rule, Plate, good_rules, good_foldings, good_plate}
use Rattle.plate.specs.Written.{plate_bytes}
use Rattle.plate.specs.Read.{read_plate, accepted, plate_in, edition_of}
use Rattle.plate.proofs.Facts.{says_good, rules_counted, rules_few, rules_good, rules_ordered}
use Rattle.plate.proofs.Round.{plate_reads, is_good}
use Rattle.branches.specs.Branches.{Use}
use Rattle.chars.specs.Letters.{allowed}
use Rattle.coder.specs.Name.{prepared}
use Rattle.coder.specs.Walk.{uses}
use Rattle.coder.specs.Given.{uses_in}
use Rattle.coder.specs.Answer.{Coded, listed, encoded, answered, coded_by, plated, list_answer, encode_answer}
use Rattle.coder.proofs.Answers.{judged}
use Rattle.order.specs.Once.{once_plate}
use Rattle.order.specs.Claims.{SameAnswers, OnceAnswers}
use Rattle.order.proofs.Once.{once_used}
use Rattle.order.proofs.Ordered.{once_good}

-- ---- plates that are used alike

-- along every name
abbrev pub UsedAlike : Plate → Plate → Type 0
UsedAlike p q = (name : List ℕ) → uses_in p name ≡ uses_in q name

-- Whatever is known of the name, a call goes by the uses alone.
judged_alike : (call : List Use → List ℕ → Coded) (rs qs : List Rule) (cs ds lent : List ℕ) → uses rs cs ≡ uses qs ds → (long text fine : Bool) (foreign broken : ℕ)
    → answered call rs (judged long text fine foreign broken cs) lent ≡ answered call qs (judged long text fine foreign broken ds) lent
judged_alike call rs qs cs ds lent e true text fine foreign broken = refl
judged_alike call rs qs cs ds lent e false false fine foreign broken = refl
judged_alike call rs qs cs ds lent e false true false foreign broken = refl
judged_alike call rs qs cs ds lent e false true true foreign broken = ap (λ (us : List Use). call us lent) e

coded_alike : (call : List Use → List ℕ → Coded) (p q : Plate) → UsedAlike p q → (name lent : List ℕ) → coded_by call p name lent ≡ coded_by call q name lent
coded_alike call p q h name lent =
    judged_alike call p.rules q.rules (prepared p name) (prepared q name) lent (h name) (ltb 256 (length name)) (is_text name) (every allowed (chars_of name))
    (fail_place allowed name) (bad_place name)

plated_alike : (s t : List ℕ) (p q : Plate) → read_plate s ≡ some p → read_plate t ≡ some q → UsedAlike p q
    → (call : List Use → List ℕ → Coded) (name lent : List ℕ) → plated call (read_plate s) name lent ≡ plated call (read_plate t) name lent
plated_alike s t p q e f h call name lent =
    ap (λ (o : Option Plate). plated call o name lent) e ∙ coded_alike call p q h name lent ∙ ap (λ (o : Option Plate). plated call o name lent) (sym f)

pub same_answers : (s t : List ℕ) (p q : Plate) → read_plate s ≡ some p → read_plate t ≡ some q → UsedAlike p q → SameAnswers s t
unfolding list_answer encode_answer
same_answers s t p q e f h name lent = (plated_alike s t p q e f h encoded name lent, plated_alike s t p q e f h listed name lent)

-- ---- M-107

-- Bytes that read as a plate, of either edition, say a good one.
read_good : (s : List ℕ) (p : Plate) → read_plate s ≡ some p → good_plate p ≡ true
read_good s p e = go (accepted s) refl e
  where
    held : Option Plate → Plate
    held (some q) = q
    held none = p

    is_some : Option Plate → Bool
    is_some (some q) = true
    is_some none = false

    said : accepted s ≡ true → good_plate (plate_in s) ≡ true
    said a = is_good (plate_in s) (record {
      few = omega (arith, rules_counted s a, rules_few s a);
      rules = rules_good s a;
      order = rules_ordered s a;
      foldings = (and_true (good_rules (edition_of s) (plate_in s).rules) (good_foldings (plate_in s).foldings) (says_good (edition_of s) s a)).1;
    })

    go : (t : Bool) → accepted s ≡ t → cond t (some (plate_in s)) none ≡ some p → good_plate p ≡ true
    go true a f = subst (λ (q : Plate). good_plate q ≡ true) (ap held f) (said a)
    go false a f = absurd (false≢true (ap is_some f))

pub once_alike : (p : Plate) → UsedAlike p (once_plate p)
once_alike p name = sym (once_used p.rules (prepared p name))

pub once_answers : OnceAnswers
once_answers s p e =
    same_answers s (plate_bytes (once_plate p)) p (once_plate p) e (plate_reads (once_plate p) (once_good p (read_good s p e))) (once_alike p)
