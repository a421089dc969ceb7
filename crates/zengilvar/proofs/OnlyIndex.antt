-- Only one answer and its buffers satisfy the promises of `dm_index_make`, `dm_index_add` and `dm_index_find`: what is told are all. Assumes nothing.
use Prim.Native.Nat.{ℕ}
use mathlib.Core.Path.{◌≡◌, sym, ap, ◌∙◌}
use mathlib.Core.List.{List}
use Rattle.ward.specs.Ward.{Written}
use Rattle.index.specs.Index.{Indexed, make_answer, add_answer}
use Rattle.index.specs.Find.{find_answer}
use Rattle.zengilvar.specs.Index.{indexed}
use Rattle.zengilvar.specs.Ward.{wrote}
use Rattle.zengilvar.specs.declared.DmIndexed.{DmIndexed}
use Rattle.zengilvar.specs.declared.DmWritten.{DmWritten}

-- What is told tells all of them.
one : (r r' : DmIndexed) (index index' report report' : List ℕ) (a : Indexed) → indexed r index report ≡ a → indexed r' index' report' ≡ a
    → (r ≡ r') × (index ≡ index') × (report ≡ report')
one r r' index index' report report' a e f =
    let same = e ∙ sym f in (
      ap (λ (i : Indexed). record { number = i.number; index_length = i.index_length; report_length = i.report_length }) same,
      ap (λ (i : Indexed). i.index) same,
      ap (λ (i : Indexed). i.report) same,
    )

pub dm_index_make : (plate names index report : List ℕ) (r r' : DmIndexed) (out out' notes notes' : List ℕ)
    → indexed r out notes ≡ make_answer plate names index report → indexed r' out' notes' ≡ make_answer plate names index report
    → (r ≡ r') × (out ≡ out') × (notes ≡ notes')
dm_index_make plate names index report r r' out out' notes notes' = one r r' out out' notes notes' (make_answer plate names index report)

pub dm_index_add : (plate name index report : List ℕ) (used noted : ℕ) (r r' : DmIndexed) (out out' notes notes' : List ℕ)
    → indexed r out notes ≡ add_answer plate name index used report noted → indexed r' out' notes' ≡ add_answer plate name index used report noted
    → (r ≡ r') × (out ≡ out') × (notes ≡ notes')
dm_index_add plate name index report used noted r r' out out' notes notes' =
    one r r' out out' notes notes' (add_answer plate name index used report noted)

pub dm_index_find : (plate index name lent : List ℕ) (r r' : DmWritten) (out out' : List ℕ)
    → wrote r out ≡ find_answer plate index name lent → wrote r' out' ≡ find_answer plate index name lent → (r ≡ r') × (out ≡ out')
dm_index_find plate index name lent r r' out out' e f =
    let same = e ∙ sym f in
    (ap (λ (w : Written). record { number = w.number; length = w.length }) same, ap (λ (w : Written). w.buffer) same)
