-- What a call of dm_index_make and dm_index_add tells: the numbers that came back, and both lent buffers afterwards. 02, M-108. Assumes nothing.
use Rattle.std.specs.Prelude.{ℕ, List}
use Rattle.index.specs.Index.{Indexed}
use Rattle.zengilvar.specs.declared.DmIndexed.{DmIndexed}

abbrev pub indexed : DmIndexed → List ℕ → List ℕ → Indexed
indexed r index report =
    record { number = r.number; index_length = r.index_length; report_length = r.report_length; index = index; report = report }
