-- What a call of the library tells: the numbers that came back, and the lent buffer afterwards. 01, "Numbers that come back": "Build answers number, line and
-- plate length [..]. Encode and list answer number and count of codes, 0 on refusal." 02, M-101: and the place. Assumes nothing.
use Rattle.std.specs.Prelude.{ℕ, List}
use Rattle.builder.specs.Build.{Built}
use Rattle.coder.specs.Answer.{Coded}
use Rattle.zengilvar.specs.declared.DmBuilt.{DmBuilt}
use Rattle.zengilvar.specs.declared.DmCoded.{DmCoded}

abbrev pub built : DmBuilt → List ℕ → Built
built r out = record { number = r.number; line = r.line; length = r.length; buffer = out }

abbrev pub coded : DmCoded → List ℕ → Coded
coded r out = record { number = r.number; count = r.count; place = r.place; buffer = out }
