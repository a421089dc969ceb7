-- `plate::read::RuleAt::field_place` meets its contract: each field begins where the one before ends (Parts.place_vowel, place_other). Assumes
-- nothing.
use Rattle.std.proofs.Common.{arith}
use Rattle.plate.specs.declared.FieldKind.TheVariants.{Vowel, Other}
use Rattle.plate.proofs.Parts.{place_vowel, place_other, vowel_near, field_near}
use Rattle.plate.proofs.read.RuleAt.field_place.Goals as goal

pub field_end-requires-in-Other-2 : goal.field_end-requires-in-Other-2
field_end-requires-in-Other-2 c =
    let r = c.args.self.now in
    omega (
      arith,
      r.stands.near,
      vowel_near r.bytes.now r.at r.stands c.size.result c.size.ensures.0 c.field_end-in-Other.result c.field_end-in-Other.ensures,
    )

pub returns-in-Vowel : goal.returns-in-Vowel
returns-in-Vowel c =
    let r = c.args.self.now in
    let is = place_vowel r.bytes.now r.at c.size.result c.size.ensures.0 c.field_end.result c.field_end.ensures in
    rw c.in-Vowel.is (is, field_near r.bytes.now r.at r.stands Vowel _ is)

pub returns-in-Other : goal.returns-in-Other
returns-in-Other c =
    let r = c.args.self.now in
    let is = place_other r.bytes.now r.at c.size.result c.size.ensures.0 c.field_end-in-Other.result c.field_end-in-Other.ensures
    c.field_end-in-Other-2.result c.field_end-in-Other-2.ensures in
    rw c.in-Other.is (is, field_near r.bytes.now r.at r.stands Other _ is)
