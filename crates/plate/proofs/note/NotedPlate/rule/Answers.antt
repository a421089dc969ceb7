-- `plate::note::NotedPlate::rule` meets its contract: the place that is noted of a rule is its own. Assumes nothing.
use Rattle.std.proofs.Common.{refl}
use Rattle.plate.proofs.Noting.{placed_room, placed_here, placed_rule}
use Rattle.plate.proofs.note.NotedPlate.rule.Goals as goal

pub bounds-self-i : goal.bounds-self-i
bounds-self-i c =
    let p = c.args.self.now in placed_room p.bytes.now p.places.now p.is_accepted p.is_noted.0 c.args.i c.requires

pub invariant_of-result : goal.invariant_of-result
invariant_of-result c =
    let p = c.args.self.now in
    record { stands = placed_here p.bytes.now p.places.now p.is_accepted p.is_noted.0 c.args.i c.requires }

pub returns : goal.returns
returns c =
    let p = c.args.self.now in
    (refl, placed_rule p.bytes.now p.places.now p.is_accepted p.is_noted.0 c.args.i c.requires)
