-- `standard_plate` meets its contract: the constant is the plate that antt builds of the standard rules. Assumes nothing.
use mathlib.Core.Path.{refl}
use Rattle.standard.proofs.Constant.{constant_built, constant_accepted}
use Rattle.standard.proofs.standard_plate.Goals as goal

pub returns : goal.returns
returns c = record { value = constant_built; is_plate = constant_accepted; len = refl }
