use Rattle.std.proofs.Common.{◌≡◌, take, map}
use Rattle.std.specs.Prelude.{fold}
use Rattle.vital_library.specs.Faults.{no_entity, sooner}
use Rattle.vital_library.specs.Names.{without_name}
use Rattle.vital_library.specs.Positions.{units_in}
use Rattle.vital_library.proofs.faults.least_without_entity.Given as goal

abbrev pub invariant-loop-at : goal.invariant-loop-at
invariant-loop-at l = l.least ≡ fold sooner l.initial.least (map no_entity (without_name l.names (units_in (take l.at-index l.units))))
