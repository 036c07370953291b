use Rattle.std.proofs.Common.{◌≡◌, ℕ, List, take}
use Rattle.vital_library.specs.Faults.{has_entity}
use Rattle.vital_library.specs.Names.{has_name}
use Rattle.vital_library.specs.Positions.{units_in}
use Rattle.vital_library.proofs.faults.entity_names.Given as goal

abbrev pub invariant-loop-at : goal.invariant-loop-at
invariant-loop-at l = (name : List ℕ) → has_name l.names name ≡ has_entity (units_in (take l.at-index l.units)) name
