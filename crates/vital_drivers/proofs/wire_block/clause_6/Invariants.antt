use Rattle.std.proofs.Common.{◌≡◌, take}
use Rattle.std.specs.List.{flat_map}
use Rattle.vital_drivers.specs.Clauses.{places_6_in}
use Rattle.vital_drivers.proofs.wire_block.clause_6.Given as goal

abbrev pub invariant-loop-conc : goal.invariant-loop-conc
invariant-loop-conc l = l.places.items ≡ flat_map (places_6_in l.names) (take l.conc-index l.conc-items)
