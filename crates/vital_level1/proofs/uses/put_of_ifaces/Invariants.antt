use Rattle.std.proofs.Common.{◌≡◌, ◌++◌, map, take}
use Rattle.std.specs.List.{flat_map}
use Rattle.vital_level1.specs.Forms as spec
use Rattle.vital_typed_declarations.specs.Declarations.{lent_sited}
use Rattle.vital_level1.proofs.uses.put_of_ifaces.Given as goal

abbrev pub invariant-loop-iface : goal.invariant-loop-iface
invariant-loop-iface l = l.uses.items ≡ l.initial.uses.items ++ flat_map (spec.uses_of_iface l.names l.faults) (map lent_sited (take l.iface-index l.ifaces))
