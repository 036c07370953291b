use Rattle.std.proofs.Common.{◌≡◌, map, take, ◌++◌}
use Rattle.std.specs.List.{filter_map}
use Rattle.vital_uses.specs.Parts.{type_of_iface}
use Rattle.vital_uses.proofs.types.put_interface_types.Given as goal

abbrev pub invariant-loop-iface : goal.invariant-loop-iface
invariant-loop-iface l = map (λ y. y.now) l.types.items ≡ map (λ y. y.now) l.initial.types.items ++ filter_map type_of_iface (take l.iface-index l.ifaces)
