use Rattle.std.proofs.Common.{◌≡◌, map, take}
use Rattle.std.specs.List.{filter_map}
use Rattle.vital_typed_cells.specs.Wires.{wire}
use Rattle.vital_typed_cells.proofs.wire.read_wires.Given as goal

abbrev pub invariant-loop-conc : goal.invariant-loop-conc
invariant-loop-conc l = l.wires.items ≡ filter_map (wire l.names) (map (λ c. c.now) (take l.conc-index l.statements))
