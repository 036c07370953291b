use Rattle.std.proofs.Common.{◌≡◌, ◌++◌, map, take}
use Rattle.std.specs.List.{filter_map}
use Rattle.vital_typed_cells.specs.Bits.{number_of}
use Rattle.vital_netlist.proofs.driven.put_wires.Given as goal

abbrev pub invariant-loop-wire : goal.invariant-loop-wire
invariant-loop-wire l = l.driven.items ≡ l.initial.driven.items ++ filter_map (number_of l.bits) (map (λ w. w.signal) (take l.wire-index l.wires))
