use Rattle.std.proofs.Common.{◌≡◌, ◌++◌, map, take}
use Rattle.std.specs.List.{filter_map}
use Rattle.vital_typed_cells.specs.Bits.{number_of}
use Rattle.vital_netlist.proofs.driven.put_process.Given as goal

abbrev pub invariant-loop-path_delay : goal.invariant-loop-path_delay
invariant-loop-path_delay l = l.driven.items ≡ l.initial.driven.items ++ filter_map (number_of l.bits) (map (λ d. d.out_signal) (take l.path_delay-index l.process.sections.path_delays))
