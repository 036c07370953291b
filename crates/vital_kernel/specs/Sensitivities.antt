-- The signals to which the processes of an instance of a cell are sensitive.
use Rattle.std.specs.Prelude.{ℕ, List, map, slice_get}
use Rattle.std.specs.List.{filter_map}
use Rattle.vital_cell.specs.Execution.{all_executed}
use Rattle.vital_kernel.specs.Networks.{NetCell, bits_listed}

-- For each of its processes, in order, the numbers of these signals.
abbrev pub sensitivities_of : NetCell → List (List ℕ)
sensitivities_of c = map (λ x. filter_map (slice_get c.wires) (bits_listed c.tree x)) (all_executed c.tree)
