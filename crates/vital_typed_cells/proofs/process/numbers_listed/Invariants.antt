use Rattle.std.proofs.Common.{◌≡◌, take}
use Rattle.std.specs.List.{filter_map}
use Rattle.vital_typed_cells.specs.Processes.{number_listed}
use Rattle.vital_typed_cells.proofs.process.numbers_listed.Given as goal

abbrev pub invariant-loop-name : goal.invariant-loop-name
invariant-loop-name l = l.numbers.items ≡ filter_map (number_listed l.bits) (take l.name-index l.names)
