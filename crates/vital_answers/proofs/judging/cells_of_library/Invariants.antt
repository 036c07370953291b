use Rattle.std.proofs.Common.{◌≡◌, map, take}
use Rattle.std.specs.List.{flat_map}
use Rattle.vital_library.specs.Units.{entities}
use Rattle.vital_answers.specs.Cells.{cells_of}
use Rattle.vital_answers.specs.Kept.{lent}
use Rattle.vital_answers.proofs.judging.cells_of_library.Given as goal

abbrev pub invariant-loop-entity : goal.invariant-loop-entity
invariant-loop-entity l = map (lent l.library) l.found.items ≡ flat_map (cells_of l.library) (take l.entity (entities l.library))
