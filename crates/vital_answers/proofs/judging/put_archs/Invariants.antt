use Rattle.std.proofs.Common.{◌≡◌, ◌++◌, map, take}
use Rattle.vital_library.specs.Units.{archs_of_entity}
use Rattle.vital_answers.specs.Cells.{cell_with}
use Rattle.vital_answers.specs.Kept.{lent}
use Rattle.vital_answers.proofs.judging.put_archs.Given as goal

abbrev pub invariant-loop-arch : goal.invariant-loop-arch
invariant-loop-arch l =
    map (lent l.library) l.found.items ≡ map (lent l.library) l.initial.found.items ++ map (cell_with l.library l.entity) (take l.arch (archs_of_entity l.number l.library))
