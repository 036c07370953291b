use Rattle.std.proofs.Common.{◌≡◌, map, take}
use Rattle.std.specs.Option.{option_copied}
use Rattle.vital_names.specs.Declarations.{lent}
use Rattle.vital_names.specs.Redeclared.{redeclared}
use Rattle.vital_names.proofs.cell_names.CellNames.redeclared.Given as goal

abbrev pub invariant-loop-one : goal.invariant-loop-one
invariant-loop-one l = l.places.items ≡ redeclared l.self l.unit (option_copied l.process) (map lent (take l.one-index l.declared))
