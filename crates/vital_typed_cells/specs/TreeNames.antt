-- The names that the typed tree of a cell declares.
use Rattle.std.specs.Prelude.{ℕ, List, ◌++◌, map}
use Rattle.vital_typed_cells.specs.declared.typed_cell.TypedCell.{TypedCell}
use Rattle.vital_typed_cells.specs.declared.process.CellProcess.{CellProcess}

-- Those of its ports, generics, internal signals and constants.
abbrev pub names_of_cell : TypedCell → List (List ℕ)
names_of_cell c =
    map (λ p. p.name) c.ports ++ map (λ g. g.name) c.generics ++ map (λ g. g.name) c.plain_generics ++ map (λ s. s.name) c.signals
    ++ map (λ k. k.name) c.constants

-- Those of the constants and variables of a process.
abbrev pub names_of_process : CellProcess → List (List ℕ)
names_of_process p = map (λ k. k.name) p.constants ++ map (λ v. v.name) p.variables
