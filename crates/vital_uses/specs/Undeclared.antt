-- Names that are neither declared nor predeclared: clause L1.16 of Level 1.
use Rattle.std.specs.Prelude.{List, ◌++◌, filter, map, is_none}
use Rattle.std.specs.List.{flat_map}
use Rattle.vital_base.specs.declared.place.Place.{Place}
use Rattle.vital_nodes.specs.declared.expr.Reference.{Reference}
use Rattle.vital_nodes.specs.declared.stmt.Process.{Process}
use Rattle.vital_nodes.specs.Places.{place_of_name}
use Rattle.vital_names.specs.Sites.{Cell}
use Rattle.vital_names.specs.TypeNames.{type_named}
use Rattle.vital_uses.specs.Asked.{Asked, asked}
use Rattle.vital_uses.specs.Nodes.{nodes_of_process, nodes_outside_processes, types}
use Rattle.vital_uses.specs.Statements.{processes}

-- Those identifiers that mean nothing where they stand. A unit of time means itself, so no unit of time is among them.
abbrev pub undeclared : List Asked → List Place
undeclared as' = map (λ a. a.identifier.place) (filter (λ a. is_none a.meaning) as')

-- Those names of types that are none of the predeclared types.
abbrev pub unknown_types : List Reference → List Place
unknown_types rs = map place_of_name (filter (λ r. is_none (type_named r)) rs)

abbrev pub undeclared_in : Cell → Process → List Place
undeclared_in cell p = undeclared (asked cell (nodes_of_process p))

-- Each name of a cell that is neither declared nor predeclared.
abbrev pub clause_16 : Cell → List Place
clause_16 cell =
    undeclared (asked cell (nodes_outside_processes cell))
    ++ flat_map (undeclared_in cell) (processes cell.arch)
    ++ unknown_types (types cell)
