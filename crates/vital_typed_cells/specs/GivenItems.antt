-- When what the names in the items of a call stand for, and the tables of the calls there, are in a scope.
use Rattle.std.specs.List.{AllByRecursion}
use Rattle.vital_nodes.specs.Nodes.{Item}
use Rattle.vital_sections.specs.Given.{GivenCall}
use Rattle.vital_typed_cells.specs.Calls.{HasTables}
use Rattle.vital_typed_cells.specs.Positions.{IsScopeOf}
use Rattle.vital_typed_cells.specs.ExprScopes.{Scope}

abbrev pub HasGivenNames : Scope → GivenCall → Type 0
HasGivenNames s k = AllByRecursion (λ i. IsScopeOf s k.context.position (Item i)) k.items

abbrev pub HasGivenTables : Scope → GivenCall → Type 0
HasGivenTables s k = AllByRecursion (λ i. HasTables s k.context (Item i)) k.items
