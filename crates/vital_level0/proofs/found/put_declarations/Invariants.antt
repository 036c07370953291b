use Rattle.std.proofs.Common.{◌≡◌, ◌++◌, drop, false}
use Rattle.std.specs.Prelude.{◌||◌}
use Rattle.std.specs.List.{list_any}
use Rattle.vital_level0.specs.Clauses.{is_level_0}
use Rattle.vital_level0.specs.Found.{of_declarations}
use Rattle.vital_level0.proofs.found.put_declarations.Given as goal

abbrev pub invariant-loop-declaration : goal.invariant-loop-declaration
invariant-loop-declaration l =
    (l.found.items ++ of_declarations l.name l.is_specified (drop l.declaration-index l.declarations) ≡ l.initial.found.items ++ of_declarations l.name false l.declarations)
    × ((l.is_specified || list_any (is_level_0 l.name) (drop l.declaration-index l.declarations)) ≡ list_any (is_level_0 l.name) l.declarations)
