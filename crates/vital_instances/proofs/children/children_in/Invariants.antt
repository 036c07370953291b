use Rattle.std.proofs.Common.{◌≡◌, [], map, drop}
use Rattle.vital_structure.specs.Statements as of_statements
use Rattle.vital_structure.specs.Structures.{signals_of}
use Rattle.vital_instances.specs.Children.{children_behind, lent}
use Rattle.vital_instances.proofs.children.children_in.Given as goal

abbrev pub invariant-loop-statement : goal.invariant-loop-statement
invariant-loop-statement l =
    children_behind l.library (signals_of l.structure) [] (map of_statements.lent l.statements)
    ≡ children_behind l.library (signals_of l.structure) (map lent l.found.items) (map of_statements.lent (drop l.statement-index l.statements))
