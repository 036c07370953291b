use Rattle.std.proofs.Common.{◌≡◌, ◌++◌, take}
use Rattle.std.specs.List.{flat_map}
use Rattle.vital_level0.specs.Found.{of_statement}
use Rattle.vital_level0.proofs.found.put_statements.Given as goal

abbrev pub invariant-loop-statement : goal.invariant-loop-statement
invariant-loop-statement l = l.found.items ≡ l.initial.found.items ++ flat_map of_statement (take l.statement-index l.statements)
