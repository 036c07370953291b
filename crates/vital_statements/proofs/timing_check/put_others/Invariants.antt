use Rattle.std.proofs.Common.{◌≡◌, ◌++◌, take}
use Rattle.vital_statements.specs.Clauses.{others_than_checks}
use Rattle.vital_statements.proofs.timing_check.put_others.Given as goal

abbrev pub invariant-loop-stmt : goal.invariant-loop-stmt
invariant-loop-stmt l = l.places.items ≡ l.initial.places.items ++ others_than_checks l.names l.process (take l.stmt-index l.statements)
