use Rattle.std.proofs.Common.{◌≡◌, ◌++◌, map, take}
use Rattle.vital_structure.specs.Statements.{lent, statement_of}
use Rattle.vital_structure.proofs.statement.put_statements.Given as goal

abbrev pub invariant-loop-conc : goal.invariant-loop-conc
invariant-loop-conc l = map lent l.statements.items ≡ map lent l.initial.statements.items ++ map statement_of (take l.conc-index l.concurrent)
