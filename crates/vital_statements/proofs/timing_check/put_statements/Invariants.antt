use Rattle.std.proofs.Common.{◌≡◌, ◌++◌, take}
use Rattle.std.specs.List.{list_any}
use Rattle.vital_statements.specs.Clauses.{places_11_at}
use Rattle.vital_statements.specs.Lists.{each}
use Rattle.vital_statements.specs.Statements.{is_if}
use Rattle.vital_statements.proofs.timing_check.put_statements.Given as goal

abbrev pub invariant-loop-stmt : goal.invariant-loop-stmt
invariant-loop-stmt l = record {
  places : l.places.items ≡ l.initial.places.items ++ each (places_11_at l.names l.process) (take l.stmt-index l.statements);
  has_if : l.has_if ≡ list_any is_if (take l.stmt-index l.statements);
}
