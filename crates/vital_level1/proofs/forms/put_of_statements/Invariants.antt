use Rattle.std.proofs.Common.{◌≡◌, ◌++◌, map, take}
use Rattle.std.specs.List.{flat_map}
use Rattle.vital_level1.specs.Forms as spec
use Rattle.vital_level1.proofs.forms.put_of_statements.Given as goal

abbrev pub invariant-loop-stmt : goal.invariant-loop-stmt
invariant-loop-stmt l = record {
  broken : l.broken.items ≡ l.initial.broken.items ++ flat_map (spec.broken_statement l.names l.faults l.process) (map (λ s. s.now) (take l.stmt-index l.statements));
  tables : l.tables.items ≡ l.initial.tables.items ++ flat_map (spec.uses_of_statement l.names l.faults l.process) (map (λ s. s.now) (take l.stmt-index l.statements));
}
