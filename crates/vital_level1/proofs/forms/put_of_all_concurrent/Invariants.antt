use Rattle.std.proofs.Common.{◌≡◌, ◌++◌, map, take}
use Rattle.std.specs.List.{flat_map}
use Rattle.vital_level1.specs.Forms as spec
use Rattle.vital_level1.proofs.forms.put_of_all_concurrent.Given as goal

abbrev pub invariant-loop-conc : goal.invariant-loop-conc
invariant-loop-conc l = record {
  broken : l.broken.items ≡ l.initial.broken.items ++ flat_map (spec.broken_concurrent l.names l.faults) (map (λ s. s.now) (take l.conc-index l.statements));
  tables : l.tables.items ≡ l.initial.tables.items ++ flat_map (spec.uses_of_concurrent l.names l.faults) (map (λ s. s.now) (take l.conc-index l.statements));
}
