use Rattle.std.proofs.Common.{◌≡◌, map, take}
use Rattle.std.specs.List.{filter_map}
use Rattle.vital_uses.specs.Statements.{process}
use Rattle.vital_uses.proofs.statements.processes_among.Given as goal

abbrev pub invariant-loop-conc : goal.invariant-loop-conc
invariant-loop-conc l = l.processes.items ≡ filter_map process (map (λ y. y.now) (take l.conc-index l.statements))
