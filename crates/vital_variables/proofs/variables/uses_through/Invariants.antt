use Rattle.std.proofs.Common.{◌≡◌, map, take}
use Rattle.std.specs.List.{filter_map}
use Rattle.vital_uses.specs.NamesAt.{lent_name}
use Rattle.vital_variables.specs.Variables.{use_through}
use Rattle.vital_variables.proofs.variables.uses_through.Given as goal

abbrev pub invariant-loop-identifier : goal.invariant-loop-identifier
invariant-loop-identifier l = map lent_name l.uses.items ≡ filter_map (use_through l.names l.process) (map (λ y. y.now) (take l.identifier-index l.identifiers))
