use Rattle.std.proofs.Common.{◌≡◌, ◌++◌, map, take}
use Rattle.std.specs.List.{flat_map}
use Rattle.vital_typed_declarations.specs.Declarations as spec
use Rattle.vital_typed_declarations.specs.Declarations.{lent_sited}
use Rattle.vital_typed_declarations.proofs.interface.put_broken_generics.Given as goal

abbrev pub invariant-loop-generic : goal.invariant-loop-generic
invariant-loop-generic l = l.broken.items ≡ l.initial.broken.items ++ flat_map (spec.broken_generic l.names l.faults) (map lent_sited (take l.generic-index l.generics))
