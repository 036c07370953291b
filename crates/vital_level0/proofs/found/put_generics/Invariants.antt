use Rattle.std.proofs.Common.{◌≡◌, ◌++◌, take}
use Rattle.std.specs.List.{flat_map}
use Rattle.vital_level0.specs.Found.{of_generic}
use Rattle.vital_level0.proofs.found.put_generics.Given as goal

abbrev pub invariant-loop-generic : goal.invariant-loop-generic
invariant-loop-generic l = l.found.items ≡ l.initial.found.items ++ flat_map (of_generic l.ports) (take l.generic-index l.generics)
