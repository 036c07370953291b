use Rattle.std.proofs.Common.{◌≡◌, ◌++◌, map, take}
use Rattle.vital_names.specs.Declarations.{Generic, lent}
use Rattle.vital_names.proofs.declared_lists.put_generics.Given as goal

abbrev pub invariant-loop-generic : goal.invariant-loop-generic
invariant-loop-generic l = map lent l.declared.items ≡ map lent l.initial.declared.items ++ map (λ i. Generic i) (take l.generic-index l.generics)
