use Rattle.std.proofs.Common.{◌≡◌, ◌++◌, take}
use Rattle.std.specs.List.{flat_map}
use Rattle.vital_typed_declarations.specs.Declarations as spec
use Rattle.vital_typed_declarations.proofs.declaration.put_broken_in_regions.Given as goal

abbrev pub invariant-loop-region : goal.invariant-loop-region
invariant-loop-region l = l.broken.items ≡ l.initial.broken.items ++ flat_map (spec.broken_in_region l.names l.faults) (take l.region-index l.regions)
