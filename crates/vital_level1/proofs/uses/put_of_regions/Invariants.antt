use Rattle.std.proofs.Common.{◌≡◌, ◌++◌, take}
use Rattle.std.specs.List.{flat_map}
use Rattle.vital_level1.specs.Forms as spec
use Rattle.vital_level1.proofs.uses.put_of_regions.Given as goal

abbrev pub invariant-loop-region : goal.invariant-loop-region
invariant-loop-region l = l.uses.items ≡ l.initial.uses.items ++ flat_map (spec.uses_of_region l.names l.faults) (take l.region-index l.regions)
