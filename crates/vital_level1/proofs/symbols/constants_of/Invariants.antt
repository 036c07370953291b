use Rattle.std.proofs.Common.{take}
use Rattle.std.specs.List.{flat_map}
use Rattle.vital_level1.specs.Kept.{HasConstants}
use Rattle.vital_level1.specs.Uses.{declared_in}
use Rattle.vital_level1.proofs.symbols.constants_of.Given as goal

abbrev pub invariant-loop-region : goal.invariant-loop-region
invariant-loop-region l = HasConstants l.constants (flat_map declared_in (take l.region-index l.regions))
