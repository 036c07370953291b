use Rattle.std.proofs.Common.{◌≡◌, map, take}
use Rattle.std.specs.List.{enumerate_from}
use Rattle.vital_limits.specs.ConstantLimits.{constant_limits}
use Rattle.vital_package_constants.specs.Breaches.{constant_breaches}
use Rattle.vital_typed_cells.specs.Packages.{if_sound}
use Rattle.vital_typed_cells.proofs.sound_packages.kept_values.Given as goal

abbrev pub invariant-loop-number : goal.invariant-loop-number
invariant-loop-number l = l.kept.items ≡ map (if_sound (constant_breaches l.packages) (constant_limits l.packages)) (enumerate_from 0 (take l.number l.values))
