-- What the constants of the packages of a library are worth that break no clause and pass no limit.
use Rattle.std.specs.Prelude.{ℕ, Bool, ◌||◌, List, map, Option, None, if◌then◌else◌}
use Rattle.std.specs.List.{enumerate_from}
use Rattle.vital_limits.specs.ConstantLimits.{constant_limits, limits_at}
use Rattle.vital_limits.specs.declared.packages.ConstantLimits.{ConstantLimits}
use Rattle.vital_nodes.specs.declared.unit.Units.{Units}
use Rattle.vital_objects.specs.declared.package_value.PackageValue.{PackageValue}
use Rattle.vital_objects.specs.PackageValues.{package_values}
use Rattle.vital_package_constants.specs.Breaches.{breaches_at, breaks_any, constant_breaches}
use Rattle.vital_package_constants.specs.declared.breaches.ConstantBreaches.{ConstantBreaches}

abbrev pub passes_any : ConstantLimits → Bool
passes_any l = l.rows || (l.columns || l.delay)

-- The constant of a number breaks a clause or passes a limit.
abbrev pub is_unsound : List ConstantBreaches → List ConstantLimits → ℕ → Bool
is_unsound breaches limits n = breaks_any (breaches_at breaches n) || passes_any (limits_at limits n)

-- A value with its number is kept where its constant does not.
abbrev pub if_sound : List ConstantBreaches → List ConstantLimits → (ℕ × Option PackageValue) → Option PackageValue
if_sound breaches limits v = if is_unsound breaches limits v.0 then None else v.1

-- The values of all constants, in their order.
abbrev pub kept_values : List ConstantBreaches → List ConstantLimits → List (Option PackageValue) → List (Option PackageValue)
kept_values breaches limits values = map (if_sound breaches limits) (enumerate_from 0 values)

unfoldable pub sound_values : List Units → List (Option PackageValue)
sound_values files = kept_values (constant_breaches files) (constant_limits files) (package_values files)
