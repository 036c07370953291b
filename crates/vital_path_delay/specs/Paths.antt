-- The delay of an output by the paths that lead to it (IEEE 1076.4, package VITAL_Timing, VitalPathDelay).
use Rattle.std.specs.Prelude.{ℕ, ◌-◌, ◌==◌, nat_lt, min, List, map, filter, Option, Some, None, unwrap_or, if◌then◌else◌}
use Rattle.std.specs.List.{reduce}
use Rattle.std.specs.Option.{option_and_then}
use Rattle.vital_logic.specs.declared.level.Level.{Level}
use Rattle.vital_timing.specs.declared.delay.Delay.{Delay}
use Rattle.vital_path_delay.specs.declared.path.Path.{Path}
use Rattle.vital_path_delay.specs.Changes.{calc_delay}

-- The paths that are enabled.
abbrev pub enabled : List Path → List Path
enabled paths = filter (λ path. path.on) paths

-- The paths of an age.
abbrev pub of_age : ℕ → List Path → List Path
of_age age paths = filter (λ path. path.age == age) paths

-- The ages of paths.
abbrev pub ages : List Path → List ℕ
ages paths = map (λ path. path.age) paths

-- What each path takes for a change.
abbrev pub delays : Level → Level → List Path → List ℕ
delays new old paths = map (λ path. calc_delay new old path.delay) paths

-- What is left of a delay after an age; nothing where the age is greater.
abbrev pub left_after : ℕ → ℕ → Option ℕ
left_after age delay = if nat_lt delay age then None else Some (delay - age)

-- What is left of the least delay of those of some paths that are of an age.
abbrev pub left_of : Level → Level → List Path → ℕ → Option ℕ
left_of new old paths age = option_and_then (left_after age) (reduce min (delays new old (of_age age paths)))

-- The same of the enabled paths of least age; else what the default takes.
abbrev pub select : List Path → Level → Level → Delay → ℕ
select paths new old default =
    unwrap_or (option_and_then (left_of new old (enabled paths)) (reduce min (ages (enabled paths)))) (calc_delay new old default)
