-- The variables in which the sections of a process keep states.
use Rattle.std.specs.Prelude.{ℕ, List, ◌++◌, map}
use Rattle.vital_sections.specs.declared.sections.Sections.{Sections}
use Rattle.vital_sections.specs.declared.timing_check.TimingCheck.{TimingCheck}
use Rattle.vital_sections.specs.declared.timing_check.TimingCheck.TheVariants as check

-- The variable in which a check keeps its state.
abbrev pub kept_by : TimingCheck → List ℕ
kept_by (check.SetupHold k) = k.reference.timing_data
kept_by (check.RecoveryRemoval k) = k.reference.timing_data
kept_by (check.PeriodPulse k) = k.period_data

-- Those in which checks and path delays do.
abbrev pub kept : Sections → List (List ℕ)
kept k = map kept_by k.checks ++ map (λ d. d.glitch_data) k.path_delays
