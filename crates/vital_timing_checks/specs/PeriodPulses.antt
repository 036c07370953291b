-- The check of periods and pulse widths (IEEE 1076.4, package VITAL_Timing, VitalPeriodPulseCheck).
use Rattle.std.specs.Prelude.{ℕ, Bool, ◌≤◌, Option, Some, None, if◌then◌else◌}
use Rattle.std.specs.Option.{IfSome, option_map_or, option_or}
use Rattle.vital_logic.specs.declared.level.Level.{Level}
use Rattle.vital_logic.specs.declared.level.Level.TheVariants.{Zero, One}
use Rattle.vital_timing_checks.specs.declared.limits.PulseLimits.{PulseLimits}
use Rattle.vital_timing_checks.specs.declared.period_pulse.PeriodPulse.{PeriodPulse}
use Rattle.vital_timing_checks.specs.declared.violated.CheckKind.TheVariants.{Period, Pulse}
use Rattle.vital_timing_checks.specs.declared.violated.Violated.{Violated}
use Rattle.vital_timing_checks.specs.Levels.{differ, x01}
use Rattle.vital_timing_checks.specs.Violations.{violated_since}

-- Before the first call nothing is stored and no time is known.
abbrev pub unused : PeriodPulse
unused = record { level = None; rise = None; fall = None }

-- No kept time is above now.
abbrev pub NoneAbove : ℕ → PeriodPulse → Type 0
NoneAbove now kept = IfSome kept.rise (λ time. time ≤ now) × IfSome kept.fall (λ time. time ≤ now)

-- Period: a change to 1 is tested by the time since Rise, and a change to 0 by the time since Fall.
abbrev pub period_found : PeriodPulse → ℕ → PulseLimits → Level → Option Violated
period_found kept now limits One = violated_since (record { kind = Period; limit = limits.period }) kept.rise now
period_found kept now limits Zero = violated_since (record { kind = Period; limit = limits.period }) kept.fall now
period_found kept now limits _ = None

-- Pulse: a change from 0 is tested by the time since Fall against PulseWidthLow, and a change from 1 by the time since Rise against
-- PulseWidthHigh.
abbrev pub pulse_found : PeriodPulse → ℕ → PulseLimits → Level → Option Violated
pulse_found kept now limits Zero = violated_since (record { kind = Pulse; limit = limits.low }) kept.fall now
pulse_found kept now limits One = violated_since (record { kind = Pulse; limit = limits.high }) kept.rise now
pulse_found kept now limits _ = None

-- A change to 1 sets Rise to now, and a change to 0 sets Fall to now. The new level is stored.
abbrev pub noted : PeriodPulse → ℕ → Level → PeriodPulse
noted kept now One = record { level = Some One; rise = Some now; fall = kept.fall }
noted kept now Zero = record { level = Some Zero; rise = kept.rise; fall = Some now }
noted kept now new = record kept { level = Some new }

-- One call: what is kept after it, and the violation that it finds. The first call only stores To_X01 of the test signal. In a later
-- one nothing happens where that is unchanged; else period is tested where the check is enabled, and pulse only if that found nothing.
abbrev pub period_pulse_change : PeriodPulse → ℕ → Level → Level → PulseLimits → Bool → PeriodPulse × Option Violated
period_pulse_change kept now old new limits enabled = (
  noted kept now new,
  if enabled then option_or (period_found kept now limits new) (pulse_found kept now limits old) else None,
)

abbrev pub period_pulse_step : PeriodPulse → ℕ → Level → PulseLimits → Bool → PeriodPulse × Option Violated
period_pulse_step kept now test limits enabled =
    option_map_or
    (λ old. if differ old (x01 test) then period_pulse_change kept now old (x01 test) limits enabled else (kept, None))
    kept.level
    (record kept { level = Some (x01 test) }, None)
