-- The limits of checks for the level of the test signal, which is X, 0 or 1 (IEEE 1076.4, package VITAL_Timing).
use Rattle.std.specs.Prelude.{ℕ, Bool, false, not, max}
use Rattle.vital_logic.specs.declared.level.Level.{Level}
use Rattle.vital_logic.specs.declared.level.Level.TheVariants.{Zero, One}
use Rattle.vital_timing_checks.specs.declared.limits.SetupLimits.{SetupLimits}
use Rattle.vital_timing_checks.specs.declared.limits.RecoveryLimits.{RecoveryLimits}

-- Setup: SetupLow for 0, SetupHigh for 1, else the greater of both.
abbrev pub setup_limit : SetupLimits → Level → ℕ
setup_limit limits Zero = limits.setup_low
setup_limit limits One = limits.setup_high
setup_limit limits _ = max limits.setup_low limits.setup_high

-- Hold: HoldHigh for a change to 0, HoldLow for a change to 1, else the greater of both.
abbrev pub hold_limit : SetupLimits → Level → ℕ
hold_limit limits Zero = limits.hold_high
hold_limit limits One = limits.hold_low
hold_limit limits _ = max limits.hold_low limits.hold_high

-- Recovery and removal: is the level the active one, 0 where ActiveLow, else 1?
abbrev pub is_active : RecoveryLimits → Level → Bool
is_active limits Zero = limits.active_low
is_active limits One = not limits.active_low
is_active limits _ = false
