-- The check of recovery and removal (IEEE 1076.4, package VITAL_Timing, VitalRecoveryRemovalCheck).
use Rattle.std.specs.Prelude.{ℕ, Bool, Option, Some, None, if◌then◌else◌}
use Rattle.vital_edges.specs.declared.edge_set.EdgeSet.{EdgeSet}
use Rattle.vital_logic.specs.declared.level.Level.{Level}
use Rattle.vital_timing_checks.specs.declared.limits.RecoveryLimits.{RecoveryLimits}
use Rattle.vital_timing_checks.specs.declared.rec_rem.RecRem.{RecRem}
use Rattle.vital_timing_checks.specs.declared.timing_data.EventTests.{EventTests}
use Rattle.vital_timing_checks.specs.declared.violated.CheckKind.TheVariants.{Recovery, Removal}
use Rattle.vital_timing_checks.specs.declared.violated.Violated.{Violated}
use Rattle.vital_timing_checks.specs.Levels.{x01}
use Rattle.vital_timing_checks.specs.Limits.{is_active}
use Rattle.vital_timing_checks.specs.TimingSteps as timing

-- Before the first call.
abbrev pub unused : RecRem
unused = record { kept = timing.unused }

-- No kept time is above now.
abbrev pub NoneAbove : ℕ → RecRem → Type 0
NoneAbove now check = timing.NoneAbove now check.kept

-- A reference edge has recovery tested, and a test event has removal tested, each only where To_X01 of the test signal isn't the
-- active level.
abbrev pub rec_rem_tests : RecoveryLimits → Level → EventTests
rec_rem_tests limits test =
    if is_active limits (x01 test) then record { on_reference = None; on_test = None }
    else record {
      on_reference = Some (record { kind = Recovery; limit = limits.recovery });
      on_test = Some (record { kind = Removal; limit = limits.removal });
    }

-- One call: what is kept after it, and the violation that it finds.
abbrev pub rec_rem_step : RecRem → ℕ → Level → Level → EdgeSet → RecoveryLimits → Bool → RecRem × Option Violated
rec_rem_step check now test reference edges limits enabled =
    let step = timing.timing_step check.kept now test reference edges (rec_rem_tests limits test) enabled in
    (record { kept = step.0 }, step.1)
