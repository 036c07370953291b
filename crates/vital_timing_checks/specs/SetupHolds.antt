-- The check of setup and hold (IEEE 1076.4, package VITAL_Timing, VitalSetupHoldCheck).
use Rattle.std.specs.Prelude.{ℕ, Bool, Option, Some}
use Rattle.vital_edges.specs.declared.edge_set.EdgeSet.{EdgeSet}
use Rattle.vital_logic.specs.declared.level.Level.{Level}
use Rattle.vital_timing_checks.specs.declared.limits.SetupLimits.{SetupLimits}
use Rattle.vital_timing_checks.specs.declared.setup_hold.SetupHold.{SetupHold}
use Rattle.vital_timing_checks.specs.declared.timing_data.EventTests.{EventTests}
use Rattle.vital_timing_checks.specs.declared.violated.CheckKind.TheVariants.{Hold, Setup}
use Rattle.vital_timing_checks.specs.declared.violated.Violated.{Violated}
use Rattle.vital_timing_checks.specs.Levels.{x01}
use Rattle.vital_timing_checks.specs.Limits.{hold_limit, setup_limit}
use Rattle.vital_timing_checks.specs.TimingSteps as timing

-- Before the first call.
abbrev pub unused : SetupHold
unused = record { kept = timing.unused }

-- No kept time is above now.
abbrev pub NoneAbove : ℕ → SetupHold → Type 0
NoneAbove now check = timing.NoneAbove now check.kept

-- A reference edge has setup tested, and a test event has hold tested, each against the limit for To_X01 of the test signal.
abbrev pub setup_hold_tests : SetupLimits → Level → EventTests
setup_hold_tests limits test =
    record {
      on_reference = Some (record { kind = Setup; limit = setup_limit limits (x01 test) });
      on_test = Some (record { kind = Hold; limit = hold_limit limits (x01 test) });
    }

-- One call: what is kept after it, and the violation that it finds.
abbrev pub setup_hold_step : SetupHold → ℕ → Level → Level → EdgeSet → SetupLimits → Bool → SetupHold × Option Violated
setup_hold_step check now test reference edges limits enabled =
    let step = timing.timing_step check.kept now test reference edges (setup_hold_tests limits test) enabled in
    (record { kept = step.0 }, step.1)
