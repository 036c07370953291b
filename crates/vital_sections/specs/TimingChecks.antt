-- Calls of timing checks (IEEE 1076.4, VitalSetupHoldCheck, VitalRecoveryRemovalCheck and VitalPeriodPulseCheck) by what is given for
-- their formals.
use Rattle.std.specs.Prelude.{ℕ, List, Option, codes}
use Rattle.std.specs.Option.{option_and_then, option_map}
use Rattle.vital_calls.specs.declared.actual_form.ActualForm.TheVariants as form
use Rattle.vital_names.specs.declared.predeclared.Check.{Check}
use Rattle.vital_names.specs.declared.predeclared.Check.TheVariants as check
use Rattle.vital_sections.specs.declared.timing_check.CheckParts.{CheckParts}
use Rattle.vital_sections.specs.declared.timing_check.PeriodPulseCheck.{PeriodPulseCheck}
use Rattle.vital_sections.specs.declared.timing_check.RecoveryRemovalCheck.{RecoveryRemovalCheck}
use Rattle.vital_sections.specs.declared.timing_check.ReferenceParts.{ReferenceParts}
use Rattle.vital_sections.specs.declared.timing_check.SetupHoldCheck.{SetupHoldCheck}
use Rattle.vital_sections.specs.declared.timing_check.TimingCheck.{TimingCheck}
use Rattle.vital_sections.specs.declared.timing_check.TimingCheck.TheVariants as checks
use Rattle.vital_sections.specs.Given.{GivenCall, edge_given, name_given, time_given, truth_given}

-- ---- what every check has

abbrev pub parts_with : GivenCall → List ℕ → List ℕ → CheckParts
parts_with k violation test = record {
  violation = violation;
  test_signal = test;
  check_enabled = truth_given k (codes "checkenabled");
  x_on = truth_given k (codes "xon");
  msg_on = truth_given k (codes "msgon");
}

abbrev pub with_test : GivenCall → List ℕ → Option CheckParts
with_test k violation = option_map (parts_with k violation) (name_given k (codes "testsignal") form.Signal)

abbrev pub parts : GivenCall → Option CheckParts
parts k = option_and_then (with_test k) (name_given k (codes "violation") form.Violation)

-- ---- what a check of two signals has besides

abbrev pub reference_with : List ℕ → List ℕ → ℕ → ReferenceParts
reference_with timing_data signal edge = record { timing_data = timing_data; ref_signal = signal; ref_transition = edge }

abbrev pub with_edge : GivenCall → List ℕ → List ℕ → Option ReferenceParts
with_edge k timing_data signal = option_map (reference_with timing_data signal) (edge_given k)

abbrev pub with_signal : GivenCall → List ℕ → Option ReferenceParts
with_signal k timing_data = option_and_then (with_edge k timing_data) (name_given k (codes "refsignal") form.Signal)

abbrev pub reference : GivenCall → Option ReferenceParts
reference k = option_and_then (with_signal k) (name_given k (codes "timingdata") form.TimingData)

-- ---- checks

abbrev pub setup_hold_with : GivenCall → CheckParts → ReferenceParts → SetupHoldCheck
setup_hold_with k p r = record {
  parts = p;
  reference = r;
  setup_high = time_given k (codes "setuphigh");
  setup_low = time_given k (codes "setuplow");
  hold_high = time_given k (codes "holdhigh");
  hold_low = time_given k (codes "holdlow");
}

abbrev pub recovery_removal_with : GivenCall → CheckParts → ReferenceParts → RecoveryRemovalCheck
recovery_removal_with k p r = record {
  parts = p;
  reference = r;
  recovery = time_given k (codes "recovery");
  removal = time_given k (codes "removal");
  active_low = truth_given k (codes "activelow");
}

abbrev pub period_pulse_with : GivenCall → CheckParts → List ℕ → PeriodPulseCheck
period_pulse_with k p period_data = record {
  parts = p;
  period_data = period_data;
  period = time_given k (codes "period");
  pulse_width_high = time_given k (codes "pulsewidthhigh");
  pulse_width_low = time_given k (codes "pulsewidthlow");
}

abbrev pub check_with : GivenCall → Check → CheckParts → Option TimingCheck
check_with k check.SetupHold p = option_map (λ r. checks.SetupHold (setup_hold_with k p r)) (reference k)
check_with k check.RecoveryRemoval p = option_map (λ r. checks.RecoveryRemoval (recovery_removal_with k p r)) (reference k)
check_with k check.PeriodPulse p =
    option_map (λ n. checks.PeriodPulse (period_pulse_with k p n)) (name_given k (codes "perioddata") form.PeriodData)

-- A call of a check.
abbrev pub timing_check : GivenCall → Check → Option TimingCheck
timing_check k c = option_and_then (check_with k c) (parts k)
