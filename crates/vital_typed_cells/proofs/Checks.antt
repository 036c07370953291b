-- Timing checks are sound.
use Rattle.std.proofs.Common.{◌≡◌, true}
use Rattle.std.specs.Prelude.{IfSome, codes}
use Rattle.vital_calls.specs.declared.actual_form.ActualForm.TheVariants as form
use Rattle.vital_names.specs.declared.predeclared.Check.{Check}
use Rattle.vital_names.specs.declared.predeclared.Check.TheVariants as check
use Rattle.vital_sections.specs.declared.timing_check.CheckParts.{CheckParts}
use Rattle.vital_sections.specs.declared.timing_check.ReferenceParts.{ReferenceParts}
use Rattle.vital_sections.specs.declared.timing_check.TimingCheck.{TimingCheck}
use Rattle.vital_sections.specs.declared.timing_check.TimingCheck.TheVariants as checks
use Rattle.vital_sections.specs.Given.{GivenCall, edge_given, name_given, time_given, truth_given}
use Rattle.vital_sections.specs.TimingChecks.{check_with, parts, parts_with, period_pulse_with, recovery_removal_with, reference, reference_with, setup_hold_with, timing_check, with_edge, with_signal, with_test}
use Rattle.vital_tables.specs.Symbols.{edge_symbols, is_among}
use Rattle.vital_typed_cells.specs.Trees.{is_sound_boolean, is_sound_time}
use Rattle.vital_typed_cells.proofs.Outcomes.{if-and-then, if-map}
use Rattle.vital_typed_cells.proofs.ExprTests.{both-true}
use Rattle.vital_typed_cells.specs.ActualScopes.{ActualScope}
use Rattle.vital_typed_cells.specs.SoundActuals.{is_sound_name}
use Rattle.vital_typed_cells.specs.SoundStatements.{are_sound_parts, is_sound_check, is_sound_reference}
use Rattle.vital_typed_cells.proofs.SectionGiven.{IsCallIn, edge-given, name-given, time-given, truth-given}

abbrev SoundParts : ActualScope → CheckParts → Type 0
SoundParts s p = are_sound_parts s p ≡ true

abbrev SoundReference : ActualScope → ReferenceParts → Type 0
SoundReference s r = is_sound_reference s r ≡ true

abbrev pub SoundCheck : ActualScope → TimingCheck → Type 0
SoundCheck s c = is_sound_check s c ≡ true

parts-sound : (s : ActualScope) (k : GivenCall) → IsCallIn s k → IfSome (parts k) (SoundParts s)
parts-sound s k in-call =
    if-and-then (λ n. is_sound_name s form.Violation n ≡ true) (SoundParts s) (with_test k) (name_given k (codes "violation") form.Violation) (name-given s k (codes "violation") form.Violation in-call)
    (λ violation there. if-map (λ n. is_sound_name s form.Signal n ≡ true) (SoundParts s) (parts_with k violation) (name_given k (codes "testsignal") form.Signal) (name-given s k (codes "testsignal") form.Signal in-call)
    (λ test tested.
    both-true (s.has_violation violation) _ there
    (both-true (s.names.has_signal test) _ tested
    (both-true (is_sound_boolean s.names (truth_given k (codes "checkenabled"))) _ (truth-given s k (codes "checkenabled") in-call)
    (both-true (is_sound_boolean s.names (truth_given k (codes "xon"))) _ (truth-given s k (codes "xon") in-call) (truth-given s k (codes "msgon") in-call))))))

reference-sound : (s : ActualScope) (k : GivenCall) → IsCallIn s k → IfSome (reference k) (SoundReference s)
reference-sound s k in-call =
    if-and-then (λ n. is_sound_name s form.TimingData n ≡ true) (SoundReference s) (with_signal k) (name_given k (codes "timingdata") form.TimingData) (name-given s k (codes "timingdata") form.TimingData in-call)
    (λ timing there. if-and-then (λ n. is_sound_name s form.Signal n ≡ true) (SoundReference s) (with_edge k timing) (name_given k (codes "refsignal") form.Signal) (name-given s k (codes "refsignal") form.Signal in-call)
    (λ signal seen. if-map (λ b. is_among edge_symbols b ≡ true) (SoundReference s) (reference_with timing signal) (edge_given k) (edge-given s k in-call)
    (λ edge among. both-true (s.has_timing_data timing) _ there (both-true (s.names.has_signal signal) (is_among edge_symbols edge) seen among))))

with-parts : (s : ActualScope) (k : GivenCall) (c : Check) (p : CheckParts) → IsCallIn s k → SoundParts s p → IfSome (check_with k c p) (SoundCheck s)
with-parts s k check.SetupHold p in-call sound =
    if-map (SoundReference s) (SoundCheck s) (λ r. checks.SetupHold (setup_hold_with k p r)) (reference k) (reference-sound s k in-call)
    (λ r referred.
    both-true (are_sound_parts s p) _ sound
    (both-true (is_sound_reference s r) _ referred
    (both-true (is_sound_time s.names (time_given k (codes "setuphigh"))) _ (time-given s k (codes "setuphigh") in-call)
    (both-true (is_sound_time s.names (time_given k (codes "setuplow"))) _ (time-given s k (codes "setuplow") in-call)
    (both-true (is_sound_time s.names (time_given k (codes "holdhigh"))) _ (time-given s k (codes "holdhigh") in-call) (time-given s k (codes "holdlow") in-call))))))
with-parts s k check.RecoveryRemoval p in-call sound =
    if-map (SoundReference s) (SoundCheck s) (λ r. checks.RecoveryRemoval (recovery_removal_with k p r)) (reference k) (reference-sound s k in-call)
    (λ r referred.
    both-true (are_sound_parts s p) _ sound
    (both-true (is_sound_reference s r) _ referred
    (both-true (is_sound_time s.names (time_given k (codes "recovery"))) _ (time-given s k (codes "recovery") in-call)
    (both-true (is_sound_time s.names (time_given k (codes "removal"))) _ (time-given s k (codes "removal") in-call) (truth-given s k (codes "activelow") in-call)))))
with-parts s k check.PeriodPulse p in-call sound =
    if-map (λ n. is_sound_name s form.PeriodData n ≡ true) (SoundCheck s) (λ n. checks.PeriodPulse (period_pulse_with k p n)) (name_given k (codes "perioddata") form.PeriodData) (name-given s k (codes "perioddata") form.PeriodData in-call)
    (λ n there.
    both-true (are_sound_parts s p) _ sound
    (both-true (s.has_period_data n) _ there
    (both-true (is_sound_time s.names (time_given k (codes "period"))) _ (time-given s k (codes "period") in-call)
    (both-true (is_sound_time s.names (time_given k (codes "pulsewidthhigh"))) _ (time-given s k (codes "pulsewidthhigh") in-call) (time-given s k (codes "pulsewidthlow") in-call)))))

pub check-sound : (s : ActualScope) (k : GivenCall) (c : Check) → IsCallIn s k → IfSome (timing_check k c) (SoundCheck s)
check-sound s k c in-call = if-and-then (SoundParts s) (SoundCheck s) (check_with k c) (parts k) (parts-sound s k in-call) (λ p sound. with-parts s k c p in-call sound)
