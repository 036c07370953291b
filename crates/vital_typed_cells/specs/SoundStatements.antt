-- Statements of processes in which each name is in a scope, and means what its formal asks.
use Rattle.std.specs.Prelude.{Bool, ◌&&◌}
use Rattle.std.specs.List.{list_all}
use Rattle.vital_sections.specs.declared.path_delay.PathDelay.{PathDelay}
use Rattle.vital_sections.specs.declared.timing_check.CheckParts.{CheckParts}
use Rattle.vital_sections.specs.declared.timing_check.PeriodPulseCheck.{PeriodPulseCheck}
use Rattle.vital_sections.specs.declared.timing_check.RecoveryRemovalCheck.{RecoveryRemovalCheck}
use Rattle.vital_sections.specs.declared.timing_check.ReferenceParts.{ReferenceParts}
use Rattle.vital_sections.specs.declared.timing_check.SetupHoldCheck.{SetupHoldCheck}
use Rattle.vital_sections.specs.declared.timing_check.TimingCheck.{TimingCheck}
use Rattle.vital_sections.specs.declared.timing_check.TimingCheck.TheVariants as check
use Rattle.vital_tables.specs.Symbols.{edge_symbols, is_among}
use Rattle.vital_typed_cells.specs.ActualScopes.{ActualScope}
use Rattle.vital_typed_cells.specs.SoundActuals.{is_sound_path}
use Rattle.vital_typed_cells.specs.Trees.{is_sound_boolean, is_sound_delay, is_sound_level, is_sound_time}

-- ---- timing checks

abbrev pub are_sound_parts : ActualScope → CheckParts → Bool
are_sound_parts s p =
    s.has_violation p.violation
    && (s.names.has_signal p.test_signal
    && (is_sound_boolean s.names p.check_enabled && (is_sound_boolean s.names p.x_on && is_sound_boolean s.names p.msg_on)))

abbrev pub is_sound_reference : ActualScope → ReferenceParts → Bool
is_sound_reference s r = s.has_timing_data r.timing_data && (s.names.has_signal r.ref_signal && is_among edge_symbols r.ref_transition)

abbrev pub is_sound_setup_hold : ActualScope → SetupHoldCheck → Bool
is_sound_setup_hold s k =
    are_sound_parts s k.parts
    && (is_sound_reference s k.reference
    && (is_sound_time s.names k.setup_high
    && (is_sound_time s.names k.setup_low && (is_sound_time s.names k.hold_high && is_sound_time s.names k.hold_low))))

abbrev pub is_sound_recovery_removal : ActualScope → RecoveryRemovalCheck → Bool
is_sound_recovery_removal s k =
    are_sound_parts s k.parts
    && (is_sound_reference s k.reference
    && (is_sound_time s.names k.recovery && (is_sound_time s.names k.removal && is_sound_boolean s.names k.active_low)))

abbrev pub is_sound_period_pulse : ActualScope → PeriodPulseCheck → Bool
is_sound_period_pulse s k =
    are_sound_parts s k.parts
    && (s.has_period_data k.period_data
    && (is_sound_time s.names k.period && (is_sound_time s.names k.pulse_width_high && is_sound_time s.names k.pulse_width_low)))

abbrev pub is_sound_check : ActualScope → TimingCheck → Bool
is_sound_check s (check.SetupHold k) = is_sound_setup_hold s k
is_sound_check s (check.RecoveryRemoval k) = is_sound_recovery_removal s k
is_sound_check s (check.PeriodPulse k) = is_sound_period_pulse s k

-- ---- path delays

abbrev pub is_sound_path_delay : ActualScope → PathDelay → Bool
is_sound_path_delay s k =
    s.has_output k.out_signal
    && (s.has_glitch_data k.glitch_data
    && (is_sound_level s.names k.out_temp
    && (list_all (is_sound_path s.names k.delay_type) k.paths
    && (is_sound_delay s.names k.delay_type k.default_delay && (is_sound_boolean s.names k.x_on && is_sound_boolean s.names k.msg_on)))))
