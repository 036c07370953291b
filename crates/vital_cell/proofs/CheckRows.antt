-- Worked rows of timing checks, by computation. Times are in femtoseconds.
use Rattle.std.proofs.Common.{◌≡◌, ℕ, List, [], ◌∷◌, refl}
use Rattle.std.specs.Prelude.{Bool, true, false, Option, Some, None, codes, if◌then◌else◌}
use Rattle.std.specs.Str.{bytes_eq}
use Rattle.vital_logic.specs.declared.level.Level.{Level}
use Rattle.vital_logic.specs.declared.level.Level.TheVariants.{X, Zero, One, Z, H}
use Rattle.vital_operands.specs.declared.tree.BooleanExpr.TheVariants as boolean
use Rattle.vital_operands.specs.declared.tree.TimeExpr.TheVariants as times
use Rattle.vital_sections.specs.declared.timing_check.CheckParts.{CheckParts}
use Rattle.vital_sections.specs.declared.timing_check.ReferenceParts.{ReferenceParts}
use Rattle.vital_sections.specs.declared.timing_check.TimingCheck.{TimingCheck}
use Rattle.vital_sections.specs.declared.timing_check.TimingCheck.TheVariants as check
use Rattle.vital_timing.specs.declared.delay.Delay.TheVariants as delay
use Rattle.vital_timing_checks.specs.declared.timing_data.ReferenceEdge.{ReferenceEdge}
use Rattle.vital_timing_checks.specs.declared.violated.CheckKind.TheVariants.{Setup, Hold, Recovery, Removal, Period as Period', Pulse}
use Rattle.vital_machine.specs.declared.effect.Effect.{Effect}
use Rattle.vital_machine.specs.declared.effect.Effect.TheVariants as effect
use Rattle.vital_cell.specs.Statements.{Present, State, timing_check}
use Rattle.vital_cell.specs.Variables.{Held, Period, Strengthless, Timing, levels_of}
use Rattle.vital_cell.proofs.TruthLemmas.{truth-literal}

-- ---- what is seen and what is kept

-- Bit 0 is d, which is tested, and bit 1 is c, which it is compared with.
abbrev present : ℕ → Level → Level → Present
present now d c = record {
  now = now;
  names = λ slots. record {
    signal = λ name. if bytes_eq name (codes "d") then d else c;
    variable = levels_of slots;
    constant = λ name. None;
    generic = λ name. delay.One 0;
    control = λ control. true;
  };
  bit = λ name. if bytes_eq name (codes "d") then 0 else 1;
  age = λ name. 0;
}

-- v is the violation, and k keeps what the check knows.
abbrev state : Level → Held → List Effect → State
state v kept effects = record {
  slots = record { name = codes "v"; held = Strengthless v } ∷ record { name = codes "k"; held = kept } ∷ [];
  effects = effects;
}

-- The stored levels of d and c, TestTime and RefTime.
abbrev known : Level → Level → Option ℕ → Option ReferenceEdge → Held
known d c test_time edge = Timing (record { levels = Some (record { test = d; reference = c }); test_time = test_time; edge = edge })

abbrev edge : ℕ → Bool → Option ReferenceEdge
edge time is_open = Some (record { time = time; is_open = is_open })

abbrev parts : Bool → Bool → Bool → CheckParts
parts enabled x_on msg_on = record {
  violation = codes "v";
  test_signal = codes "d";
  check_enabled = boolean.Literal enabled;
  x_on = boolean.Literal x_on;
  msg_on = boolean.Literal msg_on;
}

-- The reference edges are the changes of c from 0 to 1.
abbrev reference : ReferenceParts
reference = record { timing_data = codes "k"; ref_signal = codes "c"; ref_transition = 47 }

-- ---- setup and hold

abbrev setup_hold : CheckParts → TimingCheck
setup_hold p = check.SetupHold (record {
  parts = p;
  reference = reference;
  setup_high = times.Literal 100;
  setup_low = times.Literal 70;
  hold_high = times.Literal 30;
  hold_low = times.Literal 20;
})

-- The first call stores To_X01Z of d and To_X01 of c.
row_first_call :
    timing_check (present 150 Z H) (state Zero (Timing (record { levels = None; test_time = None; edge = None })) []) (setup_hold (parts true true true))
    ≡ state Zero (known Z One None None) []
row_first_call = simp truth-literal

-- d rose at 100 and c rises at 150.
row_setup :
    timing_check (present 150 One One) (state Zero (known One Zero (Some 100) None) []) (setup_hold (parts true true true))
    ≡ state X (known One One (Some 100) (edge 150 true)) (effect.Violation 0 (Some 1) (record { kind = Setup; observed = 50; limit = 100 }) ∷ [])
row_setup = simp truth-literal

-- At the limit itself nothing is violated, and a violation before is over.
row_setup_met :
    timing_check (present 200 One One) (state X (known One Zero (Some 100) None) []) (setup_hold (parts true true true))
    ≡ state Zero (known One One (Some 100) (edge 200 true)) []
row_setup_met = simp truth-literal

-- Without XOn there is the message alone, and without MsgOn the variable alone.
row_no_x :
    timing_check (present 150 One One) (state Zero (known One Zero (Some 100) None) []) (setup_hold (parts true false true))
    ≡ state Zero (known One One (Some 100) (edge 150 true)) (effect.Violation 0 (Some 1) (record { kind = Setup; observed = 50; limit = 100 }) ∷ [])
row_no_x = simp truth-literal

row_no_message :
    timing_check (present 150 One One) (state Zero (known One Zero (Some 100) None) []) (setup_hold (parts true true false))
    ≡ state X (known One One (Some 100) (edge 150 true)) []
row_no_message = simp truth-literal

-- A check that is not enabled says 0, and what it keeps goes on.
row_not_enabled :
    timing_check (present 150 One One) (state X (known One Zero (Some 100) None) []) (setup_hold (parts false true true))
    ≡ state Zero (known One One (Some 100) (edge 150 true)) []
row_not_enabled = simp truth-literal

-- d falls at 170 behind the edge at 150, which closes hold.
row_hold :
    timing_check (present 170 Zero One) (state Zero (known One One (Some 100) (edge 150 true)) []) (setup_hold (parts true true true))
    ≡ state X (known Zero One (Some 170) (edge 150 false)) (effect.Violation 0 (Some 1) (record { kind = Hold; observed = 20; limit = 30 }) ∷ [])
row_hold = simp truth-literal

-- ---- recovery and removal

abbrev recovery_removal : Bool → TimingCheck
recovery_removal active_low = check.RecoveryRemoval (record {
  parts = parts true true true;
  reference = reference;
  recovery = times.Literal 100;
  removal = times.Literal 30;
  active_low = boolean.Literal active_low;
})

row_recovery :
    timing_check (present 150 One One) (state Zero (known One Zero (Some 100) None) []) (recovery_removal true)
    ≡ state X (known One One (Some 100) (edge 150 true)) (effect.Violation 0 (Some 1) (record { kind = Recovery; observed = 50; limit = 100 }) ∷ [])
row_recovery = simp truth-literal

-- Where 1 is the active value, d is active.
row_active :
    timing_check (present 150 One One) (state Zero (known One Zero (Some 100) None) []) (recovery_removal false)
    ≡ state Zero (known One One (Some 100) (edge 150 true)) []
row_active = simp truth-literal

row_removal :
    timing_check (present 170 One One) (state Zero (known Zero One (Some 100) (edge 150 true)) []) (recovery_removal true)
    ≡ state X (known One One (Some 170) (edge 150 false)) (effect.Violation 0 (Some 1) (record { kind = Removal; observed = 20; limit = 30 }) ∷ [])
row_removal = simp truth-literal

-- ---- periods and pulse widths

abbrev period_pulse : TimingCheck
period_pulse = check.PeriodPulse (record {
  parts = parts true true true;
  period_data = codes "k";
  period = times.Literal 80;
  pulse_width_high = times.Literal 40;
  pulse_width_low = times.Literal 50;
})

-- The stored level of d, Rise and Fall.
abbrev pulses : Level → Option ℕ → Option ℕ → Held
pulses d rise fall = Period (record { level = Some d; rise = rise; fall = fall })

row_first_pulse :
    timing_check (present 150 H X) (state Zero (Period (record { level = None; rise = None; fall = None })) []) period_pulse
    ≡ state Zero (pulses One None None) []
row_first_pulse = refl

-- A period is tested before a pulse, and no other signal is named.
row_period :
    timing_check (present 179 One X) (state Zero (pulses Zero (Some 100) (Some 150)) []) period_pulse
    ≡ state X (pulses One (Some 179) (Some 150)) (effect.Violation 0 None (record { kind = Period'; observed = 79; limit = 80 }) ∷ [])
row_period = simp truth-literal

row_pulse :
    timing_check (present 180 One X) (state Zero (pulses Zero (Some 100) (Some 150)) []) period_pulse
    ≡ state X (pulses One (Some 180) (Some 150)) (effect.Violation 0 None (record { kind = Pulse; observed = 30; limit = 50 }) ∷ [])
row_pulse = simp truth-literal

-- A change from 1 to X ends a pulse, and sets neither time.
row_pulse_high :
    timing_check (present 130 X X) (state Zero (pulses One (Some 100) (Some 50)) []) period_pulse
    ≡ state X (pulses X (Some 100) (Some 50)) (effect.Violation 0 None (record { kind = Pulse; observed = 30; limit = 40 }) ∷ [])
row_pulse_high = simp truth-literal
