-- Worked rows of cells, by computation: what is executed, wire delays, generics, constants, controls and what variables begin as. Times are
-- in femtoseconds.
use Rattle.std.proofs.Common.{◌≡◌, ℕ, List, [], ◌∷◌, refl}
use Rattle.std.specs.Prelude.{true, false, Some, None, codes}
use Rattle.vital_base.specs.declared.kind.Kind.TheVariants as kinds
use Rattle.vital_level0.specs.declared.parts.Edge.TheVariants.{Absent}
use Rattle.vital_level0.specs.declared.parts.Prefix.TheVariants.{Tipd}
use Rattle.vital_logic.specs.declared.level.Level.TheVariants.{U, X, Zero, One, Z, H}
use Rattle.vital_nodes.specs.declared.decl.Mode.TheVariants.{In}
use Rattle.vital_objects.specs.declared.constant.ConstantValue.TheVariants as constants
use Rattle.vital_objects.specs.declared.control.Controls.{Controls}
use Rattle.vital_objects.specs.declared.control.ControlValue.TheVariants as control_value
use Rattle.vital_objects.specs.declared.generic.TimingGeneric.{TimingGeneric}
use Rattle.vital_objects.specs.declared.port.Port.{Port}
use Rattle.vital_objects.specs.declared.signal.Signal.{Signal}
use Rattle.vital_objects.specs.declared.variable.VariableKind.TheVariants as kind
use Rattle.vital_operands.specs.declared.tree.BooleanExpr.TheVariants as boolean
use Rattle.vital_operands.specs.declared.tree.ConstantName.TheVariants as constant
use Rattle.vital_operands.specs.declared.tree.Control.TheVariants as control
use Rattle.vital_operands.specs.declared.tree.DelayExpr.TheVariants as delays
use Rattle.vital_operands.specs.declared.tree.LevelExpr.TheVariants as level
use Rattle.vital_sections.specs.declared.path_delay.PathDelay.{PathDelay}
use Rattle.vital_timing.specs.declared.delay.Delay.{Delay}
use Rattle.vital_timing.specs.declared.delay.Delay.TheVariants as delay
use Rattle.vital_timing.specs.declared.delay.DelayType.TheVariants as types
use Rattle.vital_timing.specs.declared.glitch_mode.GlitchMode.TheVariants.{OnEvent}
use Rattle.vital_typed_cells.specs.declared.process.CellProcess.{CellProcess}
use Rattle.vital_typed_cells.specs.declared.typed_cell.TypedCell.{TypedCell}
use Rattle.vital_typed_cells.specs.declared.wire.WireDelay.{WireDelay}
use Rattle.vital_machine.specs.declared.effect.Effect.TheVariants as effect
use Rattle.vital_machine.specs.declared.input.Input.{Input}
use Rattle.vital_cell.specs.Environments.{bit_of, control_of, generic_delay, input_of, process_constants}
use Rattle.vital_cell.specs.Execution.{Process', Wire, all_executed, exec, first_driver, held_first, start}
use Rattle.vital_cell.specs.Variables.{Glitch, Levels, Period, Strengthless, Timing}
use Rattle.vital_typed_cells.specs.Expressions.{Delay', Names, Truth}
use Rattle.vital_typed_cells.proofs.TreeLemmas.{level-literal}

-- ---- a cell with a process of two path delays, two wire delays and a process of none

abbrev port : List ℕ → Port
port name = record { name = name; place = record { file = 0; line = 3; column = 9 }; mode = In; is_resolved = false; default = None }

abbrev signal : List ℕ → Signal
signal name = record { name = name; place = record { file = 0; line = 7; column = 9 }; is_resolved = false; initial = U }

abbrev timing_generic : List ℕ → ℕ → TimingGeneric
timing_generic name first = record {
  name = name;
  parts = record { kind = Tipd; first = first; second = None; condition = None; edges = Absent ∷ Absent ∷ [] };
  default = delay.Two 1 2;
}

abbrev wire_a : WireDelay
wire_a = record { signal = codes "s"; port = codes "a"; generic = codes "tipd_a" }

abbrev wire_b : WireDelay
wire_b = record { signal = codes "t"; port = codes "b"; generic = codes "tipd_b" }

abbrev path_delay : PathDelay
path_delay = record {
  delay_type = types.Two;
  out_signal = codes "y";
  glitch_data = codes "g";
  out_temp = level.Literal One;
  paths = [];
  default_delay = delays.Literal (delay.Two 7 8);
  mode = OnEvent;
  x_on = boolean.Literal true;
  msg_on = boolean.Literal true;
}

-- Its own constant names one of the architecture.
abbrev process : List PathDelay → CellProcess
process path_delays = record {
  sensitivity = [];
  constants = record { name = codes "own"; value = constants.Delay types.Two (delays.Constant (constant.Cell (codes "all"))) } ∷ [];
  variables = record { name = codes "v"; kind = kind.X01 None } ∷ record { name = codes "n"; kind = kind.Vector 2 None } ∷ [];
  sections = record { checks = []; functionality = []; path_delays = path_delays };
}

abbrev cell : TypedCell
cell = record {
  ports = port (codes "a") ∷ port (codes "b") ∷ [];
  generics = timing_generic (codes "tipd_a") 0 ∷ timing_generic (codes "tipd_b") 1 ∷ [];
  plain_generics = record { name = codes "tskew"; default = delay.One 6 } ∷ [];
  controls = record { timing_checks_on = control_value.Literal true; x_on = control_value.Literal true; msg_on = control_value.Literal true };
  signals = signal (codes "s") ∷ signal (codes "t") ∷ [];
  constants = record { name = codes "all"; value = constants.Delay types.Two (delays.Generic (codes "tipd_a")) } ∷ [];
  packages = [];
  wires = wire_a ∷ wire_b ∷ [];
  processes_before_wires = 1;
  processes = process (path_delay ∷ path_delay ∷ []) ∷ process [] ∷ [];
}

-- The delays of its timing generics.
abbrev values : List Delay
values = delay.Two 30 20 ∷ delay.Two 40 10 ∷ []

-- What the bits a, b, s and t are.
abbrev inputs : List Input
inputs =
    record { value = Zero; last = One; age = 9 }
    ∷ record { value = H; last = Zero; age = 0 }
    ∷ record { value = X; last = U; age = 3 }
    ∷ record { value = Z; last = U; age = 4 }
    ∷ []

-- ---- what is executed

row_order : all_executed cell ≡ Process' (process (path_delay ∷ path_delay ∷ [])) ∷ Wire wire_a ∷ Wire wire_b ∷ Process' (process []) ∷ []
row_order = refl

row_first_driver : first_driver cell 0 ≡ 0
row_first_driver = refl

row_driver_behind_two : first_driver cell 1 ≡ 2
row_driver_behind_two = refl

row_driver_behind_wires : first_driver cell 3 ≡ 4
row_driver_behind_wires = refl

-- A wire delay sends what its port is, with its strength, after the delay of its last change: b rose.
row_wire :
    exec cell values 2 50 inputs []
    ≡ record { slots = []; effects = effect.Assign 3 (record { kind = kinds.Transport; value = H; delay = 40 }) ∷ [] }
row_wire = refl

-- a fell.
row_falling_wire :
    exec cell values 1 50 inputs []
    ≡ record { slots = []; effects = effect.Assign 2 (record { kind = kinds.Transport; value = Zero; delay = 20 }) ∷ [] }
row_falling_wire = refl

-- There is no process of this number.
row_no_process : exec cell values 4 50 inputs [] ≡ record { slots = []; effects = [] }
row_no_process = refl

-- ---- names

row_bit : bit_of cell (codes "t") ≡ 3
row_bit = refl

row_input : (input_of cell inputs (codes "s")).age ≡ 3
row_input = refl

-- A timing generic has the delay that is given, and not its default; any other has its default.
row_timing_generic : generic_delay cell values (codes "tipd_b") ≡ delay.Two 40 10
row_timing_generic = refl

row_plain_generic : generic_delay cell values (codes "tskew") ≡ delay.One 6
row_plain_generic = refl

-- A constant that names a timing generic follows it.
row_constants :
    process_constants cell values (process [])
    ≡ record { name = codes "all"; worth = Delay' (delay.Two 30 20) } ∷ record { name = codes "own"; worth = Delay' (delay.Two 30 20) } ∷ []
row_constants = refl

-- ---- controls: of literals, of a constant of a package and of one that is worth nothing

abbrev controls : Controls
controls = record { timing_checks_on = control_value.Literal false; x_on = control_value.Constant 1; msg_on = control_value.Constant 0 }

row_checks_off : control_of (None ∷ Some (Truth false) ∷ []) controls control.TimingChecksOn ≡ false
row_checks_off = refl

row_x_off : control_of (None ∷ Some (Truth false) ∷ []) controls control.XOn ≡ false
row_x_off = refl

row_messages_on : control_of (None ∷ Some (Truth false) ∷ []) controls control.MsgOn ≡ true
row_messages_on = refl

-- ---- what variables begin as

row_level : (e : Names) → held_first e (kind.Level None) ≡ Levels (U ∷ [])
row_level e = refl

row_default : (e : Names) → held_first e (kind.Level (Some (level.Literal H))) ≡ Levels (H ∷ [])
row_default e = simp level-literal

row_strengthless : (e : Names) → held_first e (kind.X01 None) ≡ Strengthless X
row_strengthless e = refl

row_strengthless_default : (e : Names) → held_first e (kind.X01 (Some (level.Literal H))) ≡ Strengthless One
row_strengthless_default e = simp level-literal

row_vector : (e : Names) → held_first e (kind.Vector 2 None) ≡ Levels (U ∷ U ∷ [])
row_vector e = refl

row_glitch_data : (e : Names) → held_first e kind.GlitchData ≡ Glitch (record { sched_time = 0; glitch_time = 0; sched_value = U; last_value = U })
row_glitch_data e = refl

row_timing_data : (e : Names) → held_first e kind.TimingData ≡ Timing (record { levels = None; test_time = None; edge = None })
row_timing_data e = refl

row_period_data : (e : Names) → held_first e kind.PeriodData ≡ Period (record { level = None; rise = None; fall = None })
row_period_data e = refl

row_start : start cell values 0 ≡ record { name = codes "v"; held = Strengthless X } ∷ record { name = codes "n"; held = Levels (U ∷ U ∷ []) } ∷ []
row_start = refl

row_wire_start : start cell values 1 ≡ []
row_wire_start = refl
