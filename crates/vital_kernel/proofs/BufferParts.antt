-- A buffer for worked rows, and what its states are made of.
use Rattle.std.proofs.Common.{◌≡◌, ℕ, List, [], ◌∷◌, Some, ap, sym, ◌∙◌}
use Rattle.std.specs.Prelude.{Bool, true, codes}
use Rattle.vital_agenda.specs.Driver.{Driver}
use Rattle.vital_agenda.specs.declared.transaction.Transaction.{Transaction}
use Rattle.vital_cell.specs.Variables.{Glitch, Slot}
use Rattle.vital_logic.specs.declared.level.Level.{Level}
use Rattle.vital_nodes.specs.declared.decl.Mode.TheVariants.{In, Out}
use Rattle.vital_objects.specs.declared.variable.VariableKind.TheVariants as kind
use Rattle.vital_operands.specs.declared.tree.BooleanExpr.TheFolds.{fold-roll-BooleanExpr}
use Rattle.vital_operands.specs.declared.tree.BooleanExpr.TheOpen.{BooleanExpr-F}
use Rattle.vital_operands.specs.declared.tree.BooleanExpr.TheVariants as boolean
use Rattle.vital_operands.specs.declared.tree.DelayExpr.TheVariants as delays
use Rattle.vital_operands.specs.declared.tree.LevelExpr.TheVariants as level
use Rattle.vital_sections.specs.declared.path_delay.PathDelay.{PathDelay}
use Rattle.vital_timing.specs.declared.delay.Delay.{Delay}
use Rattle.vital_timing.specs.declared.delay.Delay.TheVariants as delay
use Rattle.vital_timing.specs.declared.delay.DelayType.TheVariants as types
use Rattle.vital_timing.specs.declared.glitch_mode.GlitchMode.{GlitchMode}
use Rattle.vital_typed_cells.specs.declared.process.CellProcess.{CellProcess}
use Rattle.vital_typed_cells.specs.declared.typed_cell.TypedCell.{TypedCell}
use Rattle.vital_typed_cells.specs.Expressions.{Names, truth, truth_step}
use Rattle.vital_signals.specs.declared.signal.Signal.{Signal}
use Rattle.vital_kernel.proofs.RowParts.{controls, port, signal, timing_generic, wire}

pub truth-literal : (e : Names) (b : Bool) → truth e (boolean.Literal b) ≡ b
unfolding truth
truth-literal e b = ap (truth e) (sym (boolean.rolls-Literal b)) ∙ fold-roll-BooleanExpr Bool (truth_step e) (BooleanExpr-F.Literal b)

-- ---- a buffer: a wire delay from a to a_ipd, and a path delay from there to y

abbrev pub path_delay : GlitchMode → Bool → PathDelay
path_delay mode x_on = record {
  delay_type = types.Two;
  out_signal = codes "y";
  glitch_data = codes "g";
  out_temp = level.Signal (codes "a_ipd");
  paths = record { signal = codes "a_ipd"; delay = delays.Generic (codes "tpd_a_y"); condition = boolean.Literal true } ∷ [];
  default_delay = delays.Literal (delay.Two 0 0);
  mode = mode;
  x_on = boolean.Literal x_on;
  msg_on = boolean.Literal true;
}

-- It is sensitive to bit 2, which is a_ipd.
abbrev pub process : GlitchMode → Bool → CellProcess
process mode x_on = record {
  sensitivity = 2 ∷ [];
  constants = [];
  variables = record { name = codes "g"; kind = kind.GlitchData } ∷ [];
  sections = record { checks = []; functionality = []; path_delays = path_delay mode x_on ∷ [] };
}

abbrev pub buffer : GlitchMode → Bool → TypedCell
buffer mode x_on = record {
  ports = port (codes "a") In ∷ port (codes "y") Out ∷ [];
  generics = timing_generic (codes "tpd_a_y") ∷ timing_generic (codes "tipd_a") ∷ [];
  plain_generics = [];
  controls = controls;
  signals = signal (codes "a_ipd") ∷ [];
  constants = [];
  packages = [];
  wires = wire ∷ [];
  processes_before_wires = 0;
  processes = process mode x_on ∷ [];
}

-- The delays of its path and of its wire, both for a rise and for a fall.
abbrev pub delays_of : ℕ → ℕ → List Delay
delays_of path wired = delay.Two path path ∷ delay.Two wired wired ∷ []

-- ---- what states are made of

abbrev pub at : ℕ → Level → Transaction
at time value = record { time = time; value = value }

abbrev pub driver : Level → List Transaction → Driver
driver current pending = record { current = current; pending = pending }

-- A signal that had this value before its event at a time.
abbrev pub since : ℕ → Level → Level → Signal
since time last_value value = record { value = value; last_value = last_value; last_event = Some time }

-- SchedTime, GlitchTime, SchedValue and LastValue.
abbrev pub kept : ℕ → ℕ → Level → Level → Slot
kept sched_time glitch_time sched_value last_value = record {
  name = codes "g";
  held = Glitch (record { sched_time = sched_time; glitch_time = glitch_time; sched_value = sched_value; last_value = last_value });
}

-- The variables of an instance: the wire delay, which is its process 0, has none.
abbrev pub variables_of : Slot → List (List Slot)
variables_of g = [] ∷ (g ∷ []) ∷ []
