-- A gate of two inputs for worked rows.
use Rattle.std.proofs.Common.{ℕ, List, [], ◌∷◌}
use Rattle.std.specs.Prelude.{false, true, codes}
use Rattle.vital_actuals.specs.declared.actual.Path.{Path}
use Rattle.vital_cell.specs.Variables.{Slot}
use Rattle.vital_logic.specs.declared.level.Level.TheVariants.{X}
use Rattle.vital_nodes.specs.declared.decl.Mode.TheVariants.{Buffer, In}
use Rattle.vital_nodes.specs.declared.expr.Logical.{Logical}
use Rattle.vital_objects.specs.declared.signal.Signal.{Signal}
use Rattle.vital_objects.specs.declared.variable.VariableKind.TheVariants as kind
use Rattle.vital_operands.specs.declared.tree.BooleanExpr.TheVariants as boolean
use Rattle.vital_operands.specs.declared.tree.DelayExpr.TheVariants as delays
use Rattle.vital_operands.specs.declared.tree.LevelExpr.TheVariants as level
use Rattle.vital_sections.specs.declared.path_delay.PathDelay.{PathDelay}
use Rattle.vital_timing.specs.declared.delay.Delay.TheVariants as delay
use Rattle.vital_timing.specs.declared.delay.DelayType.TheVariants as types
use Rattle.vital_timing.specs.declared.glitch_mode.GlitchMode.TheVariants.{OnEvent}
use Rattle.vital_typed_cells.specs.declared.process.CellProcess.{CellProcess}
use Rattle.vital_typed_cells.specs.declared.typed_cell.TypedCell.{TypedCell}
use Rattle.vital_kernel.proofs.RowParts.{controls, port, timing_generic}

abbrev pub path : List ℕ → List ℕ → Path
path name generic = record { signal = name; delay = delays.Generic generic; condition = boolean.Literal true }

-- Its output follows its inputs by an operator, OnEvent.
abbrev pub path_delay : Logical → PathDelay
path_delay operator = record {
  delay_type = types.Two;
  out_signal = codes "y";
  glitch_data = codes "g";
  out_temp = level.Logical operator (level.Signal (codes "a_ipd") ∷ level.Signal (codes "b_ipd") ∷ []);
  paths = path (codes "a_ipd") (codes "tpd_a_y") ∷ path (codes "b_ipd") (codes "tpd_b_y") ∷ [];
  default_delay = delays.Literal (delay.Two 0 0);
  mode = OnEvent;
  x_on = boolean.Literal true;
  msg_on = boolean.Literal true;
}

-- It is sensitive to bits 3 and 4, which are a_ipd and b_ipd.
abbrev pub process : Logical → CellProcess
process operator = record {
  sensitivity = 3 ∷ 4 ∷ [];
  constants = [];
  variables = record { name = codes "g"; kind = kind.GlitchData } ∷ [];
  sections = record { checks = []; functionality = []; path_delays = path_delay operator ∷ [] };
}

abbrev pub unknown : List ℕ → Signal
unknown name = record { name = name; place = record { file = 0; line = 7; column = 9 }; is_resolved = false; initial = X }

-- The generics are tpd_a_y, tpd_b_y, tipd_a and tipd_b. The internal signals begin as X.
abbrev pub gate : Logical → TypedCell
gate operator = record {
  ports = port (codes "a") In ∷ port (codes "b") In ∷ port (codes "y") Buffer ∷ [];
  generics =
      timing_generic (codes "tpd_a_y")
      ∷ timing_generic (codes "tpd_b_y")
      ∷ timing_generic (codes "tipd_a")
      ∷ timing_generic (codes "tipd_b")
      ∷ [];
  plain_generics = [];
  controls = controls;
  signals = unknown (codes "a_ipd") ∷ unknown (codes "b_ipd") ∷ [];
  constants = [];
  packages = [];
  wires =
      record { signal = codes "a_ipd"; port = codes "a"; generic = codes "tipd_a" }
      ∷ record { signal = codes "b_ipd"; port = codes "b"; generic = codes "tipd_b" }
      ∷ [];
  processes_before_wires = 0;
  processes = process operator ∷ [];
}

-- The variables of an instance: the two wire delays, which are its processes 0 and 1, have none.
abbrev pub variables_of : Slot → List (List Slot)
variables_of g = [] ∷ [] ∷ (g ∷ []) ∷ []
