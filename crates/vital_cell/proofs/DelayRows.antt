-- Worked rows of path delays, by computation. Times are in femtoseconds.
use Rattle.std.proofs.Common.{◌≡◌, ℕ, List, [], ◌∷◌}
use Rattle.std.specs.Prelude.{Bool, true, false, None, codes, if◌then◌else◌}
use Rattle.std.specs.Str.{bytes_eq}
use Rattle.vital_actuals.specs.declared.actual.Path.{Path}
use Rattle.vital_base.specs.declared.kind.Kind.TheVariants as kinds
use Rattle.vital_logic.specs.declared.level.Level.{Level}
use Rattle.vital_logic.specs.declared.level.Level.TheVariants.{U, X, Zero, One}
use Rattle.vital_operands.specs.declared.tree.BooleanExpr.TheVariants as boolean
use Rattle.vital_operands.specs.declared.tree.DelayExpr.TheVariants as delays
use Rattle.vital_operands.specs.declared.tree.LevelExpr.TheVariants as level
use Rattle.vital_path_delay.specs.declared.glitch_data.GlitchData.{GlitchData}
use Rattle.vital_path_delay.specs.Kept.{start}
use Rattle.vital_sections.specs.declared.path_delay.PathDelay.{PathDelay}
use Rattle.vital_timing.specs.declared.delay.Delay.TheVariants as delay
use Rattle.vital_timing.specs.declared.delay.DelayType.TheVariants as types
use Rattle.vital_timing.specs.declared.glitch_mode.GlitchMode.{GlitchMode}
use Rattle.vital_timing.specs.declared.glitch_mode.GlitchMode.TheVariants.{OnDetect, OnEvent, Transport}
use Rattle.vital_machine.specs.declared.effect.Effect.{Effect}
use Rattle.vital_machine.specs.declared.effect.Effect.TheVariants as effect
use Rattle.vital_cell.specs.Statements.{Present, State, delayed}
use Rattle.vital_cell.specs.Variables.{Glitch, levels_of}
use Rattle.vital_cell.proofs.TruthLemmas.{truth-literal}
use Rattle.vital_typed_cells.proofs.TreeLemmas.{level-literal}

-- ---- a path delay at 100 fs, in which a changed 5 fs ago and b 9 fs ago

abbrev present : Present
present = record {
  now = 100;
  names = λ slots. record {
    signal = λ name. U;
    variable = levels_of slots;
    constant = λ name. None;
    generic = λ name. delay.One 0;
    control = λ control. true;
  };
  bit = λ name. 2;
  age = λ name. if bytes_eq name (codes "a") then 5 else 9;
}

abbrev state : GlitchData → List Effect → State
state kept effects = record { slots = record { name = codes "g"; held = Glitch kept } ∷ []; effects = effects }

-- SchedTime, GlitchTime, SchedValue and LastValue.
abbrev kept : ℕ → ℕ → Level → Level → GlitchData
kept sched_time glitch_time sched_value last_value =
    record { sched_time = sched_time; glitch_time = glitch_time; sched_value = sched_value; last_value = last_value }

-- From a a rise takes 30 fs and a fall 20 fs, and from b 40 fs and 10 fs; both are enabled or not. By default they take 7 fs and 8 fs.
abbrev paths : Bool → List Path
paths on =
    record { signal = codes "a"; delay = delays.Literal (delay.Two 30 20); condition = boolean.Literal on }
    ∷ record { signal = codes "b"; delay = delays.Literal (delay.Two 40 10); condition = boolean.Literal on }
    ∷ []

abbrev called : GlitchMode → Bool → Bool → Bool → Level → PathDelay
called mode x_on msg_on on value = record {
  delay_type = types.Two;
  out_signal = codes "y";
  glitch_data = codes "g";
  out_temp = level.Literal value;
  paths = paths on;
  default_delay = delays.Literal (delay.Two 7 8);
  mode = mode;
  x_on = boolean.Literal x_on;
  msg_on = boolean.Literal msg_on;
}

-- ---- delays

-- At the first call the value follows the path that changed last: after 30 fs less 5 fs. Driver 3 sends it.
row_rise :
    delayed present (state start []) (3, called OnEvent true true true One)
    ≡ state (kept 125 125 One One) (effect.Assign 3 (record { kind = kinds.Inertial; value = One; delay = 25 }) ∷ [])
row_rise = simp (truth-literal, level-literal)

-- Where no path is enabled the default counts, without an age.
row_default :
    delayed present (state start []) (3, called OnEvent true true false One)
    ≡ state (kept 107 107 One One) (effect.Assign 3 (record { kind = kinds.Inertial; value = One; delay = 7 }) ∷ [])
row_default = simp (truth-literal, level-literal)

-- Nothing happens where the value was assigned last and has come.
row_settled :
    delayed present (state (kept 100 90 One One) []) (3, called OnEvent true true true One)
    ≡ state (kept 100 90 One One) []
row_settled = simp (truth-literal, level-literal)

-- By transport GlitchTime stays.
row_transport :
    delayed present (state (kept 110 90 One One) []) (3, called Transport true true true Zero)
    ≡ state (kept 115 90 Zero Zero) (effect.Assign 3 (record { kind = kinds.Transport; value = Zero; delay = 15 }) ∷ [])
row_transport = simp (truth-literal, level-literal)

-- ---- glitches: 1 is to come at 110, and 0 would come at 115

-- The message comes before what is sent: X at the GlitchTime, and 0 behind it.
row_glitch :
    delayed present (state (kept 110 110 One One) []) (3, called OnEvent true true true Zero)
    ≡ state (kept 115 110 Zero Zero) (
    effect.Glitch 2
    ∷ effect.Assign 3 (record { kind = kinds.Inertial; value = X; delay = 10 })
    ∷ effect.Assign 3 (record { kind = kinds.Transport; value = Zero; delay = 15 })
    ∷ []
    )
row_glitch = simp (truth-literal, level-literal)

-- X comes at once where a glitch is detected; and without MsgOn there is no message.
row_detected :
    delayed present (state (kept 110 110 One One) []) (3, called OnDetect true false true Zero)
    ≡ state (kept 115 110 Zero Zero) (
    effect.Assign 3 (record { kind = kinds.Inertial; value = X; delay = 0 })
    ∷ effect.Assign 3 (record { kind = kinds.Transport; value = Zero; delay = 15 })
    ∷ []
    )
row_detected = simp (truth-literal, level-literal)

-- Without XOn the message stays, and no X is sent.
row_no_x :
    delayed present (state (kept 110 110 One One) []) (3, called OnEvent false true true Zero)
    ≡ state (kept 115 110 Zero Zero) (
    effect.Glitch 2 ∷ effect.Assign 3 (record { kind = kinds.Inertial; value = Zero; delay = 15 }) ∷ []
    )
row_no_x = simp (truth-literal, level-literal)
