-- Calls of path delays (IEEE 1076.4, VitalPathDelay, VitalPathDelay01 and VitalPathDelay01Z) by what is given for their formals.
use Rattle.std.specs.Prelude.{ℕ, List, Option, codes}
use Rattle.std.specs.Option.{option_and_then, option_map}
use Rattle.vital_actuals.specs.declared.actual.Path.{Path}
use Rattle.vital_calls.specs.declared.actual_form.ActualForm.TheVariants as form
use Rattle.vital_operands.specs.declared.tree.LevelExpr.{LevelExpr}
use Rattle.vital_timing.specs.declared.delay.DelayType.{DelayType}
use Rattle.vital_sections.specs.declared.path_delay.PathDelay.{PathDelay}
use Rattle.vital_sections.specs.Given.{GivenCall, delay_given, level_given, mode_given, name_given, paths_given, truth_given}

-- A call that has these four. What else may be given has its default where it is left out.
abbrev pub path_delay_with : GivenCall → DelayType → List ℕ → List ℕ → LevelExpr → List Path → PathDelay
path_delay_with k d out_signal glitch_data out_temp paths = record {
  delay_type = d;
  out_signal = out_signal;
  glitch_data = glitch_data;
  out_temp = out_temp;
  paths = paths;
  default_delay = delay_given k (codes "defaultdelay") d;
  mode = mode_given k;
  x_on = truth_given k (codes "xon");
  msg_on = truth_given k (codes "msgon");
}

abbrev pub with_paths : GivenCall → DelayType → List ℕ → List ℕ → LevelExpr → Option PathDelay
with_paths k d out_signal glitch_data out_temp = option_map (path_delay_with k d out_signal glitch_data out_temp) (paths_given k d)

abbrev pub with_level : GivenCall → DelayType → List ℕ → List ℕ → Option PathDelay
with_level k d out_signal glitch_data = option_and_then (with_paths k d out_signal glitch_data) (level_given k (codes "outtemp"))

abbrev pub with_data : GivenCall → DelayType → List ℕ → Option PathDelay
with_data k d out_signal = option_and_then (with_level k d out_signal) (name_given k (codes "glitchdata") form.GlitchData)

-- A call of the path delay whose delays are of a type.
abbrev pub path_delay : GivenCall → DelayType → Option PathDelay
path_delay k d = option_and_then (with_data k d) (name_given k (codes "outsignal") form.OutPort)
