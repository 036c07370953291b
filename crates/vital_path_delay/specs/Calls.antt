-- A call of a path delay (IEEE 1076.4, package VITAL_Timing, VitalPathDelay), at the present time, now, with a value for its output.
use Rattle.std.specs.Prelude.{ℕ, Bool, ◌&&◌, List, Option, Some, None, if◌then◌else◌}
use Rattle.vital_logic.specs.declared.level.Level.{Level}
use Rattle.vital_timing.specs.declared.delay.Delay.{Delay}
use Rattle.vital_timing.specs.declared.glitch_mode.GlitchMode.{GlitchMode}
use Rattle.vital_path_delay.specs.declared.glitch_data.GlitchData.{GlitchData}
use Rattle.vital_path_delay.specs.declared.path.Path.{Path}
use Rattle.vital_path_delay.specs.declared.send.GlitchOut.{GlitchOut}
use Rattle.vital_path_delay.specs.Paths.{select}
use Rattle.vital_path_delay.specs.Scheduling.{Done, glitch, is_settled, same_level}

-- Step 1. Does the call end? It does where the SchedTime has come and the SchedValue is the value.
abbrev pub path_start : GlitchData → ℕ → Level → Bool
path_start kept now value = is_settled now kept && same_level value kept.sched_value

-- Step 2. The value becomes the LastValue, from which the delay of the change is chosen before.
abbrev pub with_last : Level → GlitchData → GlitchData
with_last value kept = record {
  sched_time = kept.sched_time;
  glitch_time = kept.glitch_time;
  sched_value = kept.sched_value;
  last_value = value;
}

-- What is sent, if anything, and what is kept then.
pub record Called : Type 0 where
  pub out : Option GlitchOut
  pub kept : GlitchData

-- Steps 3 and 4 give what the call does.
abbrev pub called : Done → Called
called done = record { out = Some done.out; kept = done.kept }

abbrev pub path_delay : List Path → Delay → GlitchMode → Bool → ℕ → GlitchData → Level → Called
path_delay paths default mode x_on now kept value =
    if path_start kept now value then record { out = None; kept = kept }
    else called (glitch mode x_on now (with_last value kept) value (select paths value kept.last_value default))
