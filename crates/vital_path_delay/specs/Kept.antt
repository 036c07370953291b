-- What a path delay keeps from one call to the next (IEEE 1076.4, package VITAL_Timing, VitalGlitchDataType).
use Rattle.std.specs.Prelude.{◌^◌, ◌<◌}
use Rattle.vital_logic.specs.declared.level.Level.TheVariants.{U}
use Rattle.vital_path_delay.specs.declared.glitch_data.GlitchData.{GlitchData}

-- Before the first call.
abbrev pub start : GlitchData
start = record { sched_time = 0; glitch_time = 0; sched_value = U; last_value = U }

-- Both times are below 2^61 fs.
abbrev pub HasSmallTimes : GlitchData → Type 0
HasSmallTimes kept = (kept.sched_time < 2 ^ 61) × (kept.glitch_time < 2 ^ 61)
