-- How a path delay treats a change of its output (IEEE 1076.4, package VITAL_Timing, VitalPathDelay): at the present time, now, the
-- output is to take a value after a delay.
use Rattle.std.specs.Prelude.{ℕ, ◌+◌, ◌-◌, Bool, true, false, ◌&&◌, ◌==◌, nat_le, min, Some, None, if◌then◌else◌}
use Rattle.vital_base.specs.declared.kind.Kind.{Kind}
use Rattle.vital_base.specs.declared.kind.Kind.TheVariants as kind
use Rattle.vital_logic.specs.declared.level.Level.{Level}
use Rattle.vital_logic.specs.declared.level.Level.TheVariants.{X}
use Rattle.vital_logic.specs.Levels.{byte_of}
use Rattle.vital_timing.specs.declared.glitch_mode.GlitchMode.{GlitchMode}
use Rattle.vital_timing.specs.declared.glitch_mode.GlitchMode.TheVariants.{OnEvent, OnDetect, Inertial, Transport}
use Rattle.vital_path_delay.specs.declared.glitch_data.GlitchData.{GlitchData}
use Rattle.vital_path_delay.specs.declared.send.GlitchOut.{GlitchOut}
use Rattle.vital_path_delay.specs.declared.send.Send.{Send}

-- Are two levels the same?
abbrev pub same_level : Level → Level → Bool
same_level a b = byte_of a == byte_of b

-- The assignment of a value after a delay.
abbrev pub sent : Kind → Level → ℕ → Send
sent kind value delay = record { kind = kind; value = value; delay = delay }

-- One assignment, and no glitch.
abbrev pub alone : Send → GlitchOut
alone send = record { first = send; second = None; glitched = false }

-- What comes of a change: its delay, which may have become less; the GlitchTime; and what is sent to the output.
pub record Step : Type 0 where
  pub delay : ℕ
  pub glitch_time : ℕ
  pub out : GlitchOut

-- ---- which step is taken

-- (i) The output has the value that was assigned last.
abbrev pub is_settled : ℕ → GlitchData → Bool
is_settled now kept = nat_le kept.sched_time now

-- (ii) The change comes at a time that is neither after the GlitchTime nor after the SchedTime.
abbrev pub comes_first : ℕ → GlitchData → Bool
comes_first time kept = nat_le time kept.glitch_time && nat_le time kept.sched_time

-- (iii) The GlitchTime has come.
abbrev pub has_glitch_passed : ℕ → GlitchData → Bool
has_glitch_passed now kept = nat_le kept.glitch_time now

-- (iv) The value is the one that was assigned last, and no other change is pending before it.
abbrev pub is_awaited : Level → GlitchData → Bool
is_awaited value kept = same_level value kept.sched_value && (kept.sched_time == kept.glitch_time)

-- ---- the steps

-- The delay, or what is left until the SchedTime where that is less.
abbrev pub sooner_of : ℕ → GlitchData → ℕ → ℕ
sooner_of now kept delay = min (kept.sched_time - now) delay

-- (i) and (ii): the change is assigned, and the GlitchTime is its time.
abbrev pub assigned : ℕ → Level → ℕ → Step
assigned now value delay =
    record { delay = delay; glitch_time = now + delay; out = alone (sent kind.Inertial value delay) }

-- (iii): the change is assigned, not later than the SchedTime where its value is the one that was assigned last.
abbrev pub assigned_behind : ℕ → GlitchData → Level → ℕ → Step
assigned_behind now kept value delay =
    let soon = (if same_level value kept.sched_value then sooner_of now kept delay else delay) in
    record { delay = soon; glitch_time = kept.glitch_time; out = alone (sent kind.Inertial value soon) }

-- (iv): the change is assigned, not later than the SchedTime, and the GlitchTime is its time.
abbrev pub assigned_again : ℕ → GlitchData → Level → ℕ → Step
assigned_again now kept value delay = assigned now value (sooner_of now kept delay)

-- (v), a glitch: with X, which comes after a delay of its own, the change follows it by transport.
abbrev pub sent_at_glitch : Bool → ℕ → Level → ℕ → GlitchOut
sent_at_glitch x_on x_delay value delay =
    if x_on then record { first = sent kind.Inertial X x_delay; second = Some (sent kind.Transport value delay); glitched = true }
    else record { first = sent kind.Inertial value delay; second = None; glitched = true }

abbrev pub glitched : GlitchData → Bool → ℕ → Level → ℕ → Step
glitched kept x_on x_delay value delay =
    record { delay = delay; glitch_time = kept.glitch_time; out = sent_at_glitch x_on x_delay value delay }

-- The first of these that holds.
abbrev pub watched : Bool → ℕ → ℕ → GlitchData → Level → ℕ → Step
watched x_on x_delay now kept value delay =
    if is_settled now kept then assigned now value delay
    else if comes_first (now + delay) kept then assigned now value delay
    else if has_glitch_passed now kept then assigned_behind now kept value delay
    else if is_awaited value kept then assigned_again now kept value delay
    else glitched kept x_on x_delay value delay

-- By the mode. X comes at the GlitchTime for OnEvent, and at once for OnDetect.
abbrev pub step_of : GlitchMode → Bool → ℕ → GlitchData → Level → ℕ → Step
step_of OnEvent x_on now kept value delay = watched x_on (kept.glitch_time - now) now kept value delay
step_of OnDetect x_on now kept value delay = watched x_on 0 now kept value delay
step_of Inertial x_on now kept value delay =
    record { delay = delay; glitch_time = kept.glitch_time; out = alone (sent kind.Inertial value delay) }
step_of Transport x_on now kept value delay =
    record { delay = delay; glitch_time = kept.glitch_time; out = alone (sent kind.Transport value delay) }

-- What is kept after a step: SchedValue is the value, and SchedTime its time.
abbrev pub kept_after : ℕ → Level → GlitchData → Step → GlitchData
kept_after now value kept taken = record {
  sched_time = now + taken.delay;
  glitch_time = taken.glitch_time;
  sched_value = value;
  last_value = kept.last_value;
}

-- What is sent, and what is kept then.
pub record Done : Type 0 where
  pub out : GlitchOut
  pub kept : GlitchData

abbrev pub glitch : GlitchMode → Bool → ℕ → GlitchData → Level → ℕ → Done
glitch mode x_on now kept value delay =
    let taken = step_of mode x_on now kept value delay in
    record { out = taken.out; kept = kept_after now value kept taken }
