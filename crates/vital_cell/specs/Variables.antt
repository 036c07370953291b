-- The variables of a process: a finite map from names to levels, or to what a check or a path delay keeps.
use Rattle.std.specs.Prelude.{ℕ, suc, ◌++◌, List, [], ◌∷◌, map, find, take, drop, Option, if◌then◌else◌}
use Rattle.std.specs.Option.{option_map_or}
use Rattle.std.specs.Str.{bytes_eq}
use Rattle.vital_logic.specs.declared.level.Level.{Level}
use Rattle.vital_logic.specs.Tables.{entry, x01_table}
use Rattle.vital_path_delay.specs.declared.glitch_data.GlitchData.{GlitchData}
use Rattle.vital_path_delay.specs.Kept as glitches
use Rattle.vital_primitives.specs.Operators.{first}
use Rattle.vital_timing_checks.specs.declared.period_pulse.PeriodPulse.{PeriodPulse}
use Rattle.vital_timing_checks.specs.declared.timing_data.TimingData.{TimingData}
use Rattle.vital_timing_checks.specs.PeriodPulses as pulses
use Rattle.vital_timing_checks.specs.TimingSteps as timings

-- What a variable keeps.
pub data Held : Type 0 where
  -- One level, or those of a vector from left to right.
  Levels : List Level → Held
  -- The level of an X01 variable: what it is given is kept as To_X01 of it.
  Strengthless : Level → Held
  -- What a path delay, a check of two signals and a check of one signal keep.
  Glitch : GlitchData → Held
  Timing : TimingData → Held
  Period : PeriodPulse → Held

pub record Slot : Type 0 where
  pub name : List ℕ
  pub held : Held

-- ---- what is read

abbrev pub slot_named : List Slot → List ℕ → Option Slot
slot_named slots name = find (λ s. bytes_eq s.name name) slots

abbrev pub levels_in : Held → List Level
levels_in (Levels ls) = ls
levels_in (Strengthless l) = l ∷ []
levels_in other = []

abbrev pub levels_of : List Slot → List ℕ → List Level
levels_of slots name = option_map_or (λ s. levels_in s.held) (slot_named slots name) []

abbrev pub glitch_in : Held → GlitchData
glitch_in (Glitch g) = g
glitch_in other = glitches.start

abbrev pub glitch_of : List Slot → List ℕ → GlitchData
glitch_of slots name = option_map_or (λ s. glitch_in s.held) (slot_named slots name) glitches.start

abbrev pub timing_in : Held → TimingData
timing_in (Timing t) = t
timing_in other = timings.unused

abbrev pub timing_of : List Slot → List ℕ → TimingData
timing_of slots name = option_map_or (λ s. timing_in s.held) (slot_named slots name) timings.unused

abbrev pub period_in : Held → PeriodPulse
period_in (Period p) = p
period_in other = pulses.unused

abbrev pub period_of : List Slot → List ℕ → PeriodPulse
period_of slots name = option_map_or (λ s. period_in s.held) (slot_named slots name) pulses.unused

-- ---- what is kept

-- The variable of a name keeps this, and all others what they kept.
abbrev pub with_held : List ℕ → (Held → Held) → List Slot → List Slot
with_held name change slots =
    map (λ s. if bytes_eq s.name name then record { name = s.name; held = change s.held } else s) slots

abbrev pub given : List Level → Held → Held
given ls (Strengthless old) = Strengthless (entry x01_table (first ls))
given ls other = Levels ls

abbrev pub with_element : ℕ → Level → List Level → List Level
with_element n l ls = take n ls ++ l ∷ drop (suc n) ls

abbrev pub given_element : ℕ → Level → Held → Held
given_element n l (Levels ls) = Levels (with_element n l ls)
given_element n l other = other
