-- Lines of the stimuli that are handed to their drivers when the cycle at their time comes, and not in the initial run.
use Rattle.std.specs.Prelude.{◌≡◌, ◌==◌, ◌<◌, ◌≤◌, ◌^◌, ℕ, true, List, [], ◌∷◌, length, slice_get, slice_index, Option, if◌then◌else◌}
use Rattle.std.specs.List.{fold, list_any, position_or_len}
use Rattle.std.specs.Option.{option_map}
use Rattle.vital_agenda.specs.Agendas.{changed}
use Rattle.vital_agenda.specs.Driver.{Driver, send}
use Rattle.vital_base.specs.declared.kind.Kind.TheVariants.{Transport}
use Rattle.vital_kernel.specs.Networks.{Network}
use Rattle.vital_stim.specs.declared.stimuli.StimLine.{StimLine}

-- ---- drivers

-- For each signal the number of its first driver for the stimuli, if it has one.
pub record AreStimulusDrivers (n : Network) (numbers : List ℕ) : Type 0 where
  pub as_many : length numbers ≡ length n.signals
  pub first : (port : ℕ) → list_any (λ driver. driver.signal == port) n.stimulus_drivers ≡ true
      → slice_index numbers port ≡ position_or_len (λ driver. driver.signal == port) n.stimulus_drivers

-- A line of the stimuli by these numbers.
abbrev pub stimulated_by : List ℕ → List Driver → StimLine → List Driver
stimulated_by numbers drivers line = changed (slice_index numbers line.port) (send 0 Transport line.value line.time) drivers

-- The drivers with these lines, too. What a transport assignment does goes by its time and not by the present, so that a line can be handed
-- later, too.
abbrev pub with_lines : List ℕ → List StimLine → List Driver → List Driver
with_lines numbers lines drivers = fold (stimulated_by numbers) drivers lines

-- ---- lines

-- The first lines, as far as they come at a time.
abbrev pub due_lines : ℕ → List StimLine → List StimLine
due_lines time [] = []
due_lines time (line ∷ lines) = if line.time == time then line ∷ due_lines time lines else []

-- The lines from the first on that comes at another time.
abbrev pub later_lines : ℕ → List StimLine → List StimLine
later_lines time [] = []
later_lines time (line ∷ lines) = if line.time == time then later_lines time lines else line ∷ lines

-- By these numbers a line is for one of so many drivers, at a time of at most 2^60 fs.
pub record IsFor (numbers : List ℕ) (count : ℕ) (line : StimLine) : Type 0 where
  pub port : line.port < length numbers
  pub driver : slice_index numbers line.port < count
  pub time : line.time ≤ 2 ^ 60

-- Lines that can be handed to so many drivers from a time on: each is for one, and comes neither before this time nor before a line that
-- stands in front of it.
abbrev pub AreLeft : List ℕ → ℕ → ℕ → List StimLine → Type 0
AreLeft numbers count now [] = Unit {0}
AreLeft numbers count now (line ∷ lines) = IsFor numbers count line × (now ≤ line.time) × AreLeft numbers count line.time lines

-- The time of the first line, if there is one.
abbrev pub first_time : List StimLine → Option ℕ
first_time lines = option_map (λ line. line.time) (slice_get lines 0)
