-- A simulation that stands somewhere in its run, and what the calls do that go on with it.
use Rattle.std.specs.Prelude.{◌≡◌, ◌==◌, ◌-◌, ◌<◌, ◌≤◌, ◌^◌, ℕ, All, Bool, true, false, IsSomeAnd, List, [], length, map, take, Result, Ok, Err, ⊤, if◌then◌else◌}
use Rattle.std.specs.List.{flat_map, list_any}
use Rattle.std.specs.List.Sorted.{IsNonDecreasing}
use Rattle.std.specs.Option.{option_map_or}
use Rattle.vital_agenda.specs.Driver.{next_time}
use Rattle.vital_kernel.specs.Activations.{from_state}
use Rattle.vital_kernel.specs.Cycles.{Happening, Part, cycle_at, first_state, initial_run}
use Rattle.vital_kernel.specs.Handing.{AreLeft, AreStimulusDrivers, with_lines}
use Rattle.vital_kernel.specs.Lines.{lines_of, run_lines}
use Rattle.vital_kernel.specs.Runs.{DeltaPassed, Ended, IsRunFrom, IsWholeRun, Run, delta_at}
use Rattle.vital_kernel.specs.States.{State}
use Rattle.vital_kernel.specs.declared.run_error.RunError.{RunError}
use Rattle.vital_kernel.specs.declared.run_error.RunError.TheVariants as error
use Rattle.vital_kernel.specs.Triggered.{ListenerState}
use Rattle.vital_kernel.specs.Networks.{Network, all_drivers, processes as processes', sensitivity}
use Rattle.vital_kernel.specs.Processes.{ProcessStates}
use Rattle.vital_report.specs.Lines.{Said, text_of}
use Rattle.vital_report.specs.Reporters.{Printed, PrinterState, Stopped}
use Rattle.vital_signals.specs.SignalStates.{AreCurrent, SignalState}
use Rattle.vital_stim.specs.declared.stimuli.StimLine.{StimLine}

-- What is simulated, with the stimuli; whether the initial run is done; whether a call that went on with it was stopped by a fault of the sink
-- or want of memory, after which it is given up; and the state, which is that before the initial run where this is still to come.
pub record Simulation : Type 0 where
  pub network : Network
  pub lines : List StimLine
  pub is_begun : Bool
  pub is_given_up : Bool
  pub state : State

-- The lines of what happened in it. The first values come before the initial run.
abbrev pub told_by : Simulation → List Happening → List Said
told_by k happened = if k.is_begun then flat_map (lines_of k.network) happened else run_lines k.network happened

-- ---- one part of a run

-- The delta number of the next cycle, and this cycle, which is at the least time of a pending transaction of any driver. Where none is
-- pending, no cycle is to come, and nothing happens.
abbrev pub next_delta : State → ℕ
next_delta s = option_map_or (λ time. delta_at time s.now s.delta) (next_time s.drivers) 0

abbrev pub next_cycle : Network → State → Part
next_cycle n s = option_map_or (λ time. cycle_at n time (delta_at time s.now s.delta) s) (next_time s.drivers) (from_state s)

-- The next part of its run: the initial run, where it is still to come, or else the next cycle.
abbrev pub next_part : Simulation → Part
next_part k = if k.is_begun then next_cycle k.network k.state else initial_run k.network k.lines

-- One is to come: the initial run, or a cycle at a time of at most 2^60 fs.
abbrev pub IsToCome : Simulation → Type 0
IsToCome k = k.is_begun ≡ true → IsSomeAnd (next_time k.state.drivers) (λ time. time ≤ 2 ^ 60)

-- A simulation after its next part, and the text of that.
abbrev pub after_next : Simulation → Simulation
after_next k = record k { is_begun = true; state = (next_part k).state }

abbrev pub next_text : Simulation → List ℕ
next_text k = text_of (told_by k (next_part k).happened)

-- ---- a run up to an end time

-- This is the run from a state that a begun simulation has; or the whole run, where the initial run is still to come.
abbrev pub IsRunAfter : Bool → Simulation → ℕ → ℕ → Run → Type 0
IsRunAfter true k until limit r = IsRunFrom k.network until limit k.state r
IsRunAfter false k until limit r = IsWholeRun k.network k.lines until limit r

-- This is the run from where a simulation stands.
abbrev pub IsRunOf : Simulation → ℕ → ℕ → Run → Type 0
IsRunOf k until limit r = IsRunAfter k.is_begun k until limit r

-- A call that goes on with a run prints its text; or a prefix of that, where writing or memory failed.
abbrev pub PrintsRun : Result Unit RunError → List ℕ → PrinterState → PrinterState → Type 0
PrintsRun (Ok x) text old new = Printed text old new
PrintsRun (Err (error.DeltaLimit time)) text old new = Printed text old new
PrintsRun (Err error.WriteFault) text old new = Stopped text old new
PrintsRun (Err error.NoMemory) text old new = (count : ℕ) × Printed (take count text) old new

-- It comes to the end of the run, which is that at the end time, or to the limit of delta numbers, of which the time is told.
abbrev pub ComesTo : Result Unit RunError → Simulation → Simulation → Run → Type 0
ComesTo (Ok x) old new r = (r.end ≡ Ended) × (new ≡ record old { is_begun = true; state = r.last })
ComesTo (Err (error.DeltaLimit time)) old new r = (r.end ≡ DeltaPassed time) × (new ≡ record old { is_begun = true; state = r.last })
ComesTo (Err other) old new r = ⊤

-- After a fault of the sink or want of memory, and then alone, the simulation is given up.
abbrev pub gives_up : Result Unit RunError → Bool
gives_up (Ok x) = false
gives_up (Err (error.DeltaLimit time)) = false
gives_up (Err error.WriteFault) = true
gives_up (Err error.NoMemory) = true

-- What a call did that goes on with a run.
pub record GoesOn (result : Result Unit RunError) (until limit : ℕ) (old new : Simulation) (before after : PrinterState) : Type 0 where
  pub prints : (r : Run) → IsRunOf old until limit r → PrintsRun result (text_of (told_by old r.happened)) before after
  pub comes_to : (r : Run) → IsRunOf old until limit r → ComesTo result old new r
  pub given_up : new.is_given_up ≡ gives_up result

-- ---- what a simulation is made of

-- A line of the stimuli is for a port with a driver, at a time of at most 2^60 fs.
pub record IsDriven (n : Network) (line : StimLine) : Type 0 where
  pub driver : list_any (λ driver. driver.signal == line.port) n.stimulus_drivers ≡ true
  pub time : line.time ≤ 2 ^ 60

-- ---- how the code keeps it

-- A state with lines that are still to be handed, as if they had been assigned in the initial run.
abbrev pub state_with : List ℕ → List StimLine → State → State
state_with numbers left s = record s { drivers = with_lines numbers left s.drivers }

-- A simulation with them.
abbrev pub simulation_with : List ℕ → List StimLine → Simulation → Simulation
simulation_with numbers left k = record k { state = state_with numbers left k.state }

-- The parts of a simulation are those of its network with its stimuli, in the state in which it stands without the lines that are left.
pub record AreParts (n : Network) (lines : List StimLine) (is_begun : Bool) (s : State) (numbers : List ℕ) (left : List StimLine) (most_due : ℕ) (signals : SignalState) (processes : ProcessStates) (listeners : ListenerState) : Type 0 where
  -- Signals, the processes that are sensitive to them, all processes, and the drivers for the stimuli are those of the network.
  pub defaults : signals.defaults ≡ map (λ s. s.initial) n.signals
  pub signals_of : signals.signals_of ≡ map (λ d. d.signal) (all_drivers n)
  pub listened : listeners.signals ≡ length n.signals
  pub sensitivities : listeners.sensitivities ≡ map sensitivity (processes' n)
  pub network : processes.network ≡ n
  pub stimulated : AreStimulusDrivers n numbers
  -- Each line is driven, and they are in order. Those that are left can be handed from the present on.
  pub driven : All (IsDriven n) lines
  pub in_order : IsNonDecreasing (map (λ line. line.time) lines)
  pub to_hand : AreLeft numbers (length n.stimulus_drivers) s.now left
  -- The signals have the values of the drivers, which have room in the list of those that are due.
  pub current : AreCurrent signals s.drivers
  pub room : length s.drivers ≤ most_due
  -- No process ran later, and the delta number can be counted on.
  pub latest : processes.latest ≤ s.now
  pub delta : s.delta < 2 ^ 64 - 1
  -- Before the initial run nothing was done, and no line is left.
  pub first : is_begun ≡ false → (s ≡ first_state n) × (left ≡ [])

-- A simulation after its initial run, where that was still to come, and the text of this.
abbrev pub begun : Simulation → Simulation
begun k = if k.is_begun then k else after_next k

abbrev pub begun_text : Simulation → List ℕ
begun_text k = if k.is_begun then [] else next_text k
