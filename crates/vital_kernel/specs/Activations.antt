-- What a part of a run does to the parts of a simulation: its agenda, its signals, its processes and its printer.
use Rattle.std.specs.Prelude.{◌≡◌, ◌≤◌, ◌^◌, ℕ, List, [], length, slice_get, unwrap_or, OnOk, Result, if◌then◌else◌}
use Rattle.std.specs.List.{flat_map}
use Rattle.std.specs.Option.{option_map, option_map_or}
use Rattle.vital_agenda.specs.Agendas.{Content}
use Rattle.vital_cell.specs.Variables.{Slot}
use Rattle.vital_kernel.specs.Cycles.{Happening, Part, all_activated}
use Rattle.vital_kernel.specs.Lines.{lines_of}
use Rattle.vital_kernel.specs.States.{State}
use Rattle.vital_logic.specs.declared.level.Level.{Level}
use Rattle.vital_logic.specs.declared.level.Level.TheVariants.{U}
use Rattle.vital_machine.specs.declared.effect.Effect.{Effect}
use Rattle.vital_machine.specs.declared.effect.Effect.TheVariants as effect
use Rattle.vital_kernel.specs.Networks.{NetCell, NetProcess, Network, all_drivers}
use Rattle.vital_kernel.specs.declared.network.NetSignal.{NetSignal}
use Rattle.vital_kernel.specs.Processes.{ProcessStates}
use Rattle.vital_report.specs.Lines.{bytes_of, event, glitch, init, text_of, violation}
use Rattle.vital_report.specs.Reporters.{PrinterState, PrintsPart}
use Rattle.vital_report.specs.declared.print_error.PrintError.{PrintError}
use Rattle.vital_signals.specs.SignalStates.{AreCurrent, SignalState}
use Rattle.vital_signals.specs.declared.signal.Signal.{Signal}
use Rattle.vital_typed_cells.specs.Bits.{names_of}
use Rattle.vital_typed_cells.specs.declared.typed_cell.TypedCell.{TypedCell}

-- The state whose parts these are.
abbrev pub state_of : Content → ℕ → List Signal → List (List (List Slot)) → State
state_of content delta signals variables =
    record { now = content.now; delta = delta; drivers = content.drivers; signals = signals; variables = variables }

-- A part of a run in which nothing has happened yet.
abbrev pub from_state : State → Part
from_state s = record { state = s; happened = [] }

-- The text of what happened.
abbrev pub text_in : Network → List Happening → List ℕ
text_in n happened = text_of (flat_map (lines_of n) happened)

-- The present time and the number of drivers stay, and so do the values that the drivers give to signals.
pub record KeepsValues (old new : Content) : Type 0 where
  pub now : new.now ≡ old.now
  pub as_many : length new.drivers ≡ length old.drivers
  pub current : (s : SignalState) → AreCurrent s old.drivers → AreCurrent s new.drivers

-- ---- texts

-- The value of a signal before the initial run, and that after an event, where it is watched.
abbrev pub init_text : (NetSignal × Level) → List ℕ
init_text (signal, value) = if signal.is_watched then bytes_of (init signal.name value) else []

abbrev pub event_text : ℕ → ℕ → Level → NetSignal → List ℕ
event_text time delta value signal = if signal.is_watched then bytes_of (event time delta signal.name value) else []

-- The value of a signal, which is there: U stands for none that is missing.
abbrev pub value_at : List Signal → ℕ → Level
value_at signals number = option_map_or (λ s. s.value) (slice_get signals number) U

-- The event of the signal of a number.
abbrev pub event_text_at : ℕ → ℕ → List NetSignal → List Signal → ℕ → List ℕ
event_text_at time delta watched signals number =
    option_map_or (event_text time delta (value_at signals number)) (slice_get watched number) []

-- The name of a bit of a cell.
abbrev pub name_of : TypedCell → ℕ → List ℕ
name_of c bit = unwrap_or (slice_get (names_of c.ports c.signals) bit) []

-- The message of an effect of a process of an instance, if it is one.
abbrev pub message_text : ℕ → ℕ → NetCell → Effect → List ℕ
message_text time delta cell (effect.Assign driver s) = []
message_text time delta cell (effect.Glitch port) = bytes_of (glitch time delta cell.path (name_of cell.tree port))
message_text time delta cell (effect.Violation test reference violated) =
    bytes_of (violation time delta cell.path (name_of cell.tree test) (option_map (name_of cell.tree) reference) violated)

-- ---- processes

-- The processes of a network can run: they are those of this network, none ran after the present time, which is at most 2^60 fs, and there
-- are as many signals and drivers as in the network.
pub record CanRun (n : Network) (content : Content) (seen : SignalState) (processes : ProcessStates) : Type 0 where
  pub network : processes.network ≡ n
  pub later : processes.latest ≤ content.now
  pub now : content.now ≤ 2 ^ 60
  pub signals : length seen.signals ≡ length n.signals
  pub drivers : length content.drivers ≡ length (all_drivers n)

-- Some processes run one after the other, and what they tell is printed.
pub record Activates (result : Result Unit PrintError) (n : Network) (ps : List NetProcess) (before after : State) (old new : PrinterState) : Type 0 where
  pub state : OnOk result (after ≡ (all_activated ps (from_state before)).state)
  pub prints : PrintsPart result (text_in n (all_activated ps (from_state before)).happened) old new
