-- What the processes of a network see, what their variables hold, and what they do.
use Rattle.std.specs.Prelude.{ℕ, ◌-◌, List, [], map, length, slice_get, slice_set, unwrap_or}
use Rattle.std.specs.List.{range_with_len}
use Rattle.std.specs.Option.{option_map_or}
use Rattle.vital_agenda.specs.Agendas.{changed}
use Rattle.vital_cell.specs.Execution.{all_executed, exec, start}
use Rattle.vital_cell.specs.Statements as statements
use Rattle.vital_cell.specs.Variables.{Slot}
use Rattle.vital_machine.specs.Inputs.{absent}
use Rattle.vital_machine.specs.declared.effect.Effect.{Effect}
use Rattle.vital_machine.specs.declared.input.Input.{Input}
use Rattle.vital_kernel.specs.Networks.{NetCell, NetProcess, Network}
use Rattle.vital_signals.specs.declared.signal.Signal.{Signal}

-- TIME'HIGH in femtoseconds: 2^63 - 1.
abbrev pub time_high : ℕ
time_high = 9_223_372_036_854_775_807

-- A signal at a time: its value, its LAST_VALUE, and its LAST_EVENT, which is TIME'HIGH where it had no event (IEEE 1076-1993, 14.1).
abbrev pub input : ℕ → Signal → Input
input now signal =
    record { value = signal.value; last = signal.last_value; age = option_map_or (λ time. now - time) signal.last_event time_high }

-- What a process sees of the bits of its cell at a time, where the signals are these.
abbrev pub inputs : ℕ → List Signal → NetProcess → List Input
inputs now signals p = map (λ number. option_map_or (input now) (slice_get signals number) absent) p.cell.wires

-- What the variables of a process hold, where these are those of all processes: for each instance of a cell, of each of its processes.
abbrev pub slots_of : List (List (List Slot)) → NetProcess → List Slot
slots_of variables p = unwrap_or (slice_get (unwrap_or (slice_get variables p.instance) []) p.number) []

-- The variables of all processes, where those of one hold this.
abbrev pub with_slots : NetProcess → List Slot → List (List (List Slot)) → List (List (List Slot))
with_slots p slots variables = changed p.instance (λ of_processes. slice_set of_processes p.number slots) variables

-- What the variables of the processes of an instance begin as.
abbrev pub first_variables : NetCell → List (List Slot)
first_variables cell = map (start cell.tree cell.delays) (range_with_len 0 (length (all_executed cell.tree)))

-- What a process does when it runs at a time, where the signals and the variables of all processes are these: what its variables hold then,
-- and its effects.
abbrev pub done_by : ℕ → List Signal → List (List (List Slot)) → NetProcess → statements.State
done_by now signals variables p =
    exec p.cell.tree p.cell.delays p.number now (inputs now signals p) (slots_of variables p)

-- The network, what the variables of all its processes hold, what the process that ran last did, and when it ran.
pub record ProcessStates : Type 0 where
  pub network : Network
  pub variables : List (List (List Slot))
  pub effects : List Effect
  pub latest : ℕ

-- After a process ran at a time.
abbrev pub after : ℕ → List Signal → NetProcess → ProcessStates → ProcessStates
after now signals p s =
    let done = done_by now signals s.variables p in
    record s { variables = with_slots p done.slots s.variables; effects = done.effects; latest = now }
