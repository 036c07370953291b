-- What the expressions of a process see while it is activated, by numbers.
use Rattle.std.specs.Prelude.{ℕ, List, slice_get, unwrap_or}
use Rattle.vital_machine.specs.declared.seen.Seen.{Seen as Seen'}
use Rattle.vital_machine.specs.declared.slot.Slot.{Slot}
use Rattle.vital_machine.specs.declared.input.Input.{Input}
use Rattle.vital_machine.specs.Inputs.{absent}
use Rattle.vital_logic.specs.declared.level.Level.{Level}

pub record Seen : Type 0 where
  pub inputs : List Input
  pub slots : List Slot

abbrev pub seen_of : List Input → List Slot → Seen
seen_of inputs slots = record { inputs = inputs; slots = slots }

-- What is borrowed of it.
abbrev pub lent : Seen' → Seen
lent s = record { inputs = s.inputs.now; slots = s.slots.now }

-- The value of the bit of a number; U where there is none.
abbrev pub bit : Seen → ℕ → Level
bit s number = (unwrap_or (slice_get s.inputs number) absent).value

-- How long ago its last event was; 0 where there is none.
abbrev pub age : Seen → ℕ → ℕ
age s number = (unwrap_or (slice_get s.inputs number) absent).age
