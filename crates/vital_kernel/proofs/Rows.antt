-- The definitions of what processes see and of what their variables hold on worked rows, of which the answers were found by hand.
use Rattle.std.proofs.Common.{◌≡◌, ℕ, List, [], ◌∷◌, Some, None, refl}
use Rattle.vital_cell.specs.Execution.{Executed}
use Rattle.vital_cell.specs.Variables.{Slot}
use Rattle.vital_logic.specs.declared.level.Level.{Level}
use Rattle.vital_logic.specs.declared.level.Level.TheVariants.{X, Zero, One, Z, U}
use Rattle.vital_machine.specs.declared.input.Input.{Input}
use Rattle.vital_kernel.specs.Networks.{NetCell, NetProcess}
use Rattle.vital_kernel.specs.Processes.{input, inputs, slots_of, with_slots}
use Rattle.vital_signals.specs.declared.signal.Signal.{Signal}

abbrev seen : Level → Level → ℕ → Input
seen value last age = record { value = value; last = last; age = age }

abbrev quiet : Level → Signal
quiet value = record { value = value; last_value = value; last_event = None }

abbrev signal : Level → Level → ℕ → Signal
signal value last_value time = record { value = value; last_value = last_value; last_event = Some time }

abbrev process_of : NetCell → ℕ → ℕ → Executed → NetProcess
process_of cell instance number executed = record { instance = instance; cell = cell; number = number; executed = executed }

-- ---- what is seen of a signal

an_event_before : input 100 (signal One Zero 40) ≡ seen One Zero 60
an_event_before = refl

an_event_now : input 100 (signal X Z 100) ≡ seen X Z 0
an_event_now = refl

-- LAST_EVENT is TIME'HIGH, 2^63 - 1 fs
no_event : input 100 (quiet Zero) ≡ seen Zero Zero 9_223_372_036_854_775_807
no_event = refl

-- ---- what is seen of the bits of a cell

-- bit 0 is signal 2, and bits 1 and 2 are signal 0
bits_by_their_signals : (cell : NetCell) (executed : Executed) → inputs 9 (signal One Zero 5 ∷ quiet U ∷ quiet Z ∷ []) (process_of (record cell { wires = 2 ∷ 0 ∷ 0 ∷ [] }) 3 1 executed) ≡ seen Z Z 9_223_372_036_854_775_807 ∷ seen One Zero 4 ∷ seen One Zero 4 ∷ []
bits_by_their_signals cell executed = refl

-- ---- what variables hold

-- those of the second process of the first instance
slots_by_place : (cell : NetCell) (executed : Executed) (a b c : List Slot) → slots_of ((a ∷ b ∷ []) ∷ (c ∷ []) ∷ []) (process_of cell 0 1 executed) ≡ b
slots_by_place cell executed a b c = refl

no_slots_without_a_place : (cell : NetCell) (executed : Executed) (a b c : List Slot) → slots_of ((a ∷ b ∷ []) ∷ (c ∷ []) ∷ []) (process_of cell 1 1 executed) ≡ []
no_slots_without_a_place cell executed a b c = refl

-- those of the others stay
one_process_changes : (cell : NetCell) (executed : Executed) (a b c d : List Slot) → with_slots (process_of cell 0 1 executed) d ((a ∷ b ∷ []) ∷ (c ∷ []) ∷ []) ≡ (a ∷ d ∷ []) ∷ (c ∷ []) ∷ []
one_process_changes cell executed a b c d = refl

one_process_of_a_later_instance_changes : (cell : NetCell) (executed : Executed) (a b c d : List Slot) → with_slots (process_of cell 1 0 executed) d ((a ∷ b ∷ []) ∷ (c ∷ []) ∷ []) ≡ (a ∷ b ∷ []) ∷ (d ∷ []) ∷ []
one_process_of_a_later_instance_changes cell executed a b c d = refl
