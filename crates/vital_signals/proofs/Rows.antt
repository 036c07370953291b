-- The definitions of values and events on worked rows, of which the answers were found by hand.
use Rattle.std.proofs.Common.{◌≡◌, ℕ, List, [], ◌∷◌, Some, None, true, false, refl}
use Rattle.vital_agenda.specs.Driver.{Driver}
use Rattle.vital_logic.specs.declared.level.Level.{Level}
use Rattle.vital_logic.specs.declared.level.Level.TheVariants.{U, X, Zero, One, Z, W, L, H, Dash}
use Rattle.vital_signals.specs.Events.{events_of, new_values, with_value, with_values}
use Rattle.vital_signals.specs.Lists.{is_listed}
use Rattle.vital_signals.specs.Rounds.{with_signals}
use Rattle.vital_signals.specs.SignalStates.{SignalState, first_signals, updated}
use Rattle.vital_signals.specs.Sources.{driver_from}
use Rattle.vital_signals.specs.Values.{driven, values, values_driving}
use Rattle.vital_signals.specs.declared.signal.Signal.{Signal}

abbrev driver : Level → Driver
driver current = record { current = current; pending = [] }

abbrev quiet : Level → Signal
quiet value = record { value = value; last_value = value; last_event = None }

abbrev signal : Level → Level → ℕ → Signal
signal value last_value time = record { value = value; last_value = last_value; last_event = Some time }

-- ---- values

no_driver_is_the_default : driven H [] ≡ H
no_driver_is_the_default = refl

one_driver_is_its_value : driven H (Dash ∷ []) ≡ Dash
one_driver_is_its_value = refl

two_drivers_are_resolved : driven H (Zero ∷ One ∷ []) ≡ X
two_drivers_are_resolved = refl

-- forcing is stronger than weak, and weak than high impedance
three_drivers_are_resolved : driven H (Z ∷ L ∷ One ∷ []) ≡ One
three_drivers_are_resolved = refl

two_that_are_not_driving : driven H (Z ∷ Z ∷ []) ≡ Z
two_that_are_not_driving = refl

-- don't care gives unknown as soon as it is resolved with another
dont_care_with_another : driven H (Dash ∷ Z ∷ []) ≡ X
dont_care_with_another = refl

drivers_of_one_signal_in_order : values_driving 1 (1 ∷ 0 ∷ 1 ∷ 2 ∷ 1 ∷ []) (Zero ∷ One ∷ Z ∷ W ∷ L ∷ []) ≡ Zero ∷ Z ∷ L ∷ []
drivers_of_one_signal_in_order = refl

-- signal 0 has one driver, signal 1 none, signal 2 two
each_signal_has_its_value : values (U ∷ H ∷ U ∷ []) (2 ∷ 0 ∷ 2 ∷ []) (driver L ∷ driver One ∷ driver Zero ∷ []) ≡ One ∷ H ∷ Zero ∷ []
each_signal_has_its_value = refl

-- ---- events

an_unchanged_value_is_no_event : with_value 9 (signal One Zero 4, One) ≡ signal One Zero 4
an_unchanged_value_is_no_event = refl

the_first_event : with_value 9 (quiet U, Zero) ≡ signal Zero U 9
the_first_event = refl

a_later_event : with_value 9 (signal One Zero 4, X) ≡ signal X One 9
a_later_event = refl

-- weak and forcing levels are different values
weak_and_forcing_differ : with_value 9 (quiet L, Zero) ≡ signal Zero L 9
weak_and_forcing_differ = refl

events_come_in_signal_order : new_values (quiet U ∷ signal One Zero 4 ∷ quiet Z ∷ signal X One 2 ∷ []) (Zero ∷ One ∷ H ∷ One ∷ []) ≡ (0, Zero) ∷ (2, H) ∷ (3, One) ∷ []
events_come_in_signal_order = refl

all_signals_get_values : with_values 9 (quiet U ∷ signal One Zero 4 ∷ quiet Z ∷ []) (Zero ∷ One ∷ H ∷ []) ≡ signal Zero U 9 ∷ signal One Zero 4 ∷ signal H Z 9 ∷ []
all_signals_get_values = refl

no_event : events_of (quiet U ∷ signal One Zero 4 ∷ []) (U ∷ One ∷ []) ≡ []
no_event = refl

-- ---- states

-- before the initial run each signal has the value that its drivers begin with, and no event
before_the_initial_run : first_signals (H ∷ U ∷ []) (1 ∷ 1 ∷ []) (Zero ∷ One ∷ [])
    ≡ record { defaults = H ∷ U ∷ []; signals_of = 1 ∷ 1 ∷ []; signals = quiet H ∷ quiet X ∷ []; events = [] }
before_the_initial_run = refl

-- the first driver of signal 1 stops driving, and the only one of signal 2 stays
abbrev three_signals : List Signal → List ℕ → SignalState
three_signals signals events = record { defaults = H ∷ U ∷ U ∷ []; signals_of = 1 ∷ 2 ∷ 1 ∷ []; signals = signals; events = events }

after_a_cycle : updated (record { now = 9; drivers = driver Z ∷ driver W ∷ driver One ∷ [] }) (three_signals (quiet H ∷ signal X U 4 ∷ quiet W ∷ []) (0 ∷ 2 ∷ []))
    ≡ three_signals (quiet H ∷ signal One X 9 ∷ quiet W ∷ []) (1 ∷ [])
after_a_cycle = refl

-- ---- lists of drivers and of numbers

abbrev four_drivers : List ℕ
four_drivers = 1 ∷ 2 ∷ 0 ∷ 2 ∷ []

the_first_driver : driver_from 0 2 four_drivers ≡ Some 1
the_first_driver = refl

the_next_driver : driver_from 2 2 four_drivers ≡ Some 3
the_next_driver = refl

no_more_driver : driver_from 4 2 four_drivers ≡ None
no_more_driver = refl

no_driver_of_the_signal : driver_from 0 3 four_drivers ≡ None
no_driver_of_the_signal = refl

a_number_is_listed : is_listed 3 (1 ∷ 3 ∷ []) ≡ true
a_number_is_listed = refl

another_is_not_listed : is_listed 2 (1 ∷ 3 ∷ []) ≡ false
another_is_not_listed = refl

-- signals 2 and 0 of three get their values, and that of 0 is the one it had
one_after_the_other : with_signals 9 (U ∷ One ∷ Zero ∷ []) (2 ∷ 0 ∷ []) (record { signals = quiet U ∷ quiet Z ∷ quiet H ∷ []; events = [] })
    ≡ record { signals = quiet U ∷ quiet Z ∷ signal Zero H 9 ∷ []; events = 2 ∷ [] }
one_after_the_other = refl
