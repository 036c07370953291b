-- The definitions of drivers and agendas on worked rows, of which the answers were found by hand.
use Rattle.std.proofs.Common.{◌≡◌, ℕ, List, [], ◌∷◌, Some, None, refl}
use Rattle.vital_base.specs.declared.kind.Kind.TheVariants.{Transport, Inertial}
use Rattle.vital_logic.specs.declared.level.Level.{Level}
use Rattle.vital_logic.specs.declared.level.Level.TheVariants.{U, X, Zero, One, Z}
use Rattle.vital_agenda.specs.declared.transaction.Transaction.{Transaction}
use Rattle.vital_agenda.specs.Driver.{Driver, pending_after, send, next_time}
use Rattle.vital_agenda.specs.Agendas.{idle, assigned, advanced, due_at}

abbrev at : ℕ → Level → Transaction
at time value = record { time = time; value = value }

abbrev driver : Level → List Transaction → Driver
driver current pending = record { current = current; pending = pending }

-- ---- assignments

-- X after 5, 1 after 8, 1 after 10, each by transport
three : send 0 Transport One 10 (send 0 Transport One 8 (send 0 Transport X 5 (driver Zero []))) ≡ driver Zero (at 5 X ∷ at 8 One ∷ at 10 One ∷ [])
three = refl

-- then 1 after 12, inertial: each that immediately precedes a kept one with the same value stays
a_run_of_equal_values_stays : pending_after Inertial 0 One 12 (at 5 X ∷ at 8 One ∷ at 10 One ∷ []) ≡ at 8 One ∷ at 10 One ∷ at 12 One ∷ []
a_run_of_equal_values_stays = refl

-- then 0 after 9 by transport
transport_deletes_from_its_time_on : pending_after Transport 0 Zero 9 (at 8 One ∷ at 10 One ∷ at 12 One ∷ []) ≡ at 8 One ∷ at 9 Zero ∷ []
transport_deletes_from_its_time_on = refl

-- another value between equal ones ends their run
another_value_ends_the_run : pending_after Inertial 0 One 12 (at 8 One ∷ at 9 Zero ∷ at 10 One ∷ []) ≡ at 10 One ∷ at 12 One ∷ []
another_value_ends_the_run = refl

-- no pending one has the new value
all_others_go : pending_after Inertial 0 One 12 (at 5 X ∷ at 8 Zero ∷ at 10 Z ∷ []) ≡ at 12 One ∷ []
all_others_go = refl

-- pending ones at and after the new time go, of whatever value
later_ones_go : pending_after Inertial 0 One 12 (at 12 One ∷ at 13 One ∷ []) ≡ at 12 One ∷ []
later_ones_go = refl

-- one before the time less the delay stays, whatever its value, and so does its own run before it
earlier_ones_stay : pending_after Inertial 10 One 3 (at 5 Zero ∷ at 12 Zero ∷ []) ≡ at 5 Zero ∷ at 13 One ∷ []
earlier_ones_stay = refl

the_time_less_the_delay_is_not_before : pending_after Inertial 10 One 3 (at 10 Zero ∷ []) ≡ at 13 One ∷ []
the_time_less_the_delay_is_not_before = refl

-- ---- agendas

-- one driver is assigned to, after the present time
one_is_assigned : assigned 1 Transport One 5 (record { now = 3; drivers = driver X [] ∷ driver Z (at 9 Zero ∷ []) ∷ [] })
    ≡ record { now = 3; drivers = driver X [] ∷ driver Z (at 8 One ∷ []) ∷ [] }
one_is_assigned = refl

-- two of three are due at the next time, and take their values
abbrev three_drivers : List Driver
three_drivers = driver X (at 5 One ∷ at 7 Zero ∷ []) ∷ driver U (at 6 One ∷ []) ∷ driver Z (at 5 Zero ∷ []) ∷ []

the_least_time_is_next : next_time three_drivers ≡ Some 5
the_least_time_is_next = refl

two_are_due : due_at 5 three_drivers ≡ 0 ∷ 2 ∷ []
two_are_due = refl

they_take_their_values : advanced 5 (record { now = 3; drivers = three_drivers })
    ≡ record { now = 5; drivers = driver One (at 7 Zero ∷ []) ∷ driver U (at 6 One ∷ []) ∷ driver Zero [] ∷ [] }
they_take_their_values = refl

-- nothing is pending at first
nothing_is_next : next_time (idle (U ∷ Z ∷ [])).drivers ≡ None
nothing_is_next = refl
