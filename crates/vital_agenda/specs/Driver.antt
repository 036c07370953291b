-- The driver of a signal and its projected output waveform (IEEE 1076-1993, 8.4.1 and 12.6.1).
use Rattle.std.specs.Prelude.{ℕ, ◌+◌, ◌-◌, ◌≤◌, Bool, true, false, not, ◌&&◌, ◌||◌, ◌==◌, nat_lt, min, List, [], ◌∷◌, ◌++◌, length, map, filter, find, Option, Some, None, if◌then◌else◌}
use Rattle.std.specs.List.{flat_map}
use Rattle.std.specs.Option.{option_map_or}
use Rattle.vital_base.specs.declared.kind.Kind.{Kind}
use Rattle.vital_base.specs.declared.kind.Kind.TheVariants.{Transport, Inertial}
use Rattle.vital_logic.specs.declared.level.Level.{Level}
use Rattle.vital_logic.specs.Levels.{byte_of}
use Rattle.vital_agenda.specs.declared.transaction.Transaction.{Transaction}

-- The present value, and the transactions that are pending, at strictly rising times.
pub record Driver : Type 0 where
  pub current : Level
  pub pending : List Transaction

-- The transactions are at strictly rising times, the first at a time that is at least low.
abbrev pub RisesFrom : ℕ → List Transaction → Type 0
RisesFrom low [] = Unit {0}
RisesFrom low (x ∷ later) = (low ≤ x.time) × RisesFrom (x.time + 1) later

-- Each driver's transactions rise from a time.
abbrev pub AllRise : ℕ → List Driver → Type 0
AllRise low [] = Unit {0}
AllRise low (driver ∷ drivers) = RisesFrom low driver.pending × AllRise low drivers

-- The present values of drivers.
abbrev pub currents : List Driver → List Level
currents drivers = map (λ driver. driver.current) drivers

-- Are two levels the same?
abbrev pub same_level : Level → Level → Bool
same_level a b = byte_of a == byte_of b

-- Is the first of these transactions kept by an inertial assignment, of which the last one is the new one? The new one
-- is; so is each that comes before the limit, and each that immediately precedes a kept one with the same value.
abbrev pub is_kept : ℕ → List Transaction → Bool
is_kept limit [] = false
is_kept limit (x ∷ []) = true
is_kept limit (x ∷ y ∷ later) = nat_lt x.time limit || (same_level x.value y.value && is_kept limit (y ∷ later))

-- What an inertial assignment keeps of the transactions, of which the last one is the new one.
abbrev pub kept : ℕ → List Transaction → List Transaction
kept limit [] = []
kept limit (x ∷ later) = if is_kept limit (x ∷ later) then x ∷ kept limit later else kept limit later

-- Does a transaction come before a time?
abbrev pub is_before : ℕ → Transaction → Bool
is_before time x = nat_lt x.time time

-- The pending transactions before a time, and then a new one at that time: what a transport assignment leaves.
abbrev pub with_new : List Transaction → ℕ → Level → List Transaction
with_new pending time value = filter (is_before time) pending ++ record { time = time; value = value } ∷ []

-- What an assignment of a value after a delay leaves pending, at the present time now. The pulse rejection limit of an
-- inertial one is its delay.
abbrev pub pending_after : Kind → ℕ → Level → ℕ → List Transaction → List Transaction
pending_after Transport now value delay pending = with_new pending (now + delay) value
pending_after Inertial now value delay pending = kept (now + delay - delay) (with_new pending (now + delay) value)

-- A signal assignment to a driver (IEEE 1076-1993, 8.4.1).
abbrev pub send : ℕ → Kind → Level → ℕ → Driver → Driver
send now kind value delay driver =
    record { current = driver.current; pending = pending_after kind now value delay driver.pending }

-- The sooner of two times, either of which may be missing.
abbrev pub sooner : Option ℕ → Option ℕ → Option ℕ
sooner None other = other
sooner (Some time) None = Some time
sooner (Some time) (Some other) = Some (min time other)

-- The least of some times.
abbrev pub least : List ℕ → Option ℕ
least [] = None
least (time ∷ times) = sooner (Some time) (least times)

-- The times at which a driver has pending transactions.
abbrev pub pending_times : Driver → List ℕ
pending_times driver = map (λ x. x.time) driver.pending

-- The time of the next transaction of any driver.
abbrev pub next_time : List Driver → Option ℕ
next_time drivers = least (flat_map pending_times drivers)

-- Does a transaction come at a time?
abbrev pub is_at : ℕ → Transaction → Bool
is_at time x = x.time == time

-- A transaction at this time becomes the present value and leaves the list (IEEE 1076-1993, 12.6.1).
abbrev pub advance : ℕ → Driver → Driver
advance time driver =
    record {
      current = option_map_or (λ x. x.value) (find (is_at time) driver.pending) driver.current;
      pending = filter (λ x. not (is_at time x)) driver.pending;
    }

-- How many transactions are pending. A cycle takes at least one off.
abbrev pub pending_count : List Driver → ℕ
pending_count [] = 0
pending_count (driver ∷ drivers) = length driver.pending + pending_count drivers
