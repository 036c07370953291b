-- The content of an agenda, and what its calls make of it (IEEE 1076-1993, 8.4.1 and 12.6.1).
use Rattle.std.specs.Prelude.{◌≡◌, Some, false, ℕ, zero, suc, Bool, List, [], ◌∷◌, map, find, is_some, if◌then◌else◌}
use Rattle.vital_base.specs.declared.kind.Kind.{Kind}
use Rattle.vital_logic.specs.declared.level.Level.{Level}
use Rattle.vital_agenda.specs.Driver.{Driver, AllRise, send, is_at, advance}

-- The present time, and the drivers.
pub record Content : Type 0 where
  pub now : ℕ
  pub drivers : List Driver

-- No transaction is pending at a time before the present, and those of each driver are at strictly rising times.
abbrev pub IsAgenda : Content → Type 0
IsAgenda content = AllRise content.now content.drivers

-- A driver with a value and nothing pending.
abbrev pub idle_driver : Level → Driver
idle_driver current = record { current = current; pending = [] }

-- Drivers with nothing pending, at time 0.
abbrev pub idle : List Level → Content
idle initial = record { now = 0; drivers = map idle_driver initial }

-- A list with the item of a number changed.
abbrev pub changed : {A : Type 0} → ℕ → (A → A) → List A → List A
changed number change [] = []
changed zero change (item ∷ items) = change item ∷ items
changed (suc number) change (item ∷ items) = item ∷ changed number change items

-- After the assignment of a value to a driver.
abbrev pub assigned : ℕ → Kind → Level → ℕ → Content → Content
assigned driver kind value delay content = record {
  now = content.now;
  drivers = changed driver (send content.now kind value delay) content.drivers;
}

-- After the cycle at a time has given the drivers their values.
abbrev pub advanced : ℕ → Content → Content
advanced time content = record { now = time; drivers = map (advance time) content.drivers }

-- Has a driver a transaction at a time?
abbrev pub is_due : ℕ → Driver → Bool
is_due time driver = is_some (find (is_at time) driver.pending)

-- The numbers of the drivers that have a transaction at a time, rising, where the first of them has a number.
abbrev pub due_from : ℕ → ℕ → List Driver → List ℕ
due_from number time [] = []
due_from number time (driver ∷ drivers) =
    if is_due time driver then number ∷ due_from (suc number) time drivers else due_from (suc number) time drivers

-- The numbers of the drivers that have a transaction at a time, rising.
abbrev pub due_at : ℕ → List Driver → List ℕ
due_at time drivers = due_from 0 time drivers

-- The first of the drivers that have a transaction at a time has this number, and the transaction has this value.
abbrev pub IsFirstDue : ℕ → ℕ → Level → List Driver → Type 0
IsFirstDue time number value [] = ⊥
IsFirstDue time zero value (driver ∷ drivers) = find (is_at time) driver.pending ≡ Some (record { time = time; value = value })
IsFirstDue time (suc number) value (driver ∷ drivers) = (is_due time driver ≡ false) × IsFirstDue time number value drivers
