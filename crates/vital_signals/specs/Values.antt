-- The values that their drivers give to signals (IEEE 1076-1993, 12.6.2).
use Rattle.std.specs.Prelude.{ℕ, ◌==◌, ◌∷◌, List, [], map, filter}
use Rattle.std.specs.List.{enumerate_from, zip}
use Rattle.vital_agenda.specs.Driver.{Driver, currents}
use Rattle.vital_logic.specs.Tables.{resolved}
use Rattle.vital_logic.specs.declared.level.Level.{Level}

-- What the values of its drivers make of a signal: its default where there is none, the value of the one, or the resolution of more.
abbrev pub driven : Level → List Level → Level
driven default [] = default
driven default (value ∷ []) = value
driven default (value ∷ other ∷ others) = resolved (value ∷ other ∷ others)

-- The values of the drivers of the signal of a number, in order, where each driver has the number of its signal and a present value.
abbrev pub values_driving : ℕ → List ℕ → List Level → List Level
values_driving number signals_of currents = map (λ d. d.1) (filter (λ d. d.0 == number) (zip signals_of currents))

-- The value of the signal of a number, which has a default, where these are the drivers.
abbrev pub value_of : List ℕ → List Driver → (ℕ × Level) → Level
value_of signals_of drivers (number, default) = driven default (values_driving number signals_of (currents drivers))

-- The values of all signals, in order, where these are their defaults and these the drivers, each with the number of its signal.
abbrev pub values : List Level → List ℕ → List Driver → List Level
values defaults signals_of drivers = map (value_of signals_of drivers) (enumerate_from 0 defaults)
