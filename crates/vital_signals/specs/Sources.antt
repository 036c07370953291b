-- The lists of the drivers of each signal.
use Rattle.std.specs.Prelude.{◌≡◌, ℕ, suc, ◌<◌, ◌≤◌, ◌==◌, List, [], ◌∷◌, length, drop, EachIndex, Option, None, Some, slice_index, slice_index_or, if◌then◌else◌}
use Rattle.vital_logic.specs.declared.level.Level.{Level}

-- The values of all signals without drivers, and for each driver the number of its signal.
pub record SourceLists : Type 0 where
  pub defaults : List Level
  pub signals_of : List ℕ

-- The number of the first of some drivers that is one of the signal of a number, where the first of them all has the number n.
abbrev pub first_from : ℕ → ℕ → List ℕ → Option ℕ
first_from n number [] = None
first_from n number (signal ∷ signals) = if signal == number then Some n else first_from (suc n) number signals

-- The number of the first driver from low on that is one of the signal of a number.
abbrev pub driver_from : ℕ → ℕ → List ℕ → Option ℕ
driver_from low number signals_of = first_from low number (drop low signals_of)

-- As far as the drivers from low on go: each signal has its first one, and each of them the next one of the same signal.
pub record AreLinkedFrom (low : ℕ) (signals_of : List ℕ) (firsts nexts : List (Option ℕ)) : Type 0 where
  pub one_each : length nexts ≡ length signals_of
  pub there : EachIndex signals_of (λ driver. slice_index signals_of driver < length firsts)
  pub first : (number : ℕ) → number < length firsts → slice_index_or firsts number None ≡ driver_from low number signals_of
  pub next : (driver : ℕ) → low ≤ driver → driver < length nexts
      → slice_index_or nexts driver None ≡ driver_from (suc driver) (slice_index signals_of driver) signals_of
