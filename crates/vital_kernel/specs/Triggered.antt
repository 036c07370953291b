-- Which processes events make run.
use Rattle.std.specs.Prelude.{ℕ, ◌==◌, Bool, List, map, filter}
use Rattle.std.specs.List.{enumerate_from, list_any}

-- How many signals there are, those to which each process is sensitive, and the numbers of the processes that the events of the last cycle
-- make run.
pub record ListenerState : Type 0 where
  pub signals : ℕ
  pub sensitivities : List (List ℕ)
  pub triggered : List ℕ

-- Is a process, which is sensitive to some signals, so to one of those that have an event?
abbrev pub is_triggered : List ℕ → List ℕ → Bool
is_triggered events sensitivity = list_any (λ number. list_any (λ event. event == number) events) sensitivity

-- The numbers of the processes that are, rising.
abbrev pub triggered_by : List ℕ → List (List ℕ) → List ℕ
triggered_by events sensitivities = map (λ p. p.0) (filter (λ p. is_triggered events p.1) (enumerate_from 0 sensitivities))
