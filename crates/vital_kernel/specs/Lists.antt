-- For each signal the processes that are sensitive to it.
use Rattle.std.specs.Prelude.{◌≡◌, ℕ, ◌<◌, List, [], ◌∷◌, ◌++◌, fold, length, slice_index_or, slice_set}
use Rattle.vital_signals.specs.Lists.{is_listed}

-- A process is listed for the signals to which it is sensitive, where these are the signals to which each process is.
abbrev pub AreListed : List (List ℕ) → List (List ℕ) → Type 0
AreListed sensitivities lists =
    (number process : ℕ) → number < length lists
    → is_listed process (slice_index_or lists number []) ≡ is_listed number (slice_index_or sensitivities process [])

-- One process more is listed for a signal, if there is one of this number.
abbrev pub with_process : ℕ → List (List ℕ) → ℕ → List (List ℕ)
with_process process lists number = slice_set lists number (slice_index_or lists number [] ++ process ∷ [])

-- It is listed for each of these signals.
abbrev pub listening : ℕ → List (List ℕ) → List ℕ → List (List ℕ)
listening process lists numbers = fold (with_process process) lists numbers
