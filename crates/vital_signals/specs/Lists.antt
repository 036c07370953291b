-- Lists of numbers of signals.
use Rattle.std.specs.Prelude.{ℕ, ◌+◌, ◌<◌, ◌≤◌, ◌==◌, Bool, List, [], ◌∷◌}
use Rattle.std.specs.List.{list_any}

-- The numbers that are listed, and for how many there is room.
pub record NumberList : Type 0 where
  pub listed : List ℕ
  pub room : ℕ

-- Is a number listed?
abbrev pub is_listed : ℕ → List ℕ → Bool
is_listed number numbers = list_any (λ other. other == number) numbers

-- The numbers rise strictly, from low on and below high.
abbrev pub AreRising : ℕ → ℕ → List ℕ → Type 0
AreRising low high [] = Unit {0}
AreRising low high (number ∷ numbers) = (low ≤ number) × (number < high) × AreRising (number + 1) high numbers
