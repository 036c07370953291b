-- Decimal digits of natural numbers, that of the ones first.
use Rattle.std.specs.Prelude.{ℕ, zero, suc, ◌+◌, ◌*◌, ◌<◌, List, [], ◌∷◌, All}

-- The number that digits write.
abbrev pub value : List ℕ → ℕ
value [] = 0
value (d ∷ ds) = d + 10 * value ds

abbrev pub AreDigits : List ℕ → Type 0
AreDigits ds = All (λ d. d < 10) ds

-- A digit before others that are significant: a zero is none where there are no others.
abbrev pub before : ℕ → List ℕ → List ℕ
before zero [] = []
before (suc d) [] = suc d ∷ []
before d (e ∷ es) = d ∷ e ∷ es

-- Digits without the zeros behind the last other one.
abbrev pub significant : List ℕ → List ℕ
significant [] = []
significant (d ∷ ds) = before d (significant ds)
