-- The alternatives of a grammar and their symbols, one after another.
use Rattle.std.specs.Prelude.{◌≡◌, ℕ, zero, suc, ◌<◌, List, [], ◌∷◌, ◌++◌, length, Some, IsSome, All, Contains}
use Rattle.vital_ll.specs.declared.grammar.Sym.{Sym}
use Rattle.vital_ll.specs.declared.derivation.Step.{Step}
use Rattle.vital_ll.specs.declared.listing.Place.{Place}
use Rattle.vital_ll.specs.Grammar.{Grammar, alternative_of}

abbrev pub step : ℕ → ℕ → Step
step r a = record { rule = r; alternative = a }

abbrev pub place : Step → ℕ → Place
place s k = record { step = s; symbol = k }

-- the first n alternatives of a rule
abbrev pub steps_of : ℕ → ℕ → List Step
steps_of r zero = []
steps_of r (suc n) = steps_of r n ++ step r n ∷ []

-- the first n symbols of an alternative
abbrev pub places_of : Step → ℕ → List Place
places_of s zero = []
places_of s (suc n) = places_of s n ++ place s n ∷ []

-- the alternative is there
abbrev pub IsStepOf : Grammar → Step → Type 0
IsStepOf g s = IsSome (alternative_of g s.rule s.alternative)

-- each alternative and nothing else
pub record ListsSteps (g : Grammar) (steps : List Step) : Type 0 where
  pub there : All (IsStepOf g) steps
  pub complete : (r a : ℕ) → IsSome (alternative_of g r a) → Contains steps (step r a)

-- the symbol is there
abbrev pub IsPlaceOf : Grammar → Place → Type 0
IsPlaceOf g p = (chosen : List Sym) × (alternative_of g p.step.rule p.step.alternative ≡ Some chosen) × (p.symbol < length chosen)

-- each symbol of each alternative and nothing else
pub record ListsPlaces (g : Grammar) (steps : List Step) (places : List Place) : Type 0 where
  pub there : All (IsPlaceOf g) places
  pub complete : (s : Step) (k : ℕ) (chosen : List Sym) → Contains steps s → alternative_of g s.rule s.alternative ≡ Some chosen → k < length chosen → Contains places (place s k)
