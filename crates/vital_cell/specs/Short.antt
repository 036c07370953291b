-- Scopes in which no delay is above 2^50 fs.
use Rattle.std.specs.Prelude.{◌≡◌, true, List, Option, Some, None, ⊤}
use Rattle.std.specs.List.{AllByRecursion}
use Rattle.vital_cell.specs.Environments.{NamedDelay, NamedWorth}
use Rattle.vital_typed_cells.specs.Times.{are_short}
use Rattle.vital_cell.specs.Scopes.{Scope}
use Rattle.vital_typed_cells.specs.Expressions.{Delay', Worth}

-- What a constant is worth, if it is a delay, is short.
abbrev pub IsShortWorth : Worth → Type 0
IsShortWorth (Delay' d) = are_short d ≡ true
IsShortWorth other = ⊤

abbrev pub IsShortIfAny : Option Worth → Type 0
IsShortIfAny None = ⊤
IsShortIfAny (Some w) = IsShortWorth w

abbrev pub AreShortWorths : List NamedWorth → Type 0
AreShortWorths ns = AllByRecursion (λ n. IsShortWorth n.worth) ns

abbrev pub AreShortDelays : List NamedDelay → Type 0
AreShortDelays ds = AllByRecursion (λ d. are_short d.delay ≡ true) ds

pub record HasShort (k : Scope) : Type 0 where
  pub generics : AreShortDelays k.generics
  pub constants : AreShortWorths k.constants
  pub packages : AllByRecursion IsShortIfAny k.packages
