-- Declarations of which each stands before all behind it.
use Rattle.std.proofs.Common.{suc, List, [], ◌∷◌, Option, Some, None, arith}
use Rattle.std.specs.Prelude.{⊤, AllPairs, IfSome}
use Rattle.std.specs.List.{AllByRecursion, cons_option}
use Rattle.std.proofs.lemmas.List.Elements.{recursion_from_All}
use Rattle.vital_names.specs.Declarations.{Declared}
use Rattle.vital_as_read.specs.AsRead.{StandsBefore}

abbrev pub InOrder : List Declared → Type 0
InOrder [] = ⊤
InOrder (d ∷ ds) = AllByRecursion (StandsBefore d) ds × InOrder ds

pub in-order : (ds : List Declared) → AllPairs StandsBefore ds → InOrder ds
in-order [] order = tt
in-order (d ∷ ds) order =
    (recursion_from_All (StandsBefore d) ds (λ k e inside. order 0 (suc k) e (omega arith) (omega arith)), in-order ds (λ i j e before inside. order (suc i) (suc j) e (omega arith) (omega arith)))

pub order-head : (o : Option Declared) (ds : List Declared) → InOrder (cons_option o ds) → IfSome o (λ d. AllByRecursion (StandsBefore d) ds)
order-head None ds order = tt
order-head (Some d) ds order = order.0

pub order-tail : (o : Option Declared) (ds : List Declared) → InOrder (cons_option o ds) → InOrder ds
order-tail None ds order = order
order-tail (Some d) ds order = order.1
