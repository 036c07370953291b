-- The actuals of a call, each of the form that its formal asks.
use Rattle.std.specs.Prelude.{ℕ, Bool, is_some, List, Option}
use Rattle.std.specs.List.{enumerate_from, filter_map, find, flat_map, list_all}
use Rattle.std.specs.Option.{option_and_then, option_map}
use Rattle.std.specs.Str.{bytes_eq}
use Rattle.vital_actuals.specs.declared.actual.Actual.{Actual}
use Rattle.vital_actuals.specs.Actuals.{actual_of}
use Rattle.vital_base.specs.declared.place.Place.{Place}
use Rattle.vital_calls.specs.Formals.{Formals}
use Rattle.vital_calls.specs.Matching.{form_of, formal_name}
use Rattle.vital_expr.specs.Outcomes.{Outcome, map_typed}
use Rattle.vital_expr.specs.Readings.{Context}
use Rattle.vital_nodes.specs.declared.expr.Item.{Item}
use Rattle.vital_typed_statements.specs.declared.given.GivenActual.{GivenActual}

-- An actual that is given for the formal of a name.
abbrev pub given_as : List ℕ → Actual → GivenActual
given_as name a = record { formal = name; actual = a }

-- What the item at a position of a call gives, if it is for a formal.
abbrev pub given_by : Context → Formals → (ℕ × Item) → Option (Outcome GivenActual)
given_by c fs p =
    option_and_then (λ f. option_map (λ name. map_typed (given_as name) (actual_of c f p.1)) (formal_name fs p.0 p.1)) (form_of fs p.0 p.1)

-- What all items of a call give, in their order. What is for no formal gives nothing.
abbrev pub all_given : Context → Formals → List Item → List (Outcome GivenActual)
all_given c fs is = filter_map (given_by c fs) (enumerate_from 0 is)

-- Of these those that are of their form.
abbrev pub typed_ones : List (Outcome GivenActual) → List GivenActual
typed_ones os = filter_map (λ o. o.tree) os

abbrev pub are_all_typed : List (Outcome GivenActual) → Bool
are_all_typed os = list_all (λ o. is_some o.tree) os

abbrev pub broken_ones : List (Outcome GivenActual) → List Place
broken_ones os = flat_map (λ o. o.places) os

-- The actual that is given for the formal of a name.
abbrev pub actual_for : List ℕ → List GivenActual → Option Actual
actual_for name gs = option_map (λ g. g.actual) (find (λ g. bytes_eq g.formal name) gs)
