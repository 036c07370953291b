-- Where faults of associations stand.
use Rattle.std.specs.Prelude.{Bool, not, ◌&&◌, List, [], ◌∷◌, Option, Some, None}
use Rattle.std.specs.List.{find}
use Rattle.std.specs.Option.{option_copied, option_map_or}
use Rattle.vital_base.specs.declared.place.Place.{Place}
use Rattle.vital_base.specs.Places.{is_before}
use Rattle.vital_nodes.specs.declared.expr.Actual.{Actual}
use Rattle.vital_nodes.specs.declared.expr.Actual.TheOpen.{Actual-F, Item-F}
use Rattle.vital_nodes.specs.declared.expr.Actual.TheViews.{out-Actual, out-Item}
use Rattle.vital_nodes.specs.declared.expr.Choice.{Choice}
use Rattle.vital_nodes.specs.declared.expr.Expr.{Expr}
use Rattle.vital_nodes.specs.declared.expr.Item.{Item}
use Rattle.vital_nodes.specs.declared.identifier.Identifier.{Identifier}
use Rattle.vital_nodes.specs.Layers.{ActualLayer, ItemLayer}
use Rattle.vital_nodes.specs.Places.{place_of_choice, place_of_expr}
use Rattle.vital_associations.specs.declared.point.Point.{Point as Point'}
use Rattle.vital_associations.specs.Identifiers.{identifiers_of_choice, identifiers_of_expr}

-- A place, and the identifier that stands there, if one does.
pub record Point : Type 0 where
  pub place : Place
  pub identifier : Option Identifier

abbrev pub lent : Point' → Point
lent p = record { place = p.place; identifier = option_copied p.identifier }

abbrev pub bare : Place → Point
bare place = record { place = place; identifier = None }

-- The only one of identifiers, if there is no other one.
abbrev pub only : List Identifier → Option Identifier
only [] = None
only (i ∷ []) = Some i
only (i ∷ j ∷ others) = None

abbrev pub stands_at : Place → Identifier → Bool
stands_at place i = not (is_before i.place place) && not (is_before place i.place)

-- A place, with the one of these identifiers that stands there.
abbrev pub at_place : Place → List Identifier → Point
at_place place is = record { place = place; identifier = find (stands_at place) is }

-- ---- the points of an item

-- The first token of a value or a range.
abbrev pub start_of_choice : Choice → Point
start_of_choice c = at_place (place_of_choice c) (identifiers_of_choice c)

abbrev pub start_of_expr : Expr → Point
start_of_expr e = at_place (place_of_expr e) (identifiers_of_expr e)

-- The only identifier of a formal before `=>`, or its first token where it has none or more than one.
abbrev pub formal_before_arrow : Choice → Point
formal_before_arrow c =
    option_map_or (λ i. record { place = i.place; identifier = Some i }) (only (identifiers_of_choice c)) (start_of_choice c)

abbrev pub formal_point_in : ItemLayer → Point
formal_point_in (Item-F.Others place e) = bare place
formal_point_in (Item-F.Item::Open place) = bare place
formal_point_in (Item-F.Positional c) = start_of_choice c
formal_point_in (Item-F.Named a) = formal_before_arrow a.formal

-- Where the faults of the formal of an item stand. The first token of an item by its position stands for its formal.
abbrev pub formal_point : Item → Point
formal_point i = formal_point_in (out-Item i)

abbrev pub start_in_actual : ActualLayer → Point
start_in_actual (Actual-F.Actual::Value e) = start_of_expr e
start_in_actual (Actual-F.Actual::Open place) = bare place

abbrev pub start_of_actual : Actual → Point
start_of_actual a = start_in_actual (out-Actual a)

abbrev pub actual_point_in : ItemLayer → Point
actual_point_in (Item-F.Others place e) = start_of_expr e
actual_point_in (Item-F.Item::Open place) = bare place
actual_point_in (Item-F.Positional c) = start_of_choice c
actual_point_in (Item-F.Named a) = start_of_actual a.actual

-- Where the faults of the actual of an item stand: at its first token.
abbrev pub actual_point : Item → Point
actual_point i = actual_point_in (out-Item i)
