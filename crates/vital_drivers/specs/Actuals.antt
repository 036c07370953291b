-- Where actuals stand.
use Rattle.vital_base.specs.declared.place.Place.{Place}
use Rattle.vital_nodes.specs.declared.expr.Actual.{Actual}
use Rattle.vital_nodes.specs.declared.expr.Actual.TheOpen.{Actual-F, Item-F}
use Rattle.vital_nodes.specs.declared.expr.Actual.TheViews.{out-Actual, out-Item}
use Rattle.vital_nodes.specs.declared.expr.Item.{Item}
use Rattle.vital_nodes.specs.Layers.{ActualLayer, ItemLayer}
use Rattle.vital_nodes.specs.Places.{place_of_choice, place_of_expr}

abbrev pub place_in_actual : ActualLayer → Place
place_in_actual (Actual-F.Actual::Value e) = place_of_expr e
place_in_actual (Actual-F.Actual::Open place) = place

-- An actual behind `=>` begins with its expression, or is `open`.
abbrev pub place_behind_arrow : Actual → Place
place_behind_arrow a = place_in_actual (out-Actual a)

abbrev pub place_in_item : ItemLayer → Place
place_in_item (Item-F.Others place e) = place_of_expr e
place_in_item (Item-F.Item::Open place) = place
place_in_item (Item-F.Positional c) = place_of_choice c
place_in_item (Item-F.Named a) = place_behind_arrow a.actual

-- Where the actual of an item stands.
abbrev pub place_of_actual : Item → Place
place_of_actual i = place_in_item (out-Item i)
