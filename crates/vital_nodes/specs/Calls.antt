-- Calls of procedures (IEEE 1076-1993, 8.6 and 9.3).
use Rattle.std.specs.Prelude.{List, [], ◌∷◌, Option, Some, None, unwrap_or}
use Rattle.vital_nodes.specs.declared.expr.Item.{Item}
use Rattle.vital_nodes.specs.declared.expr.Reference.{Reference}
use Rattle.vital_nodes.specs.declared.expr.Suffix.{Suffix}
use Rattle.vital_nodes.specs.declared.stmt.Conc.{Conc}
use Rattle.vital_nodes.specs.declared.stmt.Conc.TheOpen.{Conc-F}
use Rattle.vital_nodes.specs.declared.stmt.Conc.TheViews.{out-Conc}
use Rattle.vital_nodes.specs.Layers.{ConcLayer}
use Rattle.vital_nodes.specs.Names.{items_of}

-- A name with these maps, if they are none.
abbrev pub without_maps : List Item → List Item → Reference → Option Reference
without_maps [] [] name = Some name
without_maps [] (p ∷ ports) name = None
without_maps (g ∷ generics) ports name = None

-- The name of a call: without a label, or with a label and no maps.
abbrev pub call_in : ConcLayer → Option Reference
call_in (Conc-F.Process place label p) = None
call_in (Conc-F.ComponentInstance place i) = None
call_in (Conc-F.Instance place i) = without_maps i.generics i.ports i.unit
call_in (Conc-F.Block place label b) = None
call_in (Conc-F.Call place name) = Some name
call_in (Conc-F.SignalAssignment place a) = None

abbrev pub call : Conc → Option Reference
call c = call_in (out-Conc c)

-- The items of a call: those of the one parenthesis behind its identifier.
abbrev pub items_if_only : List Suffix → List Item
items_if_only [] = []
items_if_only (s ∷ []) = unwrap_or (items_of s) []
items_if_only (s ∷ t ∷ others) = []

abbrev pub call_items : Reference → List Item
call_items r = items_if_only r.suffixes
