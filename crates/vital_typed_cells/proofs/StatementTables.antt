-- The tables that the statements of a process name are in the scope of the process.
use Rattle.std.proofs.Common.{List, [], ◌++◌, Some, None, refl, subst}
use Rattle.std.specs.List.{AllByRecursion, flat_map}
use Rattle.vital_base.specs.declared.place.Place.{Place}
use Rattle.vital_level1.specs.Forms.{truth_uses_of_process, uses_of_statement}
use Rattle.vital_names.specs.Declarations.{body_of, declared_in}
use Rattle.vital_names.specs.Sites.{Cell}
use Rattle.vital_nodes.specs.declared.stmt.Process.{Process}
use Rattle.vital_nodes.specs.Nodes.{Node, sequentials}
use Rattle.vital_nodes.specs.Places.{place_of}
use Rattle.vital_nodes.specs.Walk.{nodes_of_all}
use Rattle.vital_objects.specs.Constants.{constants}
use Rattle.vital_objects.specs.declared.constant.Constant.{Constant}
use Rattle.vital_objects.specs.Signals.{declarations}
use Rattle.vital_typed_cells.specs.Typed.{typed, typed_with}
use Rattle.vital_typed_statements.specs.Statements.{context}
use Rattle.vital_uses.specs.Sited.{own_site}
use Rattle.vital_nodes.specs.Statements.{all_sequential}
use Rattle.vital_typed_cells.specs.Calls.{HasTableAt}
use Rattle.vital_as_read.specs.AsRead.{IsAsRead}
use Rattle.vital_typed_cells.specs.Scopes.{scope_of}
use Rattle.vital_typed_cells.proofs.Bridge.{HasValue, value-back}
use Rattle.vital_typed_cells.proofs.CellTables.{TableValue, interface-tables}
use Rattle.vital_typed_cells.proofs.Facts.{Meets, body-is, values-kept}
use Rattle.vital_typed_cells.proofs.Found.{weaker}
use Rattle.vital_typed_cells.proofs.NamedConstants.{FreeAt, Known, meaning-known}
use Rattle.vital_typed_cells.proofs.Regions.{back-all}
use Rattle.vital_typed_cells.proofs.Seen.{Before, Declares, meaning-has, site_at}
use Rattle.vital_typed_cells.proofs.Tabled.{body-met}
use Rattle.vital_typed_cells.proofs.TruthTables.{Reads, nodes-tables}
use Rattle.vital_typed_cells.proofs.Uses.{Fits}
use Rattle.vital_typed_cells.proofs.ValueTrees.{AllTold}
use Rattle.vital_typed_cells.proofs.Views.{IsGood, own-constants-of, view}

-- What the statements of a process see of constants.
abbrev pub seen_constants : Cell → Process → List Constant
seen_constants cell q = constants cell [] (Some q) q.declarations ++ constants cell [] None (declarations cell.arch)

body-values : (told : AllTold) (cell : Cell) (q : Process) → IsAsRead cell → Meets cell → AllByRecursion (HasValue cell (seen_constants cell q)) (body_of cell.arch)
body-values told cell q read met =
    subst (AllByRecursion (HasValue cell (seen_constants cell q))) (body-is cell.arch)
    (weaker (HasValue cell (constants cell [] None (declarations cell.arch))) (HasValue cell (seen_constants cell q))
    (value-back cell (constants cell [] (Some q) q.declarations) (constants cell [] None (declarations cell.arch))) (declared_in (declarations cell.arch))
    (values-kept cell None (declarations cell.arch) told read.arch.together (body-met cell read met)))

declares-tables : (told : AllTold) (cell : Cell) (q : Process) (v : Place) → IsAsRead cell → Meets cell → IsGood cell q → Declares (TableValue cell (seen_constants cell q)) cell (Some q) v
declares-tables told cell q v read met good = record {
  in_process =
      weaker (HasValue cell (seen_constants cell q)) (Before (TableValue cell (seen_constants cell q)) v) (λ d value. λ before. value.table) (declared_in q.declarations) (own-constants-of told cell q good);
  in_arch = weaker (HasValue cell (seen_constants cell q)) (Before (TableValue cell (seen_constants cell q)) v) (λ d value. λ before. value.table) (body_of cell.arch) (body-values told cell q read met);
  in_entity = interface-tables cell (seen_constants cell q);
}

-- What a name means at a node.
abbrev pub FreeNode : Cell → Process → Node → Type 0
FreeNode cell q v = FreeAt cell (own_site (Some q) (place_of v)) v

pub statement-reads : (told : AllTold) (cell : Cell) (q : Process) → IsAsRead cell → Meets cell → IsGood cell q → Reads cell (view cell q) (context cell (Some q) []) (FreeNode cell q)
unfolding typed typed_with place_of
statement-reads told cell q read met good = record {
  packages = refl;
  named = λ r free.
      meaning-has (TableValue cell (seen_constants cell q)) (Known cell) r.identifier.name cell (Some q) r.identifier.place (declares-tables told cell q r.identifier.place read met good)
      (meaning-known cell (site_at (Some q) r.identifier.place) r.identifier.name read.packages free);
}

pub statement-tables : (told : AllTold) (cell : Cell) (q : Process) → IsAsRead cell → Meets cell → IsGood cell q → AllByRecursion (HasTableAt (scope_of (view cell q)) (context cell (Some q) [])) (nodes_of_all (sequentials q.statements))
statement-tables told cell q read met good =
    nodes-tables cell (view cell q) (context cell (Some q) []) (FreeNode cell q) (sequentials q.statements) (statement-reads told cell q read met good) good.free.nodes
    (back-all (Fits cell) (flat_map (uses_of_statement cell [] q) (all_sequential q.statements)) (truth_uses_of_process cell [] q) good.free.fits)
