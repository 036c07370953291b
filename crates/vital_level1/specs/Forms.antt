-- Where statements, values and defaults are not of the form or type that is asked of them, and the tables that calls use.
use Rattle.std.specs.Prelude.{List, [], ◌∷◌, ◌++◌, Some, None, if◌then◌else◌}
use Rattle.std.specs.List.{filter_map, flat_map}
use Rattle.std.specs.Option.{option_map_or}
use Rattle.vital_base.specs.declared.place.Place.{Place}
use Rattle.vital_declaration_clauses.specs.Regions.{Region, regions}
use Rattle.vital_expr.specs.Readings.{Context}
use Rattle.vital_names.specs.Sites.{Cell}
use Rattle.vital_nodes.specs.declared.decl.Decl.{Decl}
use Rattle.vital_nodes.specs.declared.decl.Iface.{Iface}
use Rattle.vital_nodes.specs.declared.expr.Reference.{Reference}
use Rattle.vital_nodes.specs.declared.stmt.Conc.{Conc}
use Rattle.vital_nodes.specs.declared.stmt.Process.{Process}
use Rattle.vital_nodes.specs.declared.stmt.Stmt.{Stmt}
use Rattle.vital_nodes.specs.declared.stmt.Stmt.TheViews.{out-Stmt}
use Rattle.vital_nodes.specs.Nodes.{Node, Name, expression_if_there, sequentials}
use Rattle.vital_nodes.specs.Walk.{nodes_of_all}
use Rattle.vital_typed_declarations.specs.Declarations.{broken_values, in_interface, in_value}
use Rattle.vital_table_uses.specs.declared.table_use.TableUse.{TableUse}
use Rattle.vital_typed_statements.specs.Statements.{context, concurrent_call, statement_of}
use Rattle.vital_table_uses.specs.TableUses.{truth_use_at}
use Rattle.vital_typed_statements.specs.Uses.{call_uses, statement_uses}
use Rattle.vital_uses.specs.Nodes.{sited_declarations, sited_interface}
use Rattle.vital_uses.specs.Parts.{value_of_decl}
use Rattle.vital_uses.specs.Sited.{Sited}
use Rattle.vital_uses.specs.Statements.{processes, statements}
use Rattle.vital_nodes.specs.Calls.{call}
use Rattle.vital_nodes.specs.Statements.{all_sequential}

-- ---- what is not of its form

abbrev pub broken_statement : Cell → List Place → Process → Stmt → List Place
broken_statement cell faults p s = (statement_of cell p faults s).places

abbrev pub broken_in_process : Cell → List Place → Process → List Place
broken_in_process cell faults p = flat_map (broken_statement cell faults p) (all_sequential p.statements)

abbrev pub broken_concurrent : Cell → List Place → Conc → List Place
broken_concurrent cell faults c = option_map_or (λ r. (concurrent_call cell faults r).places) (call c) []

-- Each actual, operand, value or target that is not of its form or type, where no name in it breaks another clause at one of these
-- faults.
abbrev pub broken_forms : Cell → List Place → List Place
broken_forms cell faults =
    broken_values cell faults
    ++ flat_map (broken_concurrent cell faults) (statements cell.arch)
    ++ flat_map (broken_in_process cell faults) (processes cell.arch)

-- ---- tables that are used

abbrev pub truth_uses : Context → List Node → List TableUse
truth_uses c vs = filter_map (truth_use_at c) vs

-- Generics and ports that are declared together share their default, as objects share their value.
abbrev pub default_of_iface : Iface → List Node
default_of_iface i = if i.is_last then expression_if_there i.parts.default else []

abbrev pub uses_of_iface : Cell → List Place → Sited Iface → List TableUse
uses_of_iface cell faults i = truth_uses (in_interface cell faults i.site) (nodes_of_all (default_of_iface i.declaration))

abbrev pub uses_of_interface : Cell → List Place → List TableUse
uses_of_interface cell faults =
    flat_map (uses_of_iface cell faults) (sited_interface cell.entity.generics)
    ++ flat_map (uses_of_iface cell faults) (sited_interface cell.entity.ports)

abbrev pub uses_of_declaration : Cell → List Place → Sited Decl → List TableUse
uses_of_declaration cell faults d = truth_uses (in_value cell faults d.site) (nodes_of_all (value_of_decl d.declaration))

abbrev pub uses_of_region : Cell → List Place → Region → List TableUse
uses_of_region cell faults r = flat_map (uses_of_declaration cell faults) (sited_declarations r.process r.declarations)

abbrev pub uses_of_call : Cell → List Place → Reference → List TableUse
uses_of_call cell faults r =
    call_uses (context cell None faults) cell None r ++ truth_uses (context cell None faults) (nodes_of_all (Name r ∷ []))

abbrev pub uses_of_concurrent : Cell → List Place → Conc → List TableUse
uses_of_concurrent cell faults c = option_map_or (uses_of_call cell faults) (call c) []

abbrev pub uses_of_statement : Cell → List Place → Process → Stmt → List TableUse
uses_of_statement cell faults p s = statement_uses (context cell (Some p) faults) cell (Some p) (out-Stmt s)

abbrev pub truth_uses_of_process : Cell → List Place → Process → List TableUse
truth_uses_of_process cell faults p = truth_uses (context cell (Some p) faults) (nodes_of_all (sequentials p.statements))

abbrev pub uses_of_process : Cell → List Place → Process → List TableUse
uses_of_process cell faults p = flat_map (uses_of_statement cell faults p) (all_sequential p.statements) ++ truth_uses_of_process cell faults p

-- Each call of a table of which the inputs, and what results are put to, are of their forms.
abbrev pub table_uses : Cell → List Place → List TableUse
table_uses cell faults =
    uses_of_interface cell faults
    ++ flat_map (uses_of_region cell faults) (regions cell.arch)
    ++ flat_map (uses_of_concurrent cell faults) (statements cell.arch)
    ++ flat_map (uses_of_process cell faults) (processes cell.arch)
