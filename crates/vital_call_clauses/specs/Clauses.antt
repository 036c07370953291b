-- Where L1.14 is broken.
use Rattle.std.specs.Prelude.{Bool, false, List, [], ◌∷◌, ◌++◌, Option, None, if◌then◌else◌}
use Rattle.std.specs.List.{flat_map}
use Rattle.std.specs.Option.{option_map_or}
use Rattle.vital_base.specs.declared.place.Place.{Place}
use Rattle.vital_calls.specs.Calls.{Call}
use Rattle.vital_call_clauses.specs.WrongCalls.{is_wrong_function, is_wrong_procedure}
use Rattle.vital_names.specs.Sites.{Cell, Site}
use Rattle.vital_nodes.specs.declared.stmt.Conc.{Conc}
use Rattle.vital_nodes.specs.declared.stmt.Process.{Process}
use Rattle.vital_nodes.specs.Nodes.{Node, Declaration, Interface, Concurrent, Sequential, Expression, Item, Name}
use Rattle.vital_nodes.specs.Places.{place_of_conc, place_of_name, place_of_stmt}
use Rattle.vital_statements.specs.Called.{call_of_conc, call_of_stmt}
use Rattle.vital_uses.specs.Nodes.{nodes_of_process, nodes_outside_processes}
use Rattle.vital_uses.specs.Sited.{SitedNode, own_site}
use Rattle.vital_uses.specs.Statements.{processes, statements}

abbrev pub place_if : Bool → Place → List Place
place_if is_broken place = if is_broken then place ∷ [] else []

-- A statement at a place that is a call, if it is one.
abbrev pub wrong_call : Cell → Site → Place → Option Call → List Place
wrong_call cell site place c = place_if (option_map_or (is_wrong_procedure cell site) c false) place

-- A node that is a call: a statement of a process, or a name in an expression. The name of a procedure in an expression is no call.
abbrev pub wrong_at : Cell → Site → Node → List Place
wrong_at cell site (Declaration d) = []
wrong_at cell site (Interface i) = []
wrong_at cell site (Concurrent c) = []
wrong_at cell site (Sequential s) = wrong_call cell site (place_of_stmt s) (call_of_stmt s)
wrong_at cell site (Expression e) = []
wrong_at cell site (Item i) = []
wrong_at cell site (Name r) = place_if (is_wrong_function cell site r) (place_of_name r)

abbrev pub wrong_node : Cell → SitedNode → List Place
wrong_node cell v = wrong_at cell v.site v.node

-- A concurrent statement that is a call.
abbrev pub wrong_concurrent : Cell → Conc → List Place
wrong_concurrent cell c = wrong_call cell (own_site None (place_of_conc c)) (place_of_conc c) (call_of_conc c)

abbrev pub wrong_in_process : Cell → Process → List Place
wrong_in_process cell p = flat_map (wrong_node cell) (nodes_of_process p)

-- Each call whose items are for no formal, for one twice, too few, or by position where names are asked. A call that is a statement
-- stands at its first token.
abbrev pub clause_14 : Cell → List Place
clause_14 cell =
    flat_map (wrong_node cell) (nodes_outside_processes cell)
    ++ flat_map (wrong_concurrent cell) (statements cell.arch)
    ++ flat_map (wrong_in_process cell) (processes cell.arch)
