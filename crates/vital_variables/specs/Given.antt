-- What is given to formals in the calls of processes.
use Rattle.std.specs.Prelude.{Bool, false, List, [], Option, Some, None, if◌then◌else◌}
use Rattle.std.specs.List.{filter_map}
use Rattle.std.specs.Option.{option_and_then, option_map_or}
use Rattle.vital_nodes.specs.declared.expr.Item.{Item}
use Rattle.vital_nodes.specs.declared.expr.Reference.{Reference}
use Rattle.vital_nodes.specs.declared.identifier.Identifier.{Identifier}
use Rattle.vital_nodes.specs.declared.stmt.Process.{Process}
use Rattle.vital_nodes.specs.declared.stmt.Stmt.{Stmt}
use Rattle.vital_nodes.specs.declared.stmt.Stmt.TheOpen.{Stmt-F}
use Rattle.vital_nodes.specs.declared.stmt.Stmt.TheViews.{out-Stmt}
use Rattle.vital_nodes.specs.Layers.{StmtLayer}
use Rattle.vital_nodes.specs.Calls.{call_items}
use Rattle.vital_nodes.specs.Items.{actual}
use Rattle.vital_nodes.specs.Names.{identifier_of}
use Rattle.vital_names.specs.declared.predeclared.Procedure.{Procedure}
use Rattle.vital_names.specs.Kinds.{procedure_meant}
use Rattle.vital_names.specs.Sites.{Cell}
use Rattle.vital_calls.specs.declared.actual_form.ActualForm.{ActualForm}
use Rattle.vital_calls.specs.Formals.{formals_of_procedure}
use Rattle.vital_calls.specs.Matching.{form_of}
use Rattle.vital_variables.specs.declared.formal_use.FormalUse.{FormalUse}
use Rattle.vital_variables.specs.FormalUses.{is_of}
use Rattle.vital_variables.specs.Meant.{meant}

-- ---- items

-- What the formal that an item is for asks of its actual. The formals that are asked about here come by their names alone, and
-- both kinds of state table have those of them that any has: so neither the position of the item nor the kind says anything.
unfoldable pub form_for : Procedure → Item → Option ActualForm
form_for pr i = form_of (formals_of_procedure pr false) 0 i

-- The item is for a formal with which the procedure does this.
abbrev pub is_given : FormalUse → Procedure → Item → Bool
is_given formals pr i = option_map_or (is_of formals) (form_for pr i) false

-- The identifier that an item gives alone.
abbrev pub identifier_given : Item → Option Identifier
identifier_given i = option_and_then identifier_of (actual i)

-- The identifier that an item gives alone to a formal with which the procedure does this.
abbrev pub given_by : FormalUse → Procedure → Item → Option Identifier
given_by formals pr i = if is_given formals pr i then identifier_given i else None

-- ---- calls

-- The predeclared procedure that the name of a call in a process means where it stands, if it means one.
abbrev pub called : Cell → Process → Reference → Option Procedure
called cell p r = option_and_then procedure_meant (meant cell p r.identifier)

-- The identifiers that items give alone to those formals of a procedure.
abbrev pub given_to : FormalUse → Option Procedure → List Item → List Identifier
given_to formals None is = []
given_to formals (Some pr) is = filter_map (given_by formals pr) is

-- The same in a call, and in a statement, which gives nothing if it is no call.
abbrev pub given_in_call : FormalUse → Cell → Process → Reference → List Identifier
given_in_call formals cell p r = given_to formals (called cell p r) (call_items r)

abbrev pub given_in : FormalUse → Cell → Process → StmtLayer → List Identifier
given_in formals cell p (Stmt-F.VariableAssignment place a) = []
given_in formals cell p (Stmt-F.SignalAssignment place a) = []
given_in formals cell p (Stmt-F.Call place name) = given_in_call formals cell p name
given_in formals cell p (Stmt-F.If place i) = []
given_in formals cell p (Stmt-F.Null place) = []

abbrev pub given : FormalUse → Cell → Process → Stmt → List Identifier
given formals cell p s = given_in formals cell p (out-Stmt s)
