-- Statements, each part of which is of the form or type that is asked of it.
use Rattle.std.specs.Prelude.{ℕ, Bool, List, [], ◌++◌, map, Option, Some, None, codes, if◌then◌else◌}
use Rattle.std.specs.Option.{option_map_or}
use Rattle.vital_actuals.specs.declared.target.Target.{Target}
use Rattle.vital_actuals.specs.declared.target.Target.TheVariants as target
use Rattle.vital_actuals.specs.Actuals.{place_given, target_of}
use Rattle.vital_base.specs.declared.place.Place.{Place}
use Rattle.vital_calls.specs.Calls.{Call, call_of}
use Rattle.vital_calls.specs.Formals.{Formals, formals_of_procedure}
use Rattle.vital_calls.specs.Matching.{actual_of as item_for}
use Rattle.vital_call_clauses.specs.WrongCalls.{has_vector_result}
use Rattle.vital_expr.specs.Outcomes.{Outcome, all_typed, and_then, map_typed, typed}
use Rattle.vital_expr.specs.Readings.{Context, boolean_of, level_of, vector_of}
use Rattle.vital_names.specs.declared.predeclared.Procedure.{Procedure}
use Rattle.vital_names.specs.declared.predeclared.Procedure.TheVariants as procedure
use Rattle.vital_names.specs.declared.site.CellUnit.TheVariants.{Architecture}
use Rattle.vital_names.specs.Sites.{Cell, Site}
use Rattle.vital_nodes.specs.declared.expr.Expr.{Expr}
use Rattle.vital_nodes.specs.declared.expr.Item.{Item as Item'}
use Rattle.vital_nodes.specs.declared.expr.Reference.{Reference}
use Rattle.vital_nodes.specs.declared.stmt.Branch.{Branch}
use Rattle.vital_nodes.specs.declared.stmt.Process.{Process}
use Rattle.vital_nodes.specs.declared.stmt.Stmt.{Stmt}
use Rattle.vital_nodes.specs.declared.stmt.Stmt.TheOpen.{Stmt-F}
use Rattle.vital_nodes.specs.declared.stmt.Stmt.TheViews.{out-If, out-Stmt}
use Rattle.vital_nodes.specs.declared.stmt.VariableAssignment.{VariableAssignment}
use Rattle.vital_nodes.specs.Layers.{StmtLayer}
use Rattle.vital_nodes.specs.Nodes.{Item}
use Rattle.vital_operands.specs.Faults.{own_breach}
use Rattle.vital_operands.specs.Positions.{InStatement}
use Rattle.vital_statements.specs.Called.{procedure_of}
use Rattle.vital_statements.specs.Sites.{site_at}
use Rattle.vital_typed_statements.specs.declared.given.GivenActual.{GivenActual}
use Rattle.vital_typed_statements.specs.declared.statement.TypedStatement.{TypedStatement}
use Rattle.vital_typed_statements.specs.declared.statement.TypedStatement.TheVariants as statement
use Rattle.vital_typed_statements.specs.declared.statement.Value.{Value}
use Rattle.vital_typed_statements.specs.declared.statement.Value.TheVariants as value
use Rattle.vital_typed_statements.specs.Given.{all_given, are_all_typed, broken_ones, typed_ones}
use Rattle.vital_typed_statements.specs.StateTables.{fits, has_too_many_states, has_wrong_inputs, has_wrong_kept}

-- Where the statements of a cell stand: in a process or outside of all.
abbrev pub context : Cell → Option Process → List Place → Context
context cell process faults = record { position = InStatement cell Architecture process; faults = faults }

-- ---- assignments

-- A value for a target: a level, or a vector of its length.
abbrev pub value_for : Context → Target → Expr → Outcome Value
value_for c (target.Level name) e = map_typed (λ t. value.Level t) (level_of c e)
value_for c (target.Element name n) e = map_typed (λ t. value.Level t) (level_of c e)
value_for c (target.Vector name n) e = map_typed (λ v. value.Vector v) (vector_of c (Some n) e)

abbrev pub assigned : Context → Expr → Target → Outcome TypedStatement
assigned c e t = map_typed (λ v. statement.Assignment t v) (value_for c t e)

-- Of a value for what is no target nothing is asked.
abbrev pub assignment : Context → VariableAssignment → Outcome TypedStatement
assignment c a = and_then (assigned c a.value) (target_of c a.target)

-- ---- calls

-- The place of the actual for the formal of a name, if a test holds and no name in it breaks another clause.
abbrev pub breach_at : Context → Option Item' → List Place
breach_at c None = []
breach_at c (Some i) = own_breach c.faults (place_given i) (Item i)

abbrev pub breach_if : Bool → Context → Formals → List Item' → List ℕ → List Place
breach_if is_broken c fs is name = if is_broken then breach_at c (item_for is fs name) else []

-- What does not go with the other actuals of a state table: a number of states, the inputs, and what keeps them.
abbrev pub misfits : Context → Formals → List Item' → List GivenActual → List Place
misfits c fs is gs =
    breach_if (has_too_many_states gs) c fs is (codes "numstates")
    ++ (breach_if (has_wrong_inputs gs) c fs is (codes "datain") ++ breach_if (has_wrong_kept gs) c fs is (codes "previousdatain"))

-- A call whose actuals are all of their forms.
abbrev pub typed_call : Procedure → List (Outcome GivenActual) → Option TypedStatement
typed_call q os = if are_all_typed os then Some (statement.Call q (typed_ones os)) else None

abbrev pub plain_call : Procedure → List (Outcome GivenActual) → Outcome TypedStatement
plain_call q os = record { tree = typed_call q os; places = broken_ones os }

abbrev pub state_table_call : Context → Formals → List Item' → List (Outcome GivenActual) → Outcome TypedStatement
state_table_call c fs is os = record {
  tree = if fits (typed_ones os) then typed_call procedure.StateTable os else None;
  places = broken_ones os ++ misfits c fs is (typed_ones os);
}

abbrev pub call_by : Context → Formals → List Item' → Procedure → Outcome TypedStatement
call_by c fs is procedure.StateTable = state_table_call c fs is (all_given c fs is)
call_by c fs is q = plain_call q (all_given c fs is)

-- A call of a procedure at a site.
abbrev pub call_of_procedure : Context → Cell → Site → List Item' → Procedure → Outcome TypedStatement
call_of_procedure c cell site is q = call_by c (formals_of_procedure q (has_vector_result cell site is)) is q

abbrev pub call_meant : Context → Cell → Option Process → Call → Outcome TypedStatement
call_meant c cell process call =
    option_map_or (call_of_procedure c cell (site_at process call.identifier.place) call.items) (procedure_of cell process call) (typed statement.Other)

-- A name that is a call. Where it is none, or no predeclared procedure is called, nothing is asked.
abbrev pub call_statement : Context → Cell → Option Process → Reference → Outcome TypedStatement
call_statement c cell process r = option_map_or (call_meant c cell process) (call_of r) (typed statement.Other)

-- ---- statements

-- The conditions of an `if`.
abbrev pub conditions : Context → List Branch → Outcome TypedStatement
conditions c bs = map_typed (λ ts. statement.Conditions ts) (all_typed (map (λ b. boolean_of c b.condition) bs))

-- A statement of a process, without those that stand in it.
abbrev pub statement_in : Context → Cell → Option Process → StmtLayer → Outcome TypedStatement
statement_in c cell process (Stmt-F.VariableAssignment place a) = assignment c a
statement_in c cell process (Stmt-F.SignalAssignment place a) = typed statement.Other
statement_in c cell process (Stmt-F.Call place name) = call_statement c cell process name
statement_in c cell process (Stmt-F.If place i) = conditions c (out-If i).branches
statement_in c cell process (Stmt-F.Null place) = typed statement.Other

abbrev pub statement_of : Cell → Process → List Place → Stmt → Outcome TypedStatement
statement_of cell p faults s = statement_in (context cell (Some p) faults) cell (Some p) (out-Stmt s)

-- A concurrent call of a cell.
abbrev pub concurrent_call : Cell → List Place → Reference → Outcome TypedStatement
concurrent_call cell faults r = call_statement (context cell None faults) cell None r
