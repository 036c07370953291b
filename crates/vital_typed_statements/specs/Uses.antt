-- The state tables that calls use, and how their columns are parted there.
use Rattle.std.specs.Prelude.{ℕ, Bool, not, ◌&&◌, List, [], Option, Some, None, codes, if◌then◌else◌}
use Rattle.std.specs.Option.{option_and_then, option_map, option_map_or, option_to_list}
use Rattle.vital_actuals.specs.declared.target.Target.{Target}
use Rattle.vital_call_clauses.specs.WrongCalls.{has_vector_result}
use Rattle.vital_calls.specs.Calls.{Call, call_of}
use Rattle.vital_calls.specs.Formals.{Formals, formals_of_procedure}
use Rattle.vital_calls.specs.Matching.{actual_of as item_for}
use Rattle.vital_declarations.specs.declared.declared_type.TableType.TheVariants as table
use Rattle.vital_expr.specs.Readings.{Context}
use Rattle.vital_names.specs.declared.predeclared.Procedure.{Procedure}
use Rattle.vital_names.specs.declared.predeclared.Procedure.TheVariants as procedure
use Rattle.vital_names.specs.Sites.{Cell, Site}
use Rattle.vital_nodes.specs.declared.expr.Item.{Item as Item'}
use Rattle.vital_nodes.specs.declared.expr.Reference.{Reference}
use Rattle.vital_nodes.specs.declared.stmt.Process.{Process}
use Rattle.vital_nodes.specs.declared.stmt.Stmt.TheOpen.{Stmt-F}
use Rattle.vital_nodes.specs.Layers.{StmtLayer}
use Rattle.vital_statements.specs.Called.{procedure_of}
use Rattle.vital_statements.specs.Sites.{site_at}
use Rattle.vital_nodes.specs.Items.{actual as actual_given}
use Rattle.vital_typed_statements.specs.declared.given.GivenActual.{GivenActual}
use Rattle.vital_table_uses.specs.declared.table_use.TableUse.{TableUse}
use Rattle.vital_table_uses.specs.declared.table_use.UsedTable.{UsedTable}
use Rattle.vital_table_uses.specs.TableUses.{use_of, used_table}
use Rattle.vital_typed_statements.specs.Given.{all_given, typed_ones}
use Rattle.vital_typed_statements.specs.StateTables.{columns, count, has_too_many_states, has_wrong_inputs, inputs, result, states_of}

-- ---- calls of VitalStateTable, whose inputs and result are of their forms, and the number of states

-- How many columns are inputs and how many are states, where all columns are parted.
abbrev pub parting_by : Option ℕ → Option ℕ → Option ℕ → Option (ℕ × ℕ)
parting_by (Some columns) (Some inputs) (Some states) = Some (inputs, states)
parting_by columns inputs states = None

abbrev pub parting_for : List GivenActual → Target → Option (ℕ × ℕ)
parting_for gs t = parting_by (columns gs) (inputs gs) (states_of (count gs) t)

abbrev pub is_parted : List GivenActual → Bool
is_parted gs = not (has_too_many_states gs) && not (has_wrong_inputs gs)

abbrev pub parting : List GivenActual → Option (ℕ × ℕ)
parting gs = if is_parted gs then option_and_then (parting_for gs) (result gs) else None

abbrev pub state_table : Context → Formals → List Item' → Option UsedTable
state_table c fs is = option_and_then (used_table table.State c.position) (option_and_then actual_given (item_for is fs (codes "statetable")))

abbrev pub state_use : Context → Formals → List Item' → List GivenActual → Option TableUse
state_use c fs is gs = option_and_then (λ q. option_map (use_of table.State q.0 q.1) (state_table c fs is)) (parting gs)

abbrev pub uses_by : Context → Formals → List Item' → Procedure → List TableUse
uses_by c fs is procedure.StateTable = option_to_list (state_use c fs is (typed_ones (all_given c fs is)))
uses_by c fs is q = []

abbrev pub uses_of_procedure : Context → Cell → Site → List Item' → Procedure → List TableUse
uses_of_procedure c cell site is q = uses_by c (formals_of_procedure q (has_vector_result cell site is)) is q

abbrev pub uses_meant : Context → Cell → Option Process → Call → List TableUse
uses_meant c cell process call =
    option_map_or (uses_of_procedure c cell (site_at process call.identifier.place) call.items) (procedure_of cell process call) []

-- The state table that a call of a name uses.
abbrev pub call_uses : Context → Cell → Option Process → Reference → List TableUse
call_uses c cell process r = option_map_or (uses_meant c cell process) (call_of r) []

-- The state table that a statement uses, without those that stand in it.
abbrev pub statement_uses : Context → Cell → Option Process → StmtLayer → List TableUse
statement_uses c cell process (Stmt-F.VariableAssignment place a) = []
statement_uses c cell process (Stmt-F.SignalAssignment place a) = []
statement_uses c cell process (Stmt-F.Call place name) = call_uses c cell process name
statement_uses c cell process (Stmt-F.If place i) = []
statement_uses c cell process (Stmt-F.Null place) = []
